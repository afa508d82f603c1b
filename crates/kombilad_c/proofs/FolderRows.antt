-- The rows and the names of entries, written one after the other.
use Rattle.std.proofs.Common.{◌≡◌, ℕ, zero, suc, ◌+◌, ◌≤◌, ◌<◌, List, [], ◌∷◌, ◌++◌, length, take, drop, get_or, refl, sym, ap, ◌∙◌, arith, add-one, append_assoc, length-append}
use Rattle.std.specs.Prelude.{map, slice_set}
use Rattle.std.proofs.lemmas.List.{append-nil}
use Rattle.unixfs_folders.specs.Folders.{EntryParts}
use Rattle.unixfs_folders.specs.Views.{entry_parts}
use Rattle.unixfs_folders.specs.declared.folder.FolderEntry.{FolderEntry}
use Rattle.kombilad_c.specs.declared.folder.EntryRow.{EntryRow}
use Rattle.kombilad_c.specs.Folder.{row_at, rows_from, names_of}

-- the first elements, and the next one
one_more_suc : {A B : Type 0} (f : A → B) (n : ℕ) (xs : List A) (d : A) → n < length xs → map f (take (suc n) xs) ≡ map f (take n xs) ++ f (get_or xs n d) ∷ []
one_more_suc f n [] d few = absurd (omega (arith, few))
one_more_suc f zero (x ∷ xs) d few = refl
one_more_suc f (suc n) (x ∷ xs) d few = ap (λ ys. f x ∷ ys) (one_more_suc f n xs d (omega (arith, few)))

one_more : {A B : Type 0} (f : A → B) (n : ℕ) (xs : List A) (d : A) → n < length xs → map f (take (n + 1) xs) ≡ map f (take n xs) ++ f (get_or xs n d) ∷ []
one_more f n xs d few = ap (λ (k : ℕ). map f (take k xs)) (add-one n) ∙ one_more_suc f n xs d few

rows_more : (at : ℕ) (es : List EntryParts) (e : EntryParts) → rows_from at (es ++ e ∷ []) ≡ rows_from at es ++ row_at (at + length (names_of es)) e ∷ []
rows_more at [] e = ap (λ (n : ℕ). row_at n e ∷ []) (omega arith)
rows_more at (x ∷ es) e =
    ap (λ rows. row_at at x ∷ rows) (rows_more (at + length x.name) es e
    ∙ ap (λ (n : ℕ). rows_from (at + length x.name) es ++ row_at n e ∷ []) (let both = length-append x.name (names_of es) in omega (arith, both)))

names_more : (es : List EntryParts) (e : EntryParts) → names_of (es ++ e ∷ []) ≡ names_of es ++ e.name
names_more [] e = append-nil e.name
names_more (x ∷ es) e = ap (λ bytes. x.name ++ bytes) (names_more es e) ∙ sym (append_assoc x.name (names_of es) e.name)

rows_length : (at : ℕ) (es : List EntryParts) → length (rows_from at es) ≡ length es
rows_length at [] = refl
rows_length at (e ∷ es) = ap suc (rows_length (at + length e.name) es)

-- an element behind those that were written
set_behind : {A : Type 0} (front buffer : List A) (v : A) → length front < length buffer
    → slice_set (front ++ drop (length front) buffer) (length front) v ≡ (front ++ v ∷ []) ++ drop (suc (length front)) buffer
set_behind [] [] v room = absurd (omega (arith, room))
set_behind [] (b ∷ buffer) v room = refl
set_behind (x ∷ front) [] v room = absurd (omega (arith, room))
set_behind (x ∷ front) (b ∷ buffer) v room = ap (λ xs. x ∷ xs) (set_behind front buffer v (omega (arith, room)))

-- a content behind the content that was written
put_behind : {A : Type 0} (front buffer content : List A) (end : ℕ) → end ≡ length front + length content → length front ≤ length buffer
    → take (length front) (front ++ drop (length front) buffer) ++ (content ++ drop end (front ++ drop (length front) buffer))
    ≡ (front ++ content) ++ drop (length (front ++ content)) buffer
put_behind [] buffer content end is room = ap (λ (k : ℕ). content ++ drop k buffer) (omega (arith, is))
put_behind (x ∷ front) [] content end is room = absurd (omega (arith, room))
put_behind (x ∷ front) (b ∷ buffer) content end is room =
    let same : end ≡ suc (length front + length content) = omega (arith, is) in
    ap (λ (k : ℕ). x ∷ (take (length front) (front ++ drop (length front) buffer) ++ (content ++ drop k (x ∷ (front ++ drop (length front) buffer))))) same
    ∙ ap (λ xs. x ∷ xs) (put_behind front buffer content (length front + length content) refl (omega (arith, room)))

-- ---- the next entry

pub done_next : (xs : List FolderEntry) (index : ℕ) (x : FolderEntry) → x ≡ get_or xs index x → index < length xs → map entry_parts (take (index + 1) xs) ≡ map entry_parts (take index xs) ++ entry_parts x ∷ []
done_next xs index x is few = one_more entry_parts index xs x few ∙ ap (λ (y : FolderEntry). map entry_parts (take index xs) ++ entry_parts y ∷ []) (sym is)

pub done_length : (xs : List FolderEntry) (index : ℕ) → index ≤ length xs → index ≡ length (map entry_parts (take index xs))
done_length [] zero few = refl
done_length [] (suc index) few = absurd (omega (arith, few))
done_length (x ∷ xs) zero few = refl
done_length (x ∷ xs) (suc index) few = ap suc (done_length xs index (omega (arith, few)))

pub rows_next : (done : List EntryParts) (e : EntryParts) (index at : ℕ) (start now : List EntryRow) (row : EntryRow) → now ≡ rows_from 0 done ++ drop index start → index ≡ length done
    → at ≡ length (names_of done) → row ≡ row_at at e → index < length start → slice_set now index row ≡ rows_from 0 (done ++ e ∷ []) ++ drop (index + 1) start
rows_next done e index at start now row so_far index_is at_is row_is few =
    let rows = rows_from 0 done in
    let long : length rows ≡ index = rows_length 0 done ∙ sym index_is in
    let placed : row ≡ row_at (0 + length (names_of done)) e = row_is ∙ ap (λ (n : ℕ). row_at n e) (omega (arith, at_is)) in
    ap (λ (b : List EntryRow). slice_set b index row) so_far
    ∙ ap (λ (k : ℕ). slice_set (rows ++ drop k start) k row) (sym long)
    ∙ set_behind rows start row (omega (arith, long, few))
    ∙ ap (λ (k : ℕ). (rows ++ row ∷ []) ++ drop k start) (ap suc long ∙ sym (add-one index))
    ∙ ap (λ (b : List EntryRow). b ++ drop (index + 1) start) (ap (λ (r : EntryRow). rows ++ r ∷ []) placed ∙ sym (rows_more 0 done e))

pub names_next : (done : List EntryParts) (e : EntryParts) (at : ℕ) (start now new : List ℕ) → now ≡ names_of done ++ drop (length (names_of done)) start → at ≡ length (names_of done)
    → new ≡ take at now ++ (e.name ++ drop (at + length e.name) now) → length (names_of done) ≤ length start
    → new ≡ names_of (done ++ e ∷ []) ++ drop (length (names_of (done ++ e ∷ []))) start
names_next done e at start now new so_far at_is new_is room =
    let front = names_of done in
    new_is
    ∙ ap (λ (k : ℕ). take k now ++ (e.name ++ drop (k + length e.name) now)) at_is
    ∙ ap (λ (b : List ℕ). take (length front) b ++ (e.name ++ drop (length front + length e.name) b)) so_far
    ∙ put_behind front start e.name (length front + length e.name) refl room
    ∙ ap (λ (b : List ℕ). b ++ drop (length b) start) (sym (names_more done e))

pub names_length : (done : List EntryParts) (e : EntryParts) → length (names_of (done ++ e ∷ [])) ≡ length (names_of done) + length e.name
names_length done e = ap length (names_more done e) ∙ length-append (names_of done) e.name

-- the names of the first entries
pub names_within : (xs : List FolderEntry) (index : ℕ) → length (names_of (map entry_parts (take index xs))) ≤ length (names_of (map entry_parts xs))
names_within [] zero = omega arith
names_within [] (suc index) = omega arith
names_within (x ∷ xs) zero = omega arith
names_within (x ∷ xs) (suc index) =
    let more = names_within xs index in
    let few = length-append x.name.now (names_of (map entry_parts (take index xs))) in
    let all = length-append x.name.now (names_of (map entry_parts xs)) in
    omega (arith, more, few, all)
