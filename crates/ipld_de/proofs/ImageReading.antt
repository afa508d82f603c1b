-- Values that are read part by part: lists item by item, and structs entry by entry.
use Rattle.std.proofs.Common.{◌≡◌, inr, ℕ, zero, suc, ◌-◌, List, [], ◌∷◌, ◌++◌, length, map, slice_get, Bool, true, false, Option, Some, None, Result, Ok, Err, IfOk, OnOk, codes, refl, sym, ap, ap₂, subst, ◌∙◌, arith}
use Rattle.std.proofs.lemmas.List.{map-append, length-append}
use Rattle.std.specs.Str.{bytes_eq}
use Rattle.ipld_tree.specs.Index.{value_at}
use Rattle.ipld_tree.specs.Tree.{Tree, list, entries, Items, Members, no_members, member}
use Rattle.ipld_tree.specs.TreeOf.{as_items}
use Rattle.ipld_ser.specs.Image.{both}
use Rattle.ipld_ser.specs.declared.error.SerdeError.{SerdeError}
use Rattle.ipld_de.specs.Composites.{read_all, list_reading, read_end, read_part, tuple_reading}
use Rattle.ipld_de.specs.Fields.{among, AreDistinct, under_each, struct_reading, Part, accepts_at, accepts_named, FieldsError, StructReadError}
use Rattle.ipld_de.specs.ImageFields.{ValueRead, EntryRead, EntriesRead}
use Rattle.ipld_de.specs.ImageReader.{BeginsRead, BeginsMissing, BeginAll, BeginAllRead, BeginPartsRead, BeginsEntry, BeginEntries, Follows, KeysAscend, entered, AllPass, ListsBegin, MapsBegin}
use Rattle.ipld_de.specs.Reading.{IsCustom}
use Rattle.ipld_de.proofs.FieldErrors.{accepts-named, none-named}
use Rattle.ipld_de.proofs.Naming.{first_offered, other_way, not_later}

-- ---- items

split : {C : Type 0} (o : Option C) (p : Option (List C)) (cs : List C) → both ◌∷◌ o p ≡ Some cs → (d : C) × (ds : List C) × (o ≡ Some d) × (p ≡ Some ds) × (d ∷ ds ≡ cs)
split None p cs is = absurd cc
split (Some d) None cs is = absurd cc
split (Some d) (Some ds) cs is = (d, ds, refl, refl, cc)

read_more : {C : Type 0} (reads : Tree → Option C) (ts : List Tree) (t : Tree) (cs : List C) (c : C)
    → read_all reads (as_items ts) ≡ Some cs → reads t ≡ Some c → read_all reads (as_items (ts ++ t ∷ [])) ≡ Some (cs ++ c ∷ [])
read_more reads [] t cs c is one =
    let none : [] ≡ cs = cc in
    ap (λ o. both ◌∷◌ o (Some [])) one ∙ ap (λ ds. Some (ds ++ c ∷ [])) none
read_more reads (u ∷ ts) t cs c is one =
    let s = split (reads u) (read_all reads (as_items ts)) cs is in
    ap (λ o. both ◌∷◌ o (read_all reads (as_items (ts ++ t ∷ [])))) s.2 ∙ ap (both ◌∷◌ (Some s.0)) (read_more reads ts t s.1 c s.3 one) ∙ ap (λ ds. Some (ds ++ c ∷ [])) s.4

module _ (begins : Tree → List ℕ → List ℕ → Type 0) where
  all_more : (ts : List Tree) (t : Tree) (bytes middle rest : List ℕ) → BeginAll begins ts bytes middle → begins t middle rest → BeginAll begins (ts ++ t ∷ []) bytes rest
  all_more [] t bytes middle rest same begun = (rest, subst (λ bs. begins t bs rest) (sym same) begun, refl)
  all_more (u ∷ ts) t bytes middle rest (after, first, more) begun = (after, first, all_more ts t after middle rest more begun)

  pub none_read : {T C : Type 0} (reads : Tree → Option C) (contents : T → C) (n : ℕ) (vs : List T) (bytes : List ℕ) → n ≡ 0 → vs ≡ [] → BeginAllRead begins reads contents n vs bytes bytes
  none_read reads contents n vs bytes none empty = ([], sym none, refl, ap (λ xs. Some (map contents xs)) (sym empty))

  pub one_more_read : {T C : Type 0} (reads : Tree → Option C) (contents : T → C) (n m : ℕ) (vs ws : List T) (v : T) (bytes middle rest : List ℕ) → m ≡ suc n → ws ≡ vs ++ v ∷ []
      → BeginAllRead begins reads contents n vs bytes middle → BeginsRead begins reads (contents v) middle rest → BeginAllRead begins reads contents m ws bytes rest
  one_more_read reads contents n m vs ws v bytes middle rest one more (ts, count, begun, read) (t, next, is) = (
    ts ++ t ∷ [],
    omega (arith, length-append ts (t ∷ []), count, one),
    all_more ts t bytes middle rest begun next,
    read_more reads ts t (map contents vs) (contents v) read is ∙ ap Some (sym (map-append contents vs (v ∷ []))) ∙ ap (λ xs. Some (map contents xs)) (sym more),
  )

pub list_read : (begins : ℕ → Tree → List ℕ → List ℕ → Type 0) (begins_list : ℕ → List ℕ → List ℕ → Type 0) → ListsBegin begins begins_list
    → {T C : Type 0} (reads : Tree → Option C) (contents : T → C) (levels inner count : ℕ) (vs : List T) (bytes first rest : List ℕ) → levels ≡ suc inner
    → begins_list count bytes first → BeginAllRead (begins inner) reads contents count vs first rest → BeginsRead (begins levels) (list_reading reads) (map contents vs) bytes rest
list_read begins begins_list law reads contents levels inner count vs bytes first rest one head (ts, many, begun, read) = (
  list (as_items ts),
  subst (λ n. begins n (list (as_items ts)) bytes rest) (sym one) (law inner ts bytes first rest (subst (λ n. begins_list n bytes first) (sym many) head) begun),
  read,
)

-- ---- the parts of a tuple

pub end_read : (begins : Tree → List ℕ → List ℕ → Type 0) (bytes : List ℕ) → BeginPartsRead begins read_end 0 tt bytes bytes
end_read begins bytes = ([], refl, refl, refl)

pub part_read : (begins : Tree → List ℕ → List ℕ → Type 0) {C D : Type 0} (reads : Tree → Option C) (others : Items → Option D) (n : ℕ) (c : C) (d : D) (bytes middle rest : List ℕ)
    → BeginsRead begins reads c bytes middle → BeginPartsRead begins others n d middle rest → BeginPartsRead begins (read_part reads others) (suc n) (c, d) bytes rest
part_read begins reads others n c d bytes middle rest (t, begun, first) (ts, count, more, second) = (t ∷ ts, ap suc count, (middle, begun, more), ap₂ (both (λ c d. (c, d))) first second)

pub tuple_read : (begins : ℕ → Tree → List ℕ → List ℕ → Type 0) (begins_list : ℕ → List ℕ → List ℕ → Type 0) → ListsBegin begins begins_list
    → {C : Type 0} (reads : Items → Option C) (levels inner found count : ℕ) (c : C) (bytes first rest : List ℕ) → levels ≡ suc inner → found ≡ count
    → begins_list found bytes first → BeginPartsRead (begins inner) reads count c first rest → BeginsRead (begins levels) (tuple_reading reads) c bytes rest
tuple_read begins begins_list law reads levels inner found count c bytes first rest one same head (ts, many, begun, read) = (
  list (as_items ts),
  subst (λ n. begins n (list (as_items ts)) bytes rest) (sym one) (law inner ts bytes first rest (subst (λ n. begins_list n bytes first) (same ∙ sym many) head) begun),
  read,
)

-- ---- the first field and the others

module _ (begins : Tree → List ℕ → List ℕ → Type 0) (p : Part) (ps : List {1} Part) {C D X E : Type 0} (names : List (List ℕ)) (index : ℕ) (k bytes rest : List ℕ) (r : Result X E) where
  pub first_value : (first first' : List ℕ → Members → Option C) (others : List (List ℕ) → Members → Option D)
      → index ≡ 0 → AreDistinct names → slice_get names index ≡ Some k
      → OnOk r (ValueRead begins (accepts_at (p ∷ []) 0) (first k) (first' k) k bytes rest)
      → ((t : Tree) (more : List (List ℕ)) (ms : Members) → among k more ≡ false → others more (member k t ms) ≡ others more ms)
      → OnOk r (ValueRead begins (accepts_at (p ∷ ps) index) (under_each first others names) (under_each first' others names) k bytes rest)
  first_value first first' others zeroth distinct at read skips = taken r read where
    taken : (s : Result X E) → OnOk s (ValueRead begins (accepts_at (p ∷ []) 0) (first k) (first' k) k bytes rest)
        → OnOk s (ValueRead begins (accepts_at (p ∷ ps) index) (under_each first others names) (under_each first' others names) k bytes rest)
    taken (Err e) read = tt
    taken (Ok x) (t, begun, accepted, step) =
        (t, begun, ap (λ i. accepts_at (p ∷ ps) i t) zeroth ∙ accepted, first_offered first first' others names index k t (Ok x) zeroth distinct at step (skips t))

module _ (begins : Tree → List ℕ → List ℕ → Type 0) (p : Part) (ps : List {1} Part) {C D X E : Type 0} (first : List ℕ → Members → Option C) (others others' : List (List ℕ) → Members → Option D) (k bytes rest : List ℕ) where
  pub others_value : (names : List (List ℕ)) (index : ℕ) (r : Result X E)
      → (index ≡ 0 → ⊥) → AreDistinct names → slice_get names index ≡ Some k
      → ((t : Tree) (name : List ℕ) (ms : Members) → bytes_eq name k ≡ false → first name (member k t ms) ≡ first name ms)
      → ((more : List (List ℕ)) → AreDistinct more → slice_get more (index - 1) ≡ Some k → OnOk r (ValueRead begins (accepts_at ps (index - 1)) (others more) (others' more) k bytes rest))
      → OnOk r (ValueRead begins (accepts_at (p ∷ ps) index) (under_each first others names) (under_each first others' names) k bytes rest)
  others_value [] index r later distinct at skips step = absurd cc
  others_value (name ∷ names) zero r later distinct at skips step = absurd (later refl)
  others_value (name ∷ names) (suc i) r later distinct at skips step =
      let before : suc i - 1 ≡ i = omega arith in
      let other : bytes_eq name k ≡ false = other_way k name (bytes_eq name k) refl (not_later names i name k distinct.0 at) in
      joined r (step names distinct.1 (subst (λ j. slice_get names j ≡ Some k) (sym before) at)) before other
    where
      joined : (s : Result X E) → OnOk s (ValueRead begins (accepts_at ps (suc i - 1)) (others names) (others' names) k bytes rest) → suc i - 1 ≡ i → bytes_eq name k ≡ false
          → OnOk s (ValueRead begins (accepts_at (p ∷ ps) (suc i)) (under_each first others (name ∷ names)) (under_each first others' (name ∷ names)) k bytes rest)
      joined (Err e) steps before other = tt
      joined (Ok x) (t, begun, accepted, steps) before other = (t, begun, ap (λ j. accepts_at ps j t) (sym before) ∙ accepted, λ ms. ap₂ (both (λ c d. (c, d))) (sym (skips t name ms other)) (steps ms))

-- ---- entries

-- the key of the last entry, or the one before them where there is none
abbrev pub last_key : Option (List ℕ) → List (List ℕ × Tree) → Option (List ℕ)
last_key last [] = last
last_key last (e ∷ es) = last_key (Some e.0) es

last_more : (last : Option (List ℕ)) (es : List (List ℕ × Tree)) (e : List ℕ × Tree) → last_key last (es ++ e ∷ []) ≡ Some e.0
last_more last [] e = refl
last_more last (d ∷ es) e = last_more (Some d.0) es e

ascend_more : (last : Option (List ℕ)) (es : List (List ℕ × Tree)) (e : List ℕ × Tree) → KeysAscend last es → Follows (last_key last es) e.0 → KeysAscend last (es ++ e ∷ [])
ascend_more last [] e ascend follows = (follows, tt)
ascend_more last (d ∷ es) e ascend follows = (ascend.0, ascend_more (Some d.0) es e ascend.1 follows)

entered_more : (es : List (List ℕ × Tree)) (e : List ℕ × Tree) (ms : Members) → entered (es ++ e ∷ []) ms ≡ entered es (member e.0 e.1 ms)
entered_more [] e ms = refl
entered_more (d ∷ es) e ms = ap (member d.0 d.1) (entered_more es e ms)

pass_more : (test : List ℕ → Tree → Bool) (es : List (List ℕ × Tree)) (e : List ℕ × Tree) → AllPass test (entered es no_members) → test e.0 e.1 ≡ true → AllPass test (entered (es ++ e ∷ []) no_members)
pass_more test [] e pass one = (one, tt)
pass_more test (d ∷ es) e pass one = (pass.0, pass_more test es e pass.1 one)

module _ (begins_key : List ℕ → List ℕ → List ℕ → Type 0) (begins : Tree → List ℕ → List ℕ → Type 0) (accepts : List ℕ → Tree → Bool) where
  entries_more : (es : List (List ℕ × Tree)) (e : List ℕ × Tree) (bytes middle rest : List ℕ) → BeginEntries begins_key begins es bytes middle → BeginsEntry begins_key begins e middle rest
      → BeginEntries begins_key begins (es ++ e ∷ []) bytes rest
  entries_more [] e bytes middle rest same begun = (rest, subst (λ bs. BeginsEntry begins_key begins e bs rest) (sym same) begun, refl)
  entries_more (d ∷ es) e bytes middle rest (after, first, more) begun = (after, first, entries_more es e after middle rest more begun)

  module _ {C : Type 0} (old : Members → Option C) where
    -- so many entries were read, of which the last has this key
    abbrev pub EntriesSoFar : (Members → Option C) → ℕ → Option (List ℕ) → List ℕ → List ℕ → Type 0
    EntriesSoFar new n last bytes rest =
        (es : List (List ℕ × Tree)) × (length es ≡ n) × BeginEntries begins_key begins es bytes rest × KeysAscend None es × (last_key None es ≡ last) × AllPass accepts (entered es no_members)
        × ((ms : Members) → new ms ≡ old (entered es ms))

    pub no_entries : (n : ℕ) (last : Option (List ℕ)) (bytes : List ℕ) → n ≡ 0 → last ≡ None → EntriesSoFar old n last bytes bytes
    no_entries n last bytes none no_last = ([], sym none, refl, tt, sym no_last, tt, λ ms. refl)

    pub one_more_entry : (middle_reads new : Members → Option C) (n m : ℕ) (last last' : Option (List ℕ)) (key bytes middle rest : List ℕ) → m ≡ suc n → last' ≡ Some key
        → EntriesSoFar middle_reads n last bytes middle → EntryRead begins_key begins accepts middle_reads new last key middle rest → EntriesSoFar new m last' bytes rest
    one_more_entry middle_reads new n m last last' key bytes middle rest one is_last (es, count, begun, ascend, at, pass, reads) (t, next, follows, accepted, step) =
        let e : List ℕ × Tree = (key, t) in (
          es ++ e ∷ [],
          omega (arith, length-append es (e ∷ []), count, one),
          entries_more es e bytes middle rest begun next,
          ascend_more None es e ascend (subst (λ o. Follows o key) (sym at) follows),
          last_more None es e ∙ sym is_last,
          pass_more accepts es e pass accepted,
          λ ms. step ms ∙ reads (member key t ms) ∙ ap old (sym (entered_more es e ms)),
        )

    pub all_entries : (new : Members → Option C) (n m : ℕ) (last : Option (List ℕ)) (bytes rest : List ℕ) → n ≡ m → EntriesSoFar new n last bytes rest
        → EntriesRead begins_key begins accepts old new m bytes rest
    all_entries new n m last bytes rest same (es, count, begun, ascend, at, pass, reads) = (es, count ∙ same, begun, ascend, pass, reads)

-- ---- a struct

pub struct_read : (begins : ℕ → Tree → List ℕ → List ℕ → Type 0) (begins_map : ℕ → List ℕ → List ℕ → Type 0) (begins_key : List ℕ → List ℕ → List ℕ → Type 0) → MapsBegin begins begins_map begins_key
    → {C : Type 0} (accepts : List ℕ → Tree → Bool) (named old new : Members → Option C) (c : C) (levels inner count : ℕ) (bytes first rest : List ℕ) → levels ≡ suc inner
    → ((ms : Members) → old ms ≡ named ms) → ((es ms : Members) → ((name : List ℕ) → value_at name es ≡ value_at name ms) → old es ≡ old ms) → new no_members ≡ Some c
    → begins_map count bytes first → EntriesRead begins_key (begins inner) accepts old new count first rest → BeginsRead (begins levels) (struct_reading named) c bytes rest
struct_read begins begins_map begins_key law accepts named old new c levels inner count bytes first rest one begun_new by_name finished head (es, many, begun, ascend, pass, reads) =
    let m = law inner es bytes first rest (subst (λ n. begins_map n bytes first) (sym many) head) begun ascend in (
      entries m.0,
      subst (λ n. begins n (entries m.0) bytes rest) (sym one) m.1,
      sym (begun_new m.0) ∙ sym (by_name (entered es no_members) m.0 m.2) ∙ sym (reads no_members) ∙ finished,
    )

-- ---- a struct in which a name is missing

-- the values were accepted
missing_alone : (parts : List {1} Part) (names : List (List ℕ)) (ms : Members) (e : SerdeError) → AllPass (accepts_named parts names) ms → IsCustom (codes "missing field") e → FieldsError false parts names ms e
missing_alone parts names no_members e pass is = is
missing_alone parts names (member k t ms) e pass is = inr (refl, inr (pass.0, missing_alone parts names ms e pass.1 is))

pub struct_missing : (begins : ℕ → Tree → List ℕ → List ℕ → Type 0) (begins_map : ℕ → List ℕ → List ℕ → Type 0) (begins_key : List ℕ → List ℕ → List ℕ → Type 0) → MapsBegin begins begins_map begins_key
    → {C : Type 0} (parts : List {1} Part) (names : List (List ℕ)) (named old new : Members → Option C) (levels inner count : ℕ) (bytes first rest : List ℕ) → levels ≡ suc inner
    → ((ms : Members) → old ms ≡ named ms) → ((es ms : Members) → ((name : List ℕ) → value_at name es ≡ value_at name ms) → old es ≡ old ms) → new no_members ≡ None
    → begins_map count bytes first → EntriesRead begins_key (begins inner) (accepts_named parts names) old new count first rest
    → BeginsMissing (begins levels) (struct_reading named) (StructReadError false parts names) bytes rest
struct_missing begins begins_map begins_key law parts names named old new levels inner count bytes first rest one begun_new by_name finished head (es, many, begun, ascend, pass, reads) =
    let m = law inner es bytes first rest (subst (λ n. begins_map n bytes first) (sym many) head) begun ascend in (
      entries m.0,
      subst (λ n. begins n (entries m.0) bytes rest) (sym one) m.1,
      sym (begun_new m.0) ∙ sym (by_name (entered es no_members) m.0 m.2) ∙ sym (reads no_members) ∙ finished,
      λ e is. inr (m.0, refl, missing_alone parts names m.0 e (m.3 (accepts_named parts names) pass) is),
    )

-- ---- the value of an entry

module _ (begins : Tree → List ℕ → List ℕ → Type 0) (parts : List {1} Part) {C X E : Type 0} (names : List (List ℕ)) where
  pub field_under : (index : ℕ) (k bytes rest : List ℕ) (old new : Members → Option C) (r : Result X E) → AreDistinct names → slice_get names index ≡ Some k
      → OnOk r (ValueRead begins (accepts_at parts index) old new k bytes rest) → OnOk r (ValueRead begins (accepts_named parts names k) old new k bytes rest)
  field_under index k bytes rest old new (Err e) distinct at read = tt
  field_under index k bytes rest old new (Ok x) distinct at (t, begun, accepted, step) = (t, begun, accepts-named parts names index k t distinct at ∙ accepted, step)

  pub none_under : (k bytes rest : List ℕ) (old : Members → Option C) (r : Result X E) → among k names ≡ false → ((t : Tree) (ms : Members) → old (member k t ms) ≡ old ms)
      → OnOk r ((t : Tree) × begins t bytes rest) → OnOk r (ValueRead begins (accepts_named parts names k) old old k bytes rest)
  none_under k bytes rest old (Err e) none skips read = tt
  none_under k bytes rest old (Ok x) none skips (t, begun) = (t, begun, none-named parts names k t none, λ ms. sym (skips t ms))

-- ---- what is returned

pub ok_then : {V E : Type 0} {P Q : V → Type 0} (r : Result V E) → ((v : V) → P v → Q v) → IfOk r P → IfOk r Q
ok_then (Ok v) leads p = leads v p
ok_then (Err e) leads p = tt
