-- Which error it is while the members of a map are taken one by one.
use Rattle.std.proofs.Common.{◌≡◌, ◌⊎◌, inl, inr, ℕ, zero, suc, ◌<◌, List, [], ◌∷◌, length, slice_get, Bor, nat_cmp, Less, Bool, true, false, cond, Some, Result, Ok, Err, IfErr, refl, ap, sym, subst, ◌∙◌, codes, is_eq}
use Rattle.std.proofs.lemmas.Map.Text.{is_eq-slice_cmp}
use Rattle.std.proofs.lemmas.Option.{slice_get_within}
use Rattle.std.proofs.lemmas.Slice.Eq.{bytes_eq-Decides}
use Rattle.std.specs.Cmp.Lexicographic.{slice_cmp}
use Rattle.std.specs.List.{AllByRecursion}
use Rattle.std.specs.List.Sorted.{IsStrictlySortedBy}
use Rattle.std.specs.Str.{bytes_eq}
use Rattle.ipld_tree.specs.Tree.{Tree, Members, no_members, member}
use Rattle.ipld_tree.specs.IsWhole.{keys_in, Ascends}
use Rattle.ipld_ser.specs.declared.error.SerdeError.{SerdeError}
use Rattle.ipld_ser.specs.declared.error.SerdeError.TheVariants.{Memory}
use Rattle.ipld_de.specs.Reading.{IsCustom}
use Rattle.ipld_de.specs.Fields.{among, AreDistinct, AreOthers, strings, Part, accepts_at, RejectsAt, accepts_named, RejectsNamed, may_stand, FieldsError}
use Rattle.ipld_de.specs.Lemmas.Skipping.{not_this}
use Rattle.ipld_de.proofs.Naming.{other_way, not_later, or_later, among_at}

-- ---- the field at an index is that of its name

pub accepts-named : (parts : List {1} Part) (names : List (List ℕ)) (i : ℕ) (k : List ℕ) (t : Tree) → AreDistinct names → slice_get names i ≡ Some k
    → accepts_named parts names k t ≡ accepts_at parts i t
accepts-named [] names i k t distinct at = refl
accepts-named (p ∷ ps) [] i k t distinct at = absurd cc
accepts-named (p ∷ ps) (name ∷ names) zero k t distinct at =
    let same : name ≡ k = cc in ap (λ b. cond b (p.accepts t) (accepts_named ps names k t)) ((bytes_eq-Decides name k).1 same)
accepts-named (p ∷ ps) (name ∷ names) (suc i) k t distinct at =
    ap (λ b. cond b (p.accepts t) (accepts_named ps names k t)) (other_way k name (bytes_eq name k) refl (not_later names i name k distinct.0 at))
    ∙ accepts-named ps names i k t distinct.1 at

pub rejects-named : (parts : List {1} Part) (names : List (List ℕ)) (i : ℕ) (k : List ℕ) (t : Tree) (e : SerdeError) → AreDistinct names → slice_get names i ≡ Some k
    → RejectsAt parts i t e → RejectsNamed parts names k t e
rejects-named [] names i k t e distinct at why = why
rejects-named (p ∷ ps) [] i k t e distinct at why = absurd cc
rejects-named (p ∷ ps) (name ∷ names) zero k t e distinct at why =
    let same : name ≡ k = cc in inl ((bytes_eq-Decides name k).1 same, why.0, why.1)
rejects-named (p ∷ ps) (name ∷ names) (suc i) k t e distinct at why =
    inr (other_way k name (bytes_eq name k) refl (not_later names i name k distinct.0 at), rejects-named ps names i k t e distinct.1 at why)

pub none-named : (parts : List {1} Part) (names : List (List ℕ)) (k : List ℕ) (t : Tree) → among k names ≡ false → accepts_named parts names k t ≡ true
none-named [] names k t none = refl
none-named (p ∷ ps) [] k t none = refl
none-named (p ∷ ps) (name ∷ names) k t none =
    let n = not_this (bytes_eq name k) (among k names) none in
    ap (λ b. cond b (p.accepts t) (accepts_named ps names k t)) n.0 ∙ none-named ps names k t n.1

pub strings_count : (names : List (Bor (List ℕ))) → length (strings names) ≡ length names
strings_count [] = refl
strings_count (name ∷ names) = ap suc (strings_count names)

-- ---- keys

-- a key that is below others isn't among them
not_among : (k : List ℕ) (ks : List (List ℕ)) → AllByRecursion (λ y. slice_cmp nat_cmp k y ≡ Less) ks → among k ks ≡ false
not_among k [] below = refl
not_among k (l ∷ ks) below =
    let apart : bytes_eq k l ≡ false = sym (is_eq-slice_cmp k l) ∙ ap is_eq below.0 in
    ap (λ b. cond b true (among k ks)) (other_way k l (bytes_eq l k) refl apart) ∙ not_among k ks below.1

itself : (k : List ℕ) (ks : List (List ℕ)) → among k (k ∷ ks) ≡ true
itself k ks = ap (λ b. cond b true (among k ks)) ((bytes_eq-Decides k k).1 refl)

known : (strict : Bool) (names : List (List ℕ)) (k : List ℕ) → among k names ≡ true → may_stand strict names k ≡ true
known true names k is = is
known false names k is = refl

-- ---- members that were taken without an error

-- the error of the members that are left is that of all of them; their keys ascend, and the fields of their names have nothing yet
pub record Follows (strict : Bool) (parts : List {1} Part) (names : List (List ℕ)) (waits : ℕ → Bool) (all rest : Members) : Type 0 where
  pub error : (e : SerdeError) → FieldsError strict parts names rest e → FieldsError strict parts names all e
  pub ascends : Ascends rest
  pub waiting : (i : ℕ) (k : List ℕ) → slice_get names i ≡ Some k → among k (keys_in rest) ≡ true → waits i ≡ true

pub follows_new : (strict : Bool) (parts : List {1} Part) (names : List (List ℕ)) (waits : ℕ → Bool) (all : Members) (count : ℕ) → length names ≡ count
    → ((i : ℕ) → i < count → waits i ≡ true) → Ascends all → Follows strict parts names waits all all
follows_new strict parts names waits all count long wait ascends = record {
  error = λ e why. why;
  ascends = ascends;
  waiting = λ i k at here. wait i (subst (λ n. i < n) long (slice_get_within names i k at));
}

after : (strict : Bool) (parts : List {1} Part) (names : List (List ℕ)) (waits waits' : ℕ → Bool) (all left : Members) (index : ℕ) (k : List ℕ) (t : Tree)
    → AreDistinct names → Follows strict parts names waits all (member k t left) → slice_get names index ≡ Some k
    → (waits index ≡ true → accepts_at parts index t ≡ true) → ((i : ℕ) → (i ≡ index → ⊥) → waits' i ≡ waits i) → Follows strict parts names waits' all left
unfolding IsStrictlySortedBy
after strict parts names waits waits' all left index k t distinct so_far here accepts others = record {
  error = λ e why. so_far.error e (inr (
    known strict names k (among_at names index k here),
    inr (accepts-named parts names index k t distinct here ∙ accepts (so_far.waiting index k here (itself k (keys_in left))), why),
  ));
  ascends = so_far.ascends.1;
  waiting = λ i l at is.
      others i (λ (same : i ≡ index).
      let both_at : Some l ≡ Some k = sym at ∙ ap (slice_get names) same ∙ here in
      let equal : l ≡ k = cc in
      let yes : among k (keys_in left) ≡ true = subst (λ m. among m (keys_in left) ≡ true) equal is in
      let no : among k (keys_in left) ≡ false = not_among k (keys_in left) so_far.ascends.0 in
      absurd (cc (sym yes ∙ no)))
      ∙ so_far.waiting i l at (or_later (bytes_eq k l) (among l (keys_in left)) is);
}

-- a field took its value
pub follows_taken : (strict : Bool) (parts : List {1} Part) (names : List (List ℕ)) (waits waits' : ℕ → Bool) (all rest left : Members) (index : ℕ) (k : List ℕ) (t : Tree)
    → AreDistinct names → Follows strict parts names waits all rest → rest ≡ member k t left → slice_get names index ≡ Some k
    → (waits index ≡ true → accepts_at parts index t ≡ true) → ((i : ℕ) → (i ≡ index → ⊥) → waits' i ≡ waits i) → Follows strict parts names waits' all left
follows_taken strict parts names waits waits' all rest left index k t distinct so_far taken here accepts others =
    after strict parts names waits waits' all left index k t distinct (subst (λ ms. Follows strict parts names waits all ms) taken so_far) here accepts others

past : (parts : List {1} Part) (names : List (List ℕ)) (waits : ℕ → Bool) (all left : Members) (k : List ℕ) (t : Tree)
    → Follows false parts names waits all (member k t left) → among k names ≡ false → Follows false parts names waits all left
unfolding IsStrictlySortedBy
past parts names waits all left k t so_far none = record {
  error = λ e why. so_far.error e (inr (refl, inr (none-named parts names k t none, why)));
  ascends = so_far.ascends.1;
  waiting = λ i l at is. so_far.waiting i l at (or_later (bytes_eq k l) (among l (keys_in left)) is);
}

-- a member of another name was let go
pub follows_skipped : (strict : Bool) (parts : List {1} Part) (names : List (List ℕ)) (waits : ℕ → Bool) (all rest left : Members) (k : List ℕ) (t : Tree)
    → Follows strict parts names waits all rest → rest ≡ member k t left → strict ≡ false → among k names ≡ false → Follows strict parts names waits all left
follows_skipped true parts names waits all rest left k t so_far taken lax none = absurd cc
follows_skipped false parts names waits all rest left k t so_far taken lax none =
    past parts names waits all left k t (subst (λ ms. Follows false parts names waits all ms) taken so_far) none

-- ---- the error

-- a field rejected its value
pub follows_rejected : (strict : Bool) (parts : List {1} Part) (names : List (List ℕ)) (waits : ℕ → Bool) (all rest left : Members) (index : ℕ) (k : List ℕ) (t : Tree) (e : SerdeError)
    → AreDistinct names → Follows strict parts names waits all rest → rest ≡ member k t left → slice_get names index ≡ Some k
    → (e ≡ Memory) ⊎ RejectsAt parts index t e → (e ≡ Memory) ⊎ FieldsError strict parts names all e
follows_rejected strict parts names waits all rest left index k t e distinct so_far taken here (inl memory) = inl memory
follows_rejected strict parts names waits all rest left index k t e distinct so_far taken here (inr why) =
    inr (so_far.error e (subst (λ ms. FieldsError strict parts names ms e) (sym taken)
    (inr (known strict names k (among_at names index k here), inl (rejects-named parts names index k t e distinct here why)))))

-- a key may not stand there
pub follows_unknown : (strict : Bool) (parts : List {1} Part) (names : List (List ℕ)) (waits : ℕ → Bool) (all rest left : Members) (k : List ℕ) (t : Tree) (e : SerdeError)
    → Follows strict parts names waits all rest → rest ≡ member k t left → strict ≡ true → among k names ≡ false → IsCustom (codes "unknown field") e → FieldsError strict parts names all e
follows_unknown false parts names waits all rest left k t e so_far taken is none why = absurd cc
follows_unknown true parts names waits all rest left k t e so_far taken is none why =
    so_far.error e (subst (λ ms. FieldsError true parts names ms e) (sym taken) (inl (none, why)))

-- a name is missing
pub follows_missing : {X : Type 0} (strict : Bool) (parts : List {1} Part) (names : List (List ℕ)) (waits : ℕ → Bool) (all rest : Members) (r : Result X SerdeError)
    → Follows strict parts names waits all rest → rest ≡ no_members → IfErr r (IsCustom (codes "missing field")) → IfErr r (λ e. (e ≡ Memory) ⊎ FieldsError strict parts names all e)
follows_missing strict parts names waits all rest (Ok x) so_far ended why = why
follows_missing strict parts names waits all rest (Err e) so_far ended why =
    inr (so_far.error e (subst (λ ms. FieldsError strict parts names ms e) (sym ended) why))

-- a name that isn't among others
pub are_others : (name : List ℕ) (names : List (List ℕ)) → among name names ≡ false → AreOthers name names
are_others name [] none = tt
are_others name (other ∷ names) none =
    let n = not_this (bytes_eq other name) (among name names) none in
    (other_way other name (bytes_eq name other) refl n.0, are_others name names n.1)
