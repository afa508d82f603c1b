-- Maps, as they are explained entry by entry.
use Rattle.std.proofs.Common.{◌≡◌, inl, inr, ℕ, Bool, true, false, cond, List, ◌∷◌, Option, Some, None, is_some, IsSome, nat_cmp, Less, refl, ap, sym, subst, ◌∙◌, is_eq}
use Rattle.std.proofs.lemmas.Map.Text.{is_eq-slice_cmp}
use Rattle.std.proofs.lemmas.Slice.Eq.{bytes_eq-Decides}
use Rattle.std.specs.Cmp.Lexicographic.{slice_cmp}
use Rattle.std.specs.List.{AllByRecursion}
use Rattle.std.specs.List.Sorted.{IsStrictlySortedBy}
use Rattle.std.specs.Str.{bytes_eq}
use Rattle.ipld_tree.specs.Tree.{Tree, entries, Members, no_members, member}
use Rattle.ipld_tree.specs.Index.{value_at}
use Rattle.ipld_tree.specs.IsWhole.{keys_in, Ascends}
use Rattle.ipld_tree.specs.Kind.{kind_of}
use Rattle.ipld_ser.specs.Keys.{any_text}
use Rattle.ipld_ser.specs.Image.{NoError}
use Rattle.ipld_ser.specs.declared.error.SerdeError.{SerdeError}
use Rattle.ipld_de.specs.Composites.{read_entries, map_reading, EntriesError}
use Rattle.ipld_de.proofs.Naming.{other_way}
use Rattle.ipld_explain.specs.Path.{key}
use Rattle.ipld_explain.specs.Failures.{Failure, under, Explains}
use Rattle.ipld_explain.specs.Composites.{EntriesFail, MapFails}
use Rattle.ipld_explain.proofs.Sequences.{both_same, both_none}
use Rattle.ipld_explain.proofs.Steps.{none_of, leads_on}

-- ---- what the keys of the entries that are left hold

-- the first key holds its value
pub front_at : (k : List ℕ) (t : Tree) (ms : Members) → value_at k (member k t ms) ≡ Some t
front_at k t ms = ap (λ b. cond b (Some t) (value_at k ms)) ((bytes_eq-Decides k k).1 refl)

-- a key that is below all is none that holds something
pub apart : (k l : List ℕ) (u : Tree) (ms : Members) → AllByRecursion (λ y. slice_cmp nat_cmp k y ≡ Less) (keys_in ms) → value_at l ms ≡ Some u → bytes_eq l k ≡ false
apart k l u no_members below at = absurd cc
apart k l u (member m t ms) below at = chosen (bytes_eq l m) refl at (apart k l u ms below.1)
  where
    chosen : (b : Bool) → bytes_eq l m ≡ b → cond b (Some t) (value_at l ms) ≡ Some u → (value_at l ms ≡ Some u → bytes_eq l k ≡ false) → bytes_eq l k ≡ false
    chosen true is there others =
        let same : l ≡ m = (bytes_eq-Decides l m).0 is in
        let differ : bytes_eq k m ≡ false = sym (is_eq-slice_cmp k m) ∙ ap is_eq below.0 in
        other_way k l (bytes_eq l k) refl (subst (λ n. bytes_eq k n ≡ false) (sym same) differ)
    chosen false is there others = others there

-- what a later key holds it holds among all
pub later_at : (k l : List ℕ) (t u : Tree) (ms : Members) → Ascends (member k t ms) → value_at l ms ≡ Some u → value_at l (member k t ms) ≡ Some u
unfolding IsStrictlySortedBy
later_at k l t u ms ascends at = ap (λ b. cond b (Some t) (value_at l ms)) (apart k l u ms ascends.0 at) ∙ at

pub tail_ascends : (k : List ℕ) (t : Tree) (ms : Members) → Ascends (member k t ms) → Ascends ms
unfolding IsStrictlySortedBy
tail_ascends k t ms ascends = ascends.1

-- ---- a map whose values are read

-- entries were read, and these are left
pub record EntriesLeft {C : Type 0} (reads : Tree → Option C) (fails : Tree → Failure → Type 0) (all rest : Members) : Type 0 where
  pub ascends : Ascends rest
  pub same : is_some (read_entries any_text reads all) ≡ is_some (read_entries any_text reads rest)
  pub stands : (k : List ℕ) (t : Tree) → value_at k rest ≡ Some t → value_at k all ≡ Some t
  pub failing : (f : Failure) → EntriesFail reads fails rest f → EntriesFail reads fails all f

pub entries_new : {C : Type 0} (reads : Tree → Option C) (fails : Tree → Failure → Type 0) (all : Members) → Ascends all → EntriesLeft reads fails all all
entries_new reads fails all ascends = record { ascends = ascends; same = refl; stands = λ k t at. at; failing = λ f why. why }

after : {C : Type 0} (reads : Tree → Option C) (fails : Tree → Failure → Type 0) (all ms : Members) (k : List ℕ) (t : Tree)
    → EntriesLeft reads fails all (member k t ms) → IsSome (reads t) → EntriesLeft reads fails all ms
after reads fails all ms k t so_far read = record {
  ascends = tail_ascends k t ms so_far.ascends;
  same = so_far.same ∙ both_same (λ c es. (k, c) ∷ es) (reads t) (read_entries any_text reads ms) read;
  stands = λ l u at. so_far.stands l u (later_at k l t u ms so_far.ascends at);
  failing = λ f why. so_far.failing f (inr (read, why));
}

-- a value was read
pub entries_next : {C : Type 0} (reads : Tree → Option C) (fails : Tree → Failure → Type 0) (all rest ms : Members) (k : List ℕ) (t : Tree)
    → EntriesLeft reads fails all rest → rest ≡ member k t ms → IsSome (reads t) → EntriesLeft reads fails all ms
entries_next reads fails all rest ms k t so_far taken read = after reads fails all ms k t (subst (λ r. EntriesLeft reads fails all r) taken so_far) read

rejected : {C : Type 0} (reads : Tree → Option C) (fails : Tree → Failure → Type 0) (all ms : Members) (k : List ℕ) (t : Tree) (g : Failure)
    → EntriesLeft reads fails all (member k t ms) → Explains reads fails t (Some g) → Explains (map_reading reads) (MapFails reads fails) (entries all) (Some (under (key k) g))
rejected reads fails all ms k t g so_far why = (
  none_of (read_entries any_text reads all) (so_far.same ∙ both_none (λ c es. (k, c) ∷ es) (reads t) (read_entries any_text reads ms) why.0),
  leads_on t (value_at k all) g.path (λ v. kind_of v ≡ g.found) (so_far.stands k t (front_at k t ms)) why.1,
  inr (all, refl, so_far.failing (under (key k) g) (inl (g, why.2, refl))),
)

-- a value wasn't read
pub entry_fails : {C : Type 0} (reads : Tree → Option C) (fails : Tree → Failure → Type 0) (all rest ms : Members) (k : List ℕ) (t : Tree) (g f : Failure)
    → EntriesLeft reads fails all rest → rest ≡ member k t ms → Explains reads fails t (Some g) → f ≡ under (key k) g
    → Explains (map_reading reads) (MapFails reads fails) (entries all) (Some f)
entry_fails reads fails all rest ms k t g f so_far taken why is =
    subst (λ h. Explains (map_reading reads) (MapFails reads fails) (entries all) (Some h)) (sym is)
    (rejected reads fails all ms k t g (subst (λ r. EntriesLeft reads fails all r) taken so_far) why)

-- all were read
pub entries_end : {C : Type 0} (reads : Tree → Option C) (fails : Tree → Failure → Type 0) (all rest : Members)
    → EntriesLeft reads fails all rest → rest ≡ no_members → Explains (map_reading reads) (MapFails reads fails) (entries all) None
entries_end reads fails all rest so_far ended = so_far.same ∙ ap (λ r. is_some (read_entries any_text reads r)) ended

-- the error of the entries that are left is that of all
abbrev pub SameEntriesError : {C : Type 0} (reads : Tree → Option C) (error : Tree → SerdeError → Type 0) (all rest : Members) → Type 0
SameEntriesError reads error all rest = (e : SerdeError) → EntriesError any_text NoError reads error rest e → EntriesError any_text NoError reads error all e

-- a value was read
pub entries_error_next : {C : Type 0} (reads : Tree → Option C) (error : Tree → SerdeError → Type 0) (all rest ms : Members) (k : List ℕ) (t : Tree)
    → SameEntriesError reads error all rest → rest ≡ member k t ms → IsSome (reads t) → SameEntriesError reads error all ms
entries_error_next reads error all rest ms k t same taken read =
    λ e why. same e (subst (λ r. EntriesError any_text NoError reads error r e) (sym taken) (inr (refl, inr (read, why))))

-- a value wasn't read
pub entry_error : {C : Type 0} (reads : Tree → Option C) (error : Tree → SerdeError → Type 0) (all rest ms : Members) (k : List ℕ) (t : Tree) (e f : SerdeError)
    → SameEntriesError reads error all rest → rest ≡ member k t ms → reads t ≡ None → error t e → f ≡ e → EntriesError any_text NoError reads error all f
entry_error reads error all rest ms k t e f same taken none why is =
    subst (EntriesError any_text NoError reads error all) (sym is)
    (same e (subst (λ r. EntriesError any_text NoError reads error r e) (sym taken) (inr (refl, inl (none, why)))))
