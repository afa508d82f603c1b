-- Fields, as they are explained in the order of the keys.
use Rattle.std.proofs.Common.{◌≡◌, inl, inr, ℕ, zero, suc, ◌&&◌, Bool, true, false, cond, not, List, [], ◌∷◌, length, slice_get, Option, Some, None, is_some, is_none, IsSome, IsSomeAnd, codes, refl, ap, ap₂, sym, subst, ◌∙◌, arith}
use Rattle.std.proofs.lemmas.Slice.Eq.{bytes_eq-Decides}
use Rattle.std.specs.Str.{bytes_eq}
use Rattle.ipld_tree.specs.Tree.{Tree, entries, Members, no_members, member}
use Rattle.ipld_tree.specs.Index.{value_at}
use Rattle.ipld_tree.specs.IsWhole.{Ascends}
use Rattle.ipld_tree.specs.Kind.{kind_of}
use Rattle.ipld_ser.specs.declared.error.SerdeError.{SerdeError}
use Rattle.ipld_de.specs.Fields.{among, AreDistinct, all_among, only_fields, may_stand, struct_reading, RejectsAt, RejectsNamed, FieldsError, StructReadError, reads_fields}
use Rattle.ipld_de.specs.Fields as reading
use Rattle.ipld_de.specs.Reading.{IsCustom}
use Rattle.ipld_de.specs.Lemmas.Skipping.{not_this}
use Rattle.ipld_de.proofs.FieldErrors as accepted
use Rattle.ipld_de.proofs.Naming.{other_way, not_later, among_at}
use Rattle.ipld_explain.specs.Path.{key, at_path}
use Rattle.ipld_explain.specs.Failures.{Failure, under, Leads, Explains}
use Rattle.ipld_tree.specs.declared.ipld.IpldKind.TheVariants.{Map}
use Rattle.ipld_explain.specs.Fields.{Part, accepts_at, FailsAt, ExplainsAt, accepts_named, FailsNamed, will_do, all_will_do, first_missing, MissingFails, UnknownFails, FieldsFail, StructFails, all_may_stand, ExplainsEntries, RejectsEntries}
use Rattle.ipld_explain.proofs.Entering.{front_at, later_at, tail_ascends}
use Rattle.ipld_explain.proofs.Steps.{none_of, leads_on}

-- ---- the field at an index is that of its name

accepts-named : (parts : List {1} Part) (names : List (List ℕ)) (i : ℕ) (k : List ℕ) (t : Tree) → AreDistinct names → slice_get names i ≡ Some k
    → accepts_named parts names k t ≡ accepts_at parts i t
accepts-named [] names i k t distinct at = refl
accepts-named (p ∷ ps) [] i k t distinct at = absurd cc
accepts-named (p ∷ ps) (name ∷ names) zero k t distinct at =
    let same : name ≡ k = cc in ap (λ b. cond b (p.accepts t) (accepts_named ps names k t)) ((bytes_eq-Decides name k).1 same)
accepts-named (p ∷ ps) (name ∷ names) (suc i) k t distinct at =
    ap (λ b. cond b (p.accepts t) (accepts_named ps names k t)) (other_way k name (bytes_eq name k) refl (not_later names i name k distinct.0 at))
    ∙ accepts-named ps names i k t distinct.1 at

fails-named : (parts : List {1} Part) (names : List (List ℕ)) (i : ℕ) (k : List ℕ) (t : Tree) (f : Failure) → AreDistinct names → slice_get names i ≡ Some k
    → FailsAt parts i t f → FailsNamed parts names k t f
fails-named [] names i k t f distinct at why = why
fails-named (p ∷ ps) [] i k t f distinct at why = absurd cc
fails-named (p ∷ ps) (name ∷ names) zero k t f distinct at why =
    let same : name ≡ k = cc in inl ((bytes_eq-Decides name k).1 same, why)
fails-named (p ∷ ps) (name ∷ names) (suc i) k t f distinct at why =
    inr (other_way k name (bytes_eq name k) refl (not_later names i name k distinct.0 at), fails-named ps names i k t f distinct.1 at why)

none-named : (parts : List {1} Part) (names : List (List ℕ)) (k : List ℕ) (t : Tree) → among k names ≡ false → accepts_named parts names k t ≡ true
none-named [] names k t none = refl
none-named (p ∷ ps) [] k t none = refl
none-named (p ∷ ps) (name ∷ names) k t none =
    let n = not_this (bytes_eq name k) (among k names) none in
    ap (λ b. cond b (p.accepts t) (accepts_named ps names k t)) n.0 ∙ none-named ps names k t n.1

and_false : (b c : Bool) → c ≡ false → (b && c) ≡ false
and_false true c is = is
and_false false c is = refl

-- a name that holds what its field doesn't read
not_all : (parts : List {1} Part) (names : List (List ℕ)) (i : ℕ) (k : List ℕ) (t : Tree) (ms : Members) → slice_get names i ≡ Some k → value_at k ms ≡ Some t
    → accepts_at parts i t ≡ false → all_will_do parts names ms ≡ false
not_all [] names i k t ms at held not_read = absurd cc
not_all (p ∷ ps) [] i k t ms at held not_read = refl
not_all (p ∷ ps) (name ∷ names) zero k t ms at held not_read =
    let same : name ≡ k = cc in
    let first : will_do p (value_at name ms) ≡ false = ap (λ n. will_do p (value_at n ms)) same ∙ ap (will_do p) held ∙ not_read in
    ap (λ b. b && all_will_do ps names ms) first
not_all (p ∷ ps) (name ∷ names) (suc i) k t ms at held not_read =
    and_false (will_do p (value_at name ms)) (all_will_do ps names ms) (not_all ps names i k t ms at held not_read)

-- ---- names that are missing

missing_first : (required gone : Bool) (p : Part) (held : Option Tree) → p.required ≡ required → is_none held ≡ gone → (required && gone) ≡ true → will_do p held ≡ false
missing_first false gone p held is none both_are = absurd cc
missing_first true false p held is none both_are = absurd cc
missing_first true true p None is none both_are = ap not is
missing_first true true p (Some t) is none both_are = absurd cc

-- a name that is missing
pub missing_one : (parts : List {1} Part) (names : List (List ℕ)) (ms : Members) → IsSome (first_missing parts names ms) → all_will_do parts names ms ≡ false
missing_one [] names ms is = absurd cc
missing_one (p ∷ ps) [] ms is = refl
missing_one (p ∷ ps) (name ∷ names) ms is = chosen (p.required && is_none (value_at name ms)) refl is (missing_one ps names ms)
  where
    chosen : (b : Bool) → (p.required && is_none (value_at name ms)) ≡ b → IsSome (cond b (Some name) (first_missing ps names ms))
        → (IsSome (first_missing ps names ms) → all_will_do ps names ms ≡ false) → all_will_do (p ∷ ps) (name ∷ names) ms ≡ false
    chosen true first some others = ap (λ b. b && all_will_do ps names ms) (missing_first p.required (is_none (value_at name ms)) p (value_at name ms) refl refl first)
    chosen false first some others = and_false (will_do p (value_at name ms)) (all_will_do ps names ms) (others some)

will_do_here : (p : Part) (held : Option Tree) → (p.required && is_none held) ≡ false → ((t : Tree) → held ≡ Some t → p.accepts t ≡ true) → will_do p held ≡ true
will_do_here p None there accepted = not_required p.required there
  where
    not_required : (b : Bool) → (b && true) ≡ false → not b ≡ true
    not_required true is = absurd cc
    not_required false is = refl
will_do_here p (Some t) there accepted = accepted t refl

-- where no name is missing, and each field reads what its name holds
pub all_there : (parts : List {1} Part) (names : List (List ℕ)) (ms : Members) → AreDistinct names → length names ≡ length parts
    → ((k : List ℕ) (t : Tree) → value_at k ms ≡ Some t → accepts_named parts names k t ≡ true) → first_missing parts names ms ≡ None → all_will_do parts names ms ≡ true
all_there [] names ms distinct long accepted none = refl
all_there (p ∷ ps) [] ms distinct long accepted none = absurd (omega arith)
all_there (p ∷ ps) (name ∷ names) ms distinct long accepted none =
    chosen (p.required && is_none (value_at name ms)) refl none
    (all_there ps names ms distinct.1 (omega arith) (λ k t held. others k t (bytes_eq name k) refl (accepted k t held)))
  where
    others : (k : List ℕ) (t : Tree) (b : Bool) → bytes_eq name k ≡ b → cond b (p.accepts t) (accepts_named ps names k t) ≡ true → accepts_named ps names k t ≡ true
    others k t true is reads = let same : name ≡ k = (bytes_eq-Decides name k).0 is in none-named ps names k t (subst (λ n. among n names ≡ false) same distinct.0)
    others k t false is reads = reads

    first : (t : Tree) → value_at name ms ≡ Some t → p.accepts t ≡ true
    first t held = sym (ap (λ b. cond b (p.accepts t) (accepts_named ps names name t)) ((bytes_eq-Decides name name).1 refl)) ∙ accepted name t held

    chosen : (b : Bool) → (p.required && is_none (value_at name ms)) ≡ b → cond b (Some name) (first_missing ps names ms) ≡ None
        → (first_missing ps names ms ≡ None → all_will_do ps names ms ≡ true) → all_will_do (p ∷ ps) (name ∷ names) ms ≡ true
    chosen true is none later = absurd cc
    chosen false is none later = ap₂ ◌&&◌ (will_do_here p (value_at name ms) is first) (later none)

-- ---- keys that may stand

-- a name may stand
pub known : (strict : Bool) (names : List (List ℕ)) (i : ℕ) (k : List ℕ) → slice_get names i ≡ Some k → may_stand strict names k ≡ true
known true names i k at = among_at names i k at
known false names i k at = refl

-- so may each key where they are not strict
pub any_key : (strict : Bool) (names : List (List ℕ)) (k : List ℕ) → strict ≡ false → may_stand strict names k ≡ true
any_key strict names k is = ap (λ b. may_stand b names k) is

-- what the front key holds, and what the others hold
front_of : (P : List ℕ → Tree → Type 0) (k : List ℕ) (t : Tree) (ms : Members) → P k t → ((l : List ℕ) (u : Tree) → value_at l ms ≡ Some u → P l u)
    → (l : List ℕ) (u : Tree) → value_at l (member k t ms) ≡ Some u → P l u
front_of P k t ms here others l u at = chosen (bytes_eq l k) refl at
  where
    chosen : (b : Bool) → bytes_eq l k ≡ b → cond b (Some t) (value_at l ms) ≡ Some u → P l u
    chosen true is held =
        let same : k ≡ l = sym ((bytes_eq-Decides l k).0 is) in
        let equal : t ≡ u = cc in
        subst (P l) equal (subst (λ m. P m t) same here)
    chosen false is held = others l u held

-- a key that is none of the names
unknown_one : (names : List (List ℕ)) (ms : Members) (k : List ℕ) (t : Tree) → value_at k ms ≡ Some t → among k names ≡ false → all_among names ms ≡ false
unknown_one names no_members k t at none = absurd cc
unknown_one names (member l u ms) k t at none = chosen (bytes_eq k l) refl at (unknown_one names ms k t)
  where
    later : (b : Bool) → all_among names ms ≡ false → cond b (all_among names ms) false ≡ false
    later true is = is
    later false is = refl

    chosen : (b : Bool) → bytes_eq k l ≡ b → cond b (Some u) (value_at k ms) ≡ Some t → (value_at k ms ≡ Some t → among k names ≡ false → all_among names ms ≡ false)
        → all_among names (member l u ms) ≡ false
    chosen true is held others =
        let same : k ≡ l = (bytes_eq-Decides k l).0 is in
        ap (λ b. cond b (all_among names ms) false) (subst (λ m. among m names ≡ false) same none)
    chosen false is held others = later (among l names) (others held none)

not_all_may : (strict : Bool) (names : List (List ℕ)) (ms : Members) (k : List ℕ) (t : Tree) → value_at k ms ≡ Some t → may_stand strict names k ≡ false → all_may_stand strict names ms ≡ false
not_all_may true names ms k t at none = unknown_one names ms k t at none
not_all_may false names ms k t at none = absurd cc

-- ---- entries taken one by one

-- the keys that were taken may stand, the fields of these names read what they hold, and these entries are left
pub record FieldsLeft (strict : Bool) (parts : List {1} Part) (names : List (List ℕ)) (all rest : Members) : Type 0 where
  pub ascends : Ascends rest
  pub stands : (k : List ℕ) (t : Tree) → value_at k rest ≡ Some t → value_at k all ≡ Some t
  pub may : all_may_stand strict names all ≡ all_may_stand strict names rest
  pub accepted : ((k : List ℕ) (t : Tree) → value_at k rest ≡ Some t → accepts_named parts names k t ≡ true) → (k : List ℕ) (t : Tree) → value_at k all ≡ Some t → accepts_named parts names k t ≡ true
  pub failing : (missing : Option (List ℕ)) (f : Failure) → FieldsFail strict parts names missing rest f → FieldsFail strict parts names missing all f

pub fields_new : (strict : Bool) (parts : List {1} Part) (names : List (List ℕ)) (all : Members) → Ascends all → FieldsLeft strict parts names all all
fields_new strict parts names all ascends = record { ascends = ascends; stands = λ k t at. at; may = refl; accepted = λ each. each; failing = λ missing f why. why }

front_may : (strict : Bool) (names : List (List ℕ)) (k : List ℕ) (t : Tree) (ms : Members) → may_stand strict names k ≡ true → all_may_stand strict names (member k t ms) ≡ all_may_stand strict names ms
front_may true names k t ms may = ap (λ b. cond b (all_among names ms) false) may
front_may false names k t ms may = refl

after : (strict : Bool) (parts : List {1} Part) (names : List (List ℕ)) (all ms : Members) (k : List ℕ) (t : Tree)
    → FieldsLeft strict parts names all (member k t ms) → may_stand strict names k ≡ true → accepts_named parts names k t ≡ true → FieldsLeft strict parts names all ms
after strict parts names all ms k t so_far may here = record {
  ascends = tail_ascends k t ms so_far.ascends;
  stands = λ l u at. so_far.stands l u (later_at k l t u ms so_far.ascends at);
  may = so_far.may ∙ front_may strict names k t ms may;
  accepted = λ each. so_far.accepted (front_of (λ l u. accepts_named parts names l u ≡ true) k t ms here each);
  failing = λ missing f why. so_far.failing missing f (inr (may, inr (here, why)));
}

-- the field of a name reads what it holds
pub fields_next : (strict : Bool) (parts : List {1} Part) (names : List (List ℕ)) (all rest ms : Members) (i : ℕ) (k : List ℕ) (t : Tree)
    → AreDistinct names → FieldsLeft strict parts names all rest → rest ≡ member k t ms → slice_get names i ≡ Some k → accepts_at parts i t ≡ true → FieldsLeft strict parts names all ms
fields_next strict parts names all rest ms i k t distinct so_far taken at here =
    after strict parts names all ms k t (subst (λ r. FieldsLeft strict parts names all r) taken so_far) (known strict names i k at) (accepts-named parts names i k t distinct at ∙ here)

-- an entry of another name, which may stand there
pub fields_other : (strict : Bool) (parts : List {1} Part) (names : List (List ℕ)) (all rest ms : Members) (k : List ℕ) (t : Tree)
    → FieldsLeft strict parts names all rest → rest ≡ member k t ms → strict ≡ false → among k names ≡ false → FieldsLeft strict parts names all ms
fields_other strict parts names all rest ms k t so_far taken lax none =
    after strict parts names all ms k t (subst (λ r. FieldsLeft strict parts names all r) taken so_far) (any_key strict names k lax) (none-named parts names k t none)

rejected : (strict : Bool) (parts : List {1} Part) (names : List (List ℕ)) (all ms : Members) (i : ℕ) (k : List ℕ) (t : Tree) (g : Failure)
    → AreDistinct names → FieldsLeft strict parts names all (member k t ms) → slice_get names i ≡ Some k → ExplainsAt parts i t (Some g)
    → ExplainsEntries strict parts names all (Some (under (key k) g))
rejected strict parts names all ms i k t g distinct so_far at why =
    let held : value_at k all ≡ Some t = so_far.stands k t (front_at k t ms) in (
      and_false (all_may_stand strict names all) (all_will_do parts names all) (not_all parts names i k t all at held why.0),
      leads_on t (value_at k all) g.path (λ v. kind_of v ≡ g.found) held why.1,
      λ missing. so_far.failing missing (under (key k) g) (inr (known strict names i k at, inl (g, fails-named parts names i k t g distinct at why.2, refl))),
    )

-- a field doesn't read what its name holds
pub field_fails : (strict : Bool) (parts : List {1} Part) (names : List (List ℕ)) (all rest ms : Members) (i : ℕ) (k : List ℕ) (t : Tree) (g f : Failure)
    → AreDistinct names → FieldsLeft strict parts names all rest → rest ≡ member k t ms → slice_get names i ≡ Some k → ExplainsAt parts i t (Some g) → f ≡ under (key k) g
    → ExplainsEntries strict parts names all (Some f)
field_fails strict parts names all rest ms i k t g f distinct so_far taken at why is =
    subst (λ h. ExplainsEntries strict parts names all (Some h)) (sym is)
    (rejected strict parts names all ms i k t g distinct (subst (λ r. FieldsLeft strict parts names all r) taken so_far) at why)

stray : (parts : List {1} Part) (names : List (List ℕ)) (all ms : Members) (k : List ℕ) (t : Tree) (g : Failure)
    → FieldsLeft true parts names all (member k t ms) → among k names ≡ false → UnknownFails g → kind_of t ≡ g.found → ExplainsEntries true parts names all (Some (under (key k) g))
stray parts names all ms k t g so_far none why found =
    let held : value_at k all ≡ Some t = so_far.stands k t (front_at k t ms) in
    let here : IsSomeAnd (at_path g.path t) (λ v. kind_of v ≡ g.found) = subst (λ p. IsSomeAnd (at_path p t) (λ v. kind_of v ≡ g.found)) (sym why.0) found in (
      ap (λ b. b && all_will_do parts names all) (not_all_may true names all k t held none),
      leads_on t (value_at k all) g.path (λ v. kind_of v ≡ g.found) held here,
      λ missing. so_far.failing missing (under (key k) g) (inl (none, (g, why, refl))),
    )

-- a key may not stand there
pub field_unknown : (strict : Bool) (parts : List {1} Part) (names : List (List ℕ)) (all rest ms : Members) (k : List ℕ) (t : Tree) (g f : Failure)
    → FieldsLeft strict parts names all rest → rest ≡ member k t ms → strict ≡ true → among k names ≡ false → UnknownFails g → kind_of t ≡ g.found → f ≡ under (key k) g
    → ExplainsEntries strict parts names all (Some f)
field_unknown true parts names all rest ms k t g f so_far taken is none why found same =
    subst (λ h. ExplainsEntries true parts names all (Some h)) (sym same)
    (stray parts names all ms k t g (subst (λ r. FieldsLeft true parts names all r) taken so_far) none why found)
field_unknown false parts names all rest ms k t g f so_far taken is none why found same = absurd cc

none_may : (strict : Bool) (names : List (List ℕ)) → all_may_stand strict names no_members ≡ true
none_may true names = refl
none_may false names = refl

-- each key may stand, and each field reads what its name holds
pub fields_end : (strict : Bool) (parts : List {1} Part) (names : List (List ℕ)) (all rest : Members) → FieldsLeft strict parts names all rest → rest ≡ no_members
    → ExplainsEntries strict parts names all None
fields_end strict parts names all rest so_far ended = (
  so_far.may ∙ ap (all_may_stand strict names) ended ∙ none_may strict names,
  so_far.accepted (λ k t at. let nothing : value_at k no_members ≡ Some t = subst (λ ms. value_at k ms ≡ Some t) ended at in absurd cc),
  λ missing f why. so_far.failing missing f (subst (λ ms. FieldsFail strict parts names missing ms f) (sym ended) why),
)

-- ---- the struct

some_of : (o : Option (List ℕ)) (f : Failure) → MissingFails o f → IsSome o
some_of None f why = absurd why
some_of (Some name) f why = refl

at_map : (o : Option (List ℕ)) (f : Failure) → MissingFails o f → f.path ≡ []
at_map None f why = absurd why
at_map (Some name) f why = why.0

fields_decide : {C : Type 0} (strict : Bool) (reads : Members → Option C) (parts : List {1} Part) (names : List (List ℕ)) (ms : Members)
    → is_some (reads ms) ≡ all_will_do parts names ms → is_some (reads_fields strict names reads ms) ≡ all_may_stand strict names ms && all_will_do parts names ms
fields_decide true reads parts names ms decides = chosen (all_among names ms)
  where
    chosen : (b : Bool) → is_some (cond b (reads ms) None) ≡ b && all_will_do parts names ms
    chosen true = decides
    chosen false = refl
fields_decide false reads parts names ms decides = decides

module _ {C : Type 0} (strict : Bool) (reads : Members → Option C) (parts : List {1} Part) (names : List (List ℕ)) (t : Tree) (ms : Members) (there : t ≡ entries ms)
    (decides : is_some (reads ms) ≡ all_will_do parts names ms) where
  -- a key may not stand there, or a field doesn't read what its name holds
  pub struct_fails : (f : Failure) → ExplainsEntries strict parts names ms (Some f) → Explains (struct_reading (reads_fields strict names reads)) (StructFails strict parts names) t (Some f)
  struct_fails f why =
      subst (λ u. Explains (struct_reading (reads_fields strict names reads)) (StructFails strict parts names) u (Some f)) (sym there)
      (none_of (reads_fields strict names reads ms) (fields_decide strict reads parts names ms decides ∙ why.0), why.1, inr (ms, refl, why.2 (first_missing parts names ms)))

  -- a name is missing
  pub struct_lacks : (f : Failure) → ExplainsEntries strict parts names ms None → MissingFails (first_missing parts names ms) f → f.found ≡ Map
      → Explains (struct_reading (reads_fields strict names reads)) (StructFails strict parts names) t (Some f)
  struct_lacks f others why found =
      subst (λ u. Explains (struct_reading (reads_fields strict names reads)) (StructFails strict parts names) u (Some f)) (sym there) (
        none_of (reads_fields strict names reads ms) (fields_decide strict reads parts names ms decides
            ∙ and_false (all_may_stand strict names ms) (all_will_do parts names ms) (missing_one parts names ms (some_of (first_missing parts names ms) f why))),
        at_start,
        inr (ms, refl, others.2 (first_missing parts names ms) f why),
      )
    where
      at_start : Leads (entries ms) f
      at_start = subst (λ p. IsSomeAnd (at_path p (entries ms)) (λ v. kind_of v ≡ f.found)) (sym (at_map (first_missing parts names ms) f why)) (sym found)

  -- it is read
  pub struct_read : AreDistinct names → length names ≡ length parts → ExplainsEntries strict parts names ms None → first_missing parts names ms ≡ None
      → Explains (struct_reading (reads_fields strict names reads)) (StructFails strict parts names) t None
  struct_read distinct long others none =
      subst (λ u. Explains (struct_reading (reads_fields strict names reads)) (StructFails strict parts names) u None) (sym there)
      (fields_decide strict reads parts names ms decides ∙ ap₂ ◌&&◌ others.0 (all_there parts names ms distinct long others.1 none))

-- ---- the error

-- the error of the entries that are left is that of all
abbrev pub SameFieldsError : (strict : Bool) (parts : List {1} reading.Part) (names : List (List ℕ)) (all rest : Members) → Type 0
SameFieldsError strict parts names all rest = (e : SerdeError) → FieldsError strict parts names rest e → FieldsError strict parts names all e

passed : (strict : Bool) (parts : List {1} reading.Part) (names : List (List ℕ)) (all rest ms : Members) (k : List ℕ) (t : Tree)
    → SameFieldsError strict parts names all rest → rest ≡ member k t ms → may_stand strict names k ≡ true → reading.accepts_named parts names k t ≡ true → SameFieldsError strict parts names all ms
passed strict parts names all rest ms k t same taken may here = λ e why. same e (subst (λ r. FieldsError strict parts names r e) (sym taken) (inr (may, inr (here, why))))

-- the field of a name reads what it holds
pub fields_error_next : (strict : Bool) (parts : List {1} reading.Part) (names : List (List ℕ)) (all rest ms : Members) (i : ℕ) (k : List ℕ) (t : Tree)
    → AreDistinct names → SameFieldsError strict parts names all rest → rest ≡ member k t ms → slice_get names i ≡ Some k → reading.accepts_at parts i t ≡ true
    → SameFieldsError strict parts names all ms
fields_error_next strict parts names all rest ms i k t distinct same taken at here =
    passed strict parts names all rest ms k t same taken (known strict names i k at) (accepted.accepts-named parts names i k t distinct at ∙ here)

-- an entry of another name, which may stand there
pub fields_error_other : (strict : Bool) (parts : List {1} reading.Part) (names : List (List ℕ)) (all rest ms : Members) (k : List ℕ) (t : Tree)
    → SameFieldsError strict parts names all rest → rest ≡ member k t ms → strict ≡ false → among k names ≡ false → SameFieldsError strict parts names all ms
fields_error_other strict parts names all rest ms k t same taken lax none =
    passed strict parts names all rest ms k t same taken (any_key strict names k lax) (accepted.none-named parts names k t none)

-- a field doesn't read what its name holds
pub field_error : (strict : Bool) (parts : List {1} reading.Part) (names : List (List ℕ)) (all rest ms : Members) (i : ℕ) (k : List ℕ) (t : Tree) (e f : SerdeError)
    → AreDistinct names → SameFieldsError strict parts names all rest → rest ≡ member k t ms → slice_get names i ≡ Some k → RejectsAt parts i t e → f ≡ e
    → FieldsError strict parts names all f
field_error strict parts names all rest ms i k t e f distinct same taken at why is =
    subst (FieldsError strict parts names all) (sym is)
    (same e (subst (λ r. FieldsError strict parts names r e) (sym taken)
    (inr (known strict names i k at, inl (accepted.rejects-named parts names i k t e distinct at why)))))

-- each key may stand, and each field reads what its name holds
pub fields_error_end : (strict : Bool) (parts : List {1} reading.Part) (names : List (List ℕ)) (all rest : Members) → SameFieldsError strict parts names all rest → rest ≡ no_members
    → RejectsEntries strict parts names all None
fields_error_end strict parts names all rest same ended = λ e why. same e (subst (λ r. FieldsError strict parts names r e) (sym ended) why)

-- the error of the struct
pub struct_error : (strict : Bool) (parts : List {1} reading.Part) (names : List (List ℕ)) (t : Tree) (ms : Members) (e : SerdeError) → t ≡ entries ms → FieldsError strict parts names ms e
    → StructReadError strict parts names t e
struct_error strict parts names t ms e there why = subst (λ u. StructReadError strict parts names u e) (sym there) (inr (ms, refl, why))
