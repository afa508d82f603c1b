-- Failures of structs that are read from a map by the names of their fields.
use Rattle.std.specs.Prelude.{◌≡◌, ◌⊎◌, ◌&&◌, ℕ, zero, suc, List, [], ◌∷◌, Bool, true, false, not, if◌then◌else◌, is_some, is_none, Option, Some, None, codes}
use Rattle.std.specs.Str.{bytes_eq}
use Rattle.ipld_tree.specs.Tree.{Tree, entries, Members, no_members, member}
use Rattle.ipld_tree.specs.Convert.{entries_in}
use Rattle.ipld_tree.specs.Index.{value_at}
use Rattle.ipld_de.specs.Reading.{IsCustom}
use Rattle.ipld_de.specs.Fields.{all_among, only_fields, may_stand, FieldsError}
use Rattle.ipld_de.specs.Fields as reading
use Rattle.ipld_ser.specs.declared.error.SerdeError.{SerdeError}
use Rattle.ipld_explain.specs.Path.{key}
use Rattle.ipld_explain.specs.Failures.{Failure, missing_field, unknown_field, Inside, Leads}
use Rattle.ipld_explain.specs.Composites.{KindFails}
use Rattle.ipld_explain.specs.declared.explanation.Expected.TheVariants.{Map, Nothing}

-- a field: whether its name is required, whether its type reads a tree, and its failures
pub record Part : Type 1 where
  pub required : Bool
  pub accepts : Tree → Bool
  pub fails : Tree → Failure → Type 0

-- a field of a type with this reading and these failures
abbrev pub part : {C : Type 0} → Bool → (Tree → Option C) → (Tree → Failure → Type 0) → Part
part required reads fails = record { required = required; accepts = λ t. is_some (reads t); fails = fails }

-- whether the field at this index, if there is one, reads the tree
abbrev pub accepts_at : List {1} Part → ℕ → Tree → Bool
accepts_at [] i t = true
accepts_at (p ∷ ps) zero t = p.accepts t
accepts_at (p ∷ ps) (suc i) t = accepts_at ps i t

-- True if `f` is the failure of the field at this index.
abbrev pub FailsAt : List {1} Part → ℕ → Tree → Failure → Type 0
FailsAt [] i t f = ⊥
FailsAt (p ∷ ps) zero t f = p.fails t f
FailsAt (p ∷ ps) (suc i) t f = FailsAt ps i t f

-- True if the result is nothing and the field at this index reads the tree, or it is the failure of
-- the field.
abbrev pub ExplainsAt : List {1} Part → ℕ → Tree → Option Failure → Type 0
ExplainsAt parts i t None = accepts_at parts i t ≡ true
ExplainsAt parts i t (Some f) = (accepts_at parts i t ≡ false) × Leads t f × FailsAt parts i t f

-- whether the field of this name, if there is one, reads the tree
abbrev pub accepts_named : List {1} Part → List (List ℕ) → List ℕ → Tree → Bool
accepts_named [] names k t = true
accepts_named (p ∷ ps) [] k t = true
accepts_named (p ∷ ps) (name ∷ names) k t = if bytes_eq name k then p.accepts t else accepts_named ps names k t

-- True if `f` is the failure of the field of this name.
abbrev pub FailsNamed : List {1} Part → List (List ℕ) → List ℕ → Tree → Failure → Type 0
FailsNamed [] names k t f = ⊥
FailsNamed (p ∷ ps) [] k t f = ⊥
FailsNamed (p ∷ ps) (name ∷ names) k t f = ((bytes_eq name k ≡ true) × p.fails t f) ⊎ ((bytes_eq name k ≡ false) × FailsNamed ps names k t f)

-- whether the field accepts the value of its name, or its absence
abbrev pub will_do : Part → Option Tree → Bool
will_do p None = not p.required
will_do p (Some t) = p.accepts t

-- whether every field has a name and accepts the value of that name in the map, or its absence
abbrev pub all_will_do : List {1} Part → List (List ℕ) → Members → Bool
all_will_do [] names ms = true
all_will_do (p ∷ ps) [] ms = false
all_will_do (p ∷ ps) (name ∷ names) ms = will_do p (value_at name ms) && all_will_do ps names ms

-- the first name, in the order of the fields, that is required and missing
abbrev pub first_missing : List {1} Part → List (List ℕ) → Members → Option (List ℕ)
first_missing [] names ms = None
first_missing (p ∷ ps) [] ms = None
first_missing (p ∷ ps) (name ∷ names) ms = if p.required && is_none (value_at name ms) then Some name else first_missing ps names ms

-- True if `f` is the failure that this name is missing in the map.
abbrev pub MissingFails : Option (List ℕ) → Failure → Type 0
MissingFails None f = ⊥
MissingFails (Some name) f = (f.path ≡ []) × (f.expected ≡ Map) × IsCustom (codes "missing field") f.error × (f.wrong ≡ missing_field name)

-- True if `f` is the failure that no field has the key of the value.
abbrev pub UnknownFails : Failure → Type 0
UnknownFails f = (f.path ≡ []) × (f.expected ≡ Nothing) × IsCustom (codes "unknown field") f.error × (f.wrong ≡ unknown_field)

-- True if `f` is the first failure, in the order of the entries, of a key that the map may not have
-- or of a field that doesn't read its value. Otherwise, `f` is the failure of the name `missing`.
abbrev pub FieldsFail : Bool → List {1} Part → List (List ℕ) → Option (List ℕ) → Members → Failure → Type 0
FieldsFail strict parts names missing no_members f = MissingFails missing f
FieldsFail strict parts names missing (member k t ms) f =
    ((may_stand strict names k ≡ false) × Inside (key k) UnknownFails f)
    ⊎ ((may_stand strict names k ≡ true) × (Inside (key k) (FailsNamed parts names k t) f ⊎ ((accepts_named parts names k t ≡ true) × FieldsFail strict parts names missing ms f)))

-- True if `f` is the failure of a tree that is read as a struct of these fields. If `strict` is
-- true, the map may not have other names.
abbrev pub StructFails : Bool → List {1} Part → List (List ℕ) → Tree → Failure → Type 0
StructFails strict parts names t f = KindFails Map entries_in (λ ms. FieldsFail strict parts names (first_missing parts names ms) ms) t f

-- whether the map may have all of its keys
abbrev pub all_may_stand : Bool → List (List ℕ) → Members → Bool
all_may_stand strict names ms = if strict then all_among names ms else true

-- True if the result is that of the entries of a map. It is nothing if the map may have all of its
-- keys and every field reads its value. Then the failure of a missing name is that of the entries.
-- Otherwise it is the first failure of a key or a field, whichever name is missing, and leads to a
-- value in the map.
abbrev pub ExplainsEntries : Bool → List {1} Part → List (List ℕ) → Members → Option Failure → Type 0
ExplainsEntries strict parts names ms None =
    (all_may_stand strict names ms ≡ true)
    × ((k : List ℕ) (t : Tree) → value_at k ms ≡ Some t → accepts_named parts names k t ≡ true)
    × ((missing : Option (List ℕ)) (f : Failure) → MissingFails missing f → FieldsFail strict parts names missing ms f)
ExplainsEntries strict parts names ms (Some f) =
    (all_may_stand strict names ms && all_will_do parts names ms ≡ false) × Leads (entries ms) f × ((missing : Option (List ℕ)) → FieldsFail strict parts names missing ms f)

-- True if the result is the error of the entries of a map. If a key or a field is at fault, it is
-- the error with which the fields reject them. Otherwise it is nothing, and the error of a missing
-- name would be theirs.
abbrev pub RejectsEntries : Bool → List {1} reading.Part → List (List ℕ) → Members → Option SerdeError → Type 0
RejectsEntries strict parts names ms None = (e : SerdeError) → IsCustom (codes "missing field") e → FieldsError strict parts names ms e
RejectsEntries strict parts names ms (Some e) = FieldsError strict parts names ms e
