-- Structs, which are read from a map by the names of their fields (serde's data model over the IPLD
-- data model). Every field is the reading of the value under its name.
use Rattle.std.specs.Prelude.{◌≡◌, ◌⊎◌, ℕ, zero, suc, List, [], ◌∷◌, map, Bool, true, false, Option, Some, None, is_some, option_map, option_and_then, if◌then◌else◌, codes}
use Rattle.std.specs.Borrow.{Bor}
use Rattle.std.specs.Str.{bytes_eq}
use Rattle.ipld_tree.specs.Tree.{Tree, Members, no_members, member}
use Rattle.ipld_tree.specs.Convert.{entries_in}
use Rattle.ipld_tree.specs.Index.{value_at}
use Rattle.ipld_ser.specs.Image.{both}
pub use Rattle.ipld_ser.specs.Names.{among, AreDistinct}
use Rattle.ipld_ser.specs.declared.error.SerdeError.{SerdeError}
use Rattle.ipld_de.specs.Composites.{option_reading}
use Rattle.ipld_de.specs.Reading.{IsCustom, KindError}

-- the reading of a tree, or `missing` without a tree
abbrev pub reading_or : {C : Type 0} → Option C → (Tree → Option C) → Option Tree → Option C
reading_or missing reads None = missing
reading_or missing reads (Some t) = reads t

-- the reading of the value under a name, or `missing` if the map does not have the name
abbrev pub named_or : {C : Type 0} → Option C → List ℕ → (Tree → Option C) → Members → Option C
named_or missing name reads ms = reading_or missing reads (value_at name ms)

-- The reading of the value under a name, or nothing if the name is missing or the value is not
-- read.
abbrev pub field_named : {C : Type 0} → List ℕ → (Tree → Option C) → Members → Option C
field_named name reads ms = named_or None name reads ms

-- the value under a name, read as an option, or `None` if the name is missing
abbrev pub optional_named : {C : Type 0} → List ℕ → (Tree → Option C) → Members → Option (Option C)
optional_named name reads ms = named_or (Some None) name (option_reading reads) ms

-- The pair of the readings of one field and of others, or nothing if one of these is not read.
abbrev pub and_fields : {C D : Type 0} → (Members → Option C) → (Members → Option D) → Members → Option (C × D)
and_fields first others ms = both (λ c d. (c, d)) (first ms) (others ms)

-- The reading of a struct: a map from whose entries `reads` reads the fields.
abbrev pub struct_reading : {C : Type 0} → (Members → Option C) → Tree → Option C
struct_reading reads t = option_and_then reads (entries_in t)

-- ---- names

-- True if `name` is not one of these names.
abbrev pub AreOthers : List ℕ → List (List ℕ) → Type 0
AreOthers name [] = Unit {0}
AreOthers name (other ∷ others) = (bytes_eq name other ≡ false) × AreOthers name others

-- Returns true if every key of the map is one of `names`.
abbrev pub all_among : List (List ℕ) → Members → Bool
all_among names no_members = true
all_among names (member k t ms) = if among k names then all_among names ms else false

-- The reading of fields if every key of the map is one of `names`, and otherwise nothing.
abbrev pub only_fields : {C : Type 0} → List (List ℕ) → (Members → Option C) → Members → Option C
only_fields names reads ms = if all_among names ms then reads ms else None

-- the reading of fields, which rejects keys other than `names` if `strict`
abbrev pub reads_fields : {C : Type 0} → Bool → List (List ℕ) → (Members → Option C) → Members → Option C
reads_fields strict names reads ms = if strict then only_fields names reads ms else reads ms

-- ---- fields while they are read

-- The contents of a field in the end: those of the value `v` that was found for it, and otherwise
-- the reading of the value under its name in the members that are left. If the name is missing too,
-- they are the contents of `missing`, if any.
abbrev pub found_or_named : {V C : Type 0} → (V → C) → (Tree → Option C) → Option V → Option V → List ℕ → Members → Option C
found_or_named contents reads missing (Some v) name ms = Some (contents v)
found_or_named contents reads missing None name ms = named_or (option_map contents missing) name reads ms

-- ---- fields in the order of their names

-- the borrowed strings
abbrev pub strings : List (Bor (List ℕ)) → List (List ℕ)
strings names = map (λ name. name.now) names

-- the reading of a field under the first name
abbrev pub under_first : {C : Type 0} → (List ℕ → Members → Option C) → List (List ℕ) → Members → Option C
under_first first [] ms = None
under_first first (name ∷ names) ms = first name ms

-- the readings of a field under the first name, and of others under the names after it
abbrev pub under_each : {C D : Type 0} → (List ℕ → Members → Option C) → (List (List ℕ) → Members → Option D) → List (List ℕ) → Members → Option (C × D)
under_each first others [] ms = None
under_each first others (name ∷ names) ms = and_fields (first name) (others names) ms

-- ---- errors

-- The type of a field, for the errors of a struct: the trees that it reads, and the error of a
-- tree.
pub record Part : Type 1 where
  pub accepts : Tree → Bool
  pub error : Tree → SerdeError → Type 0

-- the type of a field with this reading and this error
abbrev pub part : {C : Type 0} → (Tree → Option C) → (Tree → SerdeError → Type 0) → Part
part reads error = record { accepts = λ t. is_some (reads t); error = error }

-- Returns true if the field at index `i`, if there is one, reads the tree.
abbrev pub accepts_at : List {1} Part → ℕ → Tree → Bool
accepts_at [] i t = true
accepts_at (p ∷ ps) zero t = p.accepts t
accepts_at (p ∷ ps) (suc i) t = accepts_at ps i t

-- True if the field at this index does not read the tree, and `e` is its error.
abbrev pub RejectsAt : List {1} Part → ℕ → Tree → SerdeError → Type 0
RejectsAt [] i t e = ⊥
RejectsAt (p ∷ ps) zero t e = (p.accepts t ≡ false) × p.error t e
RejectsAt (p ∷ ps) (suc i) t e = RejectsAt ps i t e

-- Returns true if the field with the name `k`, if there is one, reads the tree.
abbrev pub accepts_named : List {1} Part → List (List ℕ) → List ℕ → Tree → Bool
accepts_named [] names k t = true
accepts_named (p ∷ ps) [] k t = true
accepts_named (p ∷ ps) (name ∷ names) k t = if bytes_eq name k then p.accepts t else accepts_named ps names k t

-- True if the field with the name `k` does not read the tree, and `e` is its error.
abbrev pub RejectsNamed : List {1} Part → List (List ℕ) → List ℕ → Tree → SerdeError → Type 0
RejectsNamed [] names k t e = ⊥
RejectsNamed (p ∷ ps) [] k t e = ⊥
RejectsNamed (p ∷ ps) (name ∷ names) k t e =
    ((bytes_eq name k ≡ true) × (p.accepts t ≡ false) × p.error t e) ⊎ ((bytes_eq name k ≡ false) × RejectsNamed ps names k t e)

-- Returns true if a map may have the key `k`: if `strict`, only one of `names`, and otherwise any
-- key.
abbrev pub may_stand : Bool → List (List ℕ) → List ℕ → Bool
may_stand strict names k = if strict then among k names else true

-- True if `e` is the error of fields that are read from the entries of a map. It is the error of
-- the first entry whose key is not allowed ("unknown field") or whose value is not read by its
-- field. Without such an entry, it is "missing field".
abbrev pub FieldsError : Bool → List {1} Part → List (List ℕ) → Members → SerdeError → Type 0
FieldsError strict parts names no_members e = IsCustom (codes "missing field") e
FieldsError strict parts names (member k t ms) e =
    ((may_stand strict names k ≡ false) × IsCustom (codes "unknown field") e)
    ⊎ ((may_stand strict names k ≡ true) × (RejectsNamed parts names k t e ⊎ ((accepts_named parts names k t ≡ true) × FieldsError strict parts names ms e)))

-- True if `e` is the error of a struct: `WrongKind` if the tree is not a map, and otherwise the
-- error of the fields.
abbrev pub StructReadError : Bool → List {1} Part → List (List ℕ) → Tree → SerdeError → Type 0
StructReadError strict parts names t e = KindError entries_in (FieldsError strict parts names) t e

-- Returns true if the field at an index has no value yet: `first` at index 0, and otherwise
-- `others` at the index before.
abbrev pub waits_first : Bool → (ℕ → Bool) → ℕ → Bool
waits_first first others zero = first
waits_first first others (suc i) = others i
