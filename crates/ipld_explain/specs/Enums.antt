-- Failures of enums (serde's form of an enum in the IPLD data model).
use Rattle.std.proofs.Common.{◌≡◌, ◌⊎◌, ℕ, List, [], ◌∷◌, map, length, true, false, Option, Some, None, IsSome, option_map, if◌then◌else◌, Result, Ok, Err, codes, inl, inr}
use Rattle.std.specs.Borrow.{Bor}
use Rattle.std.specs.Result.{result_ok}
use Rattle.std.specs.Str.{bytes_eq}
use Rattle.ipld_tree.specs.Tree.{Tree, text, entries, member, no_members}
use Rattle.ipld_ser.specs.declared.error.SerdeError.{SerdeError}
use Rattle.ipld_ser.specs.declared.error.SerdeError.TheVariants.{VariantContent}
use Rattle.ipld_de.specs.Fields.{strings}
use Rattle.ipld_ser.specs.Names.{AreDistinct}
use Rattle.ipld_de.specs.Forms.{variant_in, unit_in}
use Rattle.ipld_de.specs.Forms as forms
use Rattle.ipld_de.specs.Reading.{IsCustom, OtherKind}
use Rattle.ipld_explain.specs.Path.{key}
use Rattle.ipld_explain.specs.Failures.{Failure, unknown_variant, FailsHere, Inside, Leads}
use Rattle.ipld_explain.specs.declared.explanation.Expected.TheVariants as expected

-- the names of an enum's variants, in order, with the names of their fields
abbrev pub Names : Type 0
Names = List (List ℕ × List (List ℕ))

-- the model of borrowed names
abbrev pub names_of : List (Bor (List ℕ) × Bor (List (Bor (List ℕ)))) → Names
names_of names = map (λ n. (n.0.now, strings n.1.now)) names

-- the tree of a variant with this name and this content
abbrev pub whole : List ℕ → Option Tree → Tree
whole name None = text name
whole name (Some t) = entries (member name t no_members)

-- ---- the variant of a name

-- the reading of the content by the first variant if it has the name, and otherwise by the others
abbrev pub first_reads : {C D : Type 0} → (List (List ℕ) → Option Tree → Option C) → (Names → List ℕ → Option Tree → Option D) → Names → List ℕ → Option Tree → Option (C ⊎ D)
first_reads reads others [] name content = None
first_reads reads others (n ∷ ns) name content = if bytes_eq name n.0 then option_map inl (reads n.1 content) else option_map inr (others ns name content)

-- True if `e` is the error of the first variant if it has the name, and otherwise of the others.
abbrev pub FirstError : (List (List ℕ) → Option Tree → SerdeError → Type 0) → (Names → List ℕ → Option Tree → SerdeError → Type 0) → Names → List ℕ → Option Tree → SerdeError → Type 0
FirstError error others [] name content e = ⊥
FirstError error others (n ∷ ns) name content e = ((bytes_eq name n.0 ≡ true) × error n.1 content e) ⊎ ((bytes_eq name n.0 ≡ false) × others ns name content e)

-- True if `f` is the failure of the first variant if it has the name, and otherwise of the others.
abbrev pub FirstFails : (List (List ℕ) → List ℕ → Option Tree → Failure → Type 0) → (Names → List ℕ → Option Tree → Failure → Type 0) → Names → List ℕ → Option Tree → Failure → Type 0
FirstFails fails others [] name content f = ⊥
FirstFails fails others (n ∷ ns) name content f = ((bytes_eq name n.0 ≡ true) × fails n.1 name content f) ⊎ ((bytes_eq name n.0 ≡ false) × others ns name content f)

-- True if the first names are those of a variant with `count` distinct fields, and the rest are
-- those of the other variants.
abbrev pub FirstNamed : ℕ → (Names → Type 0) → Names → Type 0
FirstNamed count others [] = ⊥
FirstNamed count others (n ∷ ns) = (length n.1 ≡ count) × AreDistinct n.1 × others ns

-- ---- no variant is left

-- Returns nothing: no variant is left to read the content.
abbrev pub no_reading : Names → List ℕ → Option Tree → Option ⊥
no_reading names name content = None

-- True if `e` is the error that no variant has the name.
abbrev pub UnknownError : Names → List ℕ → Option Tree → SerdeError → Type 0
UnknownError names name content e = IsCustom (codes "unknown variant") e

-- True if `f` is the failure that no variant has the name.
abbrev pub UnknownFails : Names → List ℕ → Option Tree → Failure → Type 0
UnknownFails names name content f = (f.path ≡ []) × (f.expected ≡ expected.Variant) × IsCustom (codes "unknown variant") f.error × (f.wrong ≡ unknown_variant name)

-- True if the list of names is empty.
abbrev pub NoneNamed : Names → Type 0
NoneNamed names = names ≡ []

-- ---- the content of a variant

-- the unit value if the content is missing or Null
abbrev pub unit_reading : Option Tree → Option (Unit {0})
unit_reading content = result_ok (unit_in content)

-- True if `e` is the error of a content that is neither missing nor Null.
abbrev pub UnitError : Option Tree → SerdeError → Type 0
UnitError content e = unit_in content ≡ Err e

-- True if there is content, and `f` is the failure that Null was expected as the content.
abbrev pub UnitFails : List ℕ → Option Tree → Failure → Type 0
UnitFails name None f = ⊥
UnitFails name (Some t) f = Inside (key name) (FailsHere expected.Null (OtherKind t)) f

-- True if the content is missing and `f` is the failure of the name itself, or the content fails.
abbrev pub ContentFails : (Tree → Failure → Type 0) → List ℕ → Option Tree → Failure → Type 0
ContentFails fails name None f = FailsHere expected.Map (λ e. e ≡ VariantContent) f
ContentFails fails name (Some t) f = Inside (key name) (fails t) f

-- ---- an enum

-- True if `f` is the failure of a tree that is not a variant, or of a variant.
abbrev pub VariantFails : (List ℕ → Option Tree → Failure → Type 0) → Result forms.Variant SerdeError → Failure → Type 0
VariantFails fails (Err other) f = FailsHere expected.Variant (λ e. e ≡ other) f
VariantFails fails (Ok v) f = fails v.0 v.1 f

-- True if `f` is the failure of a tree that is read as an enum. `fails` has the failures of its
-- variants.
abbrev pub EnumFails : (List ℕ → Option Tree → Failure → Type 0) → Tree → Failure → Type 0
EnumFails fails t f = VariantFails fails (variant_in t) f

-- True if the result is nothing and the variant of this name and this content is read, or it is the
-- failure of the variant, with the path from the enum.
abbrev pub ExplainsVariant : {C : Type 0} → (List ℕ → Option Tree → Option C) → (List ℕ → Option Tree → Failure → Type 0) → List ℕ → Option Tree → Option Failure → Type 0
ExplainsVariant reads fails name content None = IsSome (reads name content)
ExplainsVariant reads fails name content (Some f) = (reads name content ≡ None) × Leads (whole name content) f × fails name content f

-- True if the result is nothing and the content is read, or it is the failure of the content, with
-- the path from the enum.
abbrev pub ExplainsContent : {C : Type 0} → (Option Tree → Option C) → (List ℕ → Option Tree → Failure → Type 0) → List ℕ → Option Tree → Option Failure → Type 0
ExplainsContent reads fails name content None = IsSome (reads content)
ExplainsContent reads fails name content (Some f) = (reads content ≡ None) × Leads (whole name content) f × fails name content f
