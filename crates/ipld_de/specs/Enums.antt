-- Enums in serde's form in the IPLD data model: a string is the name of a variant without content,
-- and a map of one key is a name with its content.
use Rattle.std.proofs.Common.{◌≡◌, ℕ, List, Option, Some, None, Result, Ok, Err, option_map, option_and_then, refl}
use Rattle.std.specs.Result.{result_ok}
use Rattle.ipld_tree.specs.Tree.{Tree}
use Rattle.ipld_ser.specs.Builders.{variant_tree}
use Rattle.ipld_ser.specs.declared.error.SerdeError.{SerdeError}
use Rattle.ipld_de.specs.Forms.{Variant, variant_in}
use Rattle.ipld_de.specs.Law.{ReadsBack, RoundTrip}

-- The reading of an enum by its variant's name and content: a string is a name without content, and
-- a map of one key is a name with its content.
abbrev pub enum_reading : {C : Type 0} → (List ℕ → Option Tree → Option C) → Tree → Option C
enum_reading variant t = option_and_then (λ v. variant v.0 v.1) (result_ok (variant_in t))

-- True if `e` is the error of the variant with its name and content, or, without a variant, the
-- error of the tree.
abbrev pub VariantError : (List ℕ → Option Tree → SerdeError → Type 0) → Result Variant SerdeError → SerdeError → Type 0
VariantError variant (Ok v) e = variant v.0 v.1 e
VariantError variant (Err other) e = e ≡ other

-- True if `e` is the error of an enum: that of the tree if it does not have a variant, and
-- otherwise that of the variant.
abbrev pub EnumReadError : (List ℕ → Option Tree → SerdeError → Type 0) → Tree → SerdeError → Type 0
EnumReadError variant t e = VariantError variant (variant_in t) e

-- True if `t` is the tree of the variant `name` with content, and `v` reads back from the content.
pub record VariantRoundTrip {V C : Type 0} (image : V → Option Tree) (contents : V → C) (reads : Tree → Option C) (plain : V → Type 0) (name : List ℕ) (v : V) (t : Tree) : Type 0 where
  pub tree : Tree
  pub same_tree : variant_tree name tree ≡ t
  pub content : ReadsBack image contents reads plain v tree

beneath : (o : Option Tree) (name : List ℕ) (t : Tree) → option_map (variant_tree name) o ≡ Some t → (u : Tree) × (o ≡ Some u) × (variant_tree name u ≡ t)
beneath None name t is = absurd cc
beneath (Some u) name t is = (u, refl, cc)

-- A variant with content reads back if the type of the content round-trips.
pub variant_round_trip : {V C : Type 0} {image : V → Option Tree} {contents : V → C} {reads : Tree → Option C} {plain : V → Type 0} → RoundTrip image contents reads plain
    → (name : List ℕ) (v : V) (t : Tree) → option_map (variant_tree name) (image v) ≡ Some t → VariantRoundTrip image contents reads plain name v t
variant_round_trip {image = image} law name v t is =
    let b = beneath (image v) name t is in
    record { tree = b.0; same_tree = b.2; content = law.back v b.0 b.1 }
