-- The results of two steps that conversions share, from the results of the calls in them.
use Rattle.std.specs.Prelude.{◌≡◌, ℤ, Option, Some, None, Result, Ok, Err}
use Rattle.std.specs.Result.{result_map_both}
use Rattle.std.specs.declared.num.TryFromIntError.{TryFromIntError}
use Rattle.ipld_tree.specs.Tree.{Tree, null, integer}
use Rattle.ipld_tree.specs.TreeOf.{tree_of}
use Rattle.ipld_tree.specs.Kind.{kind_of}
use Rattle.ipld_tree.specs.declared.ipld.Ipld.{Ipld}
use Rattle.ipld_tree.specs.declared.ipld.IpldKind.TheVariants.{Integer}
use Rattle.ipld_tree.specs.declared.convert.ConversionError.{ConversionError}
use Rattle.ipld_tree.specs.declared.convert.ConversionError.TheVariants.{WrongIpldKind, FromIpld}
use Rattle.ipld_tree.specs.declared.convert.TargetType.{TargetType}

-- True if `result` is that of the conversion of an integer, with `FromIpld` for its error, or is
-- `WrongIpldKind` for a tree of another kind.
abbrev pub Tried : {N : Type 0} → (ℤ → Result N TryFromIntError → Type 0) → TargetType → Tree → Result N ConversionError → Type 0
Tried {N} converts target (integer n) result =
    (tried : Result N TryFromIntError) × converts n tried × (result ≡ result_map_both (λ x. x) (λ _. FromIpld Integer target) tried)
Tried converts target t result = result ≡ Err (WrongIpldKind Integer (kind_of t))

-- True if `result` is `None` for Null, and otherwise that of the conversion of the content.
abbrev pub OptionalAt : {T : Type 0} → (Result T ConversionError → Type 0) → Tree → Result (Option T) ConversionError → Type 0
OptionalAt converts null result = result ≡ Ok None
OptionalAt {T} converts t result = (taken : Result T ConversionError) × converts taken × (result ≡ result_map_both Some (λ e. e) taken)

abbrev pub Optional : {T : Type 0} → (Ipld → Result T ConversionError → Type 0) → Ipld → Result (Option T) ConversionError → Type 0
Optional converts value result = OptionalAt (converts value) (tree_of value) result
