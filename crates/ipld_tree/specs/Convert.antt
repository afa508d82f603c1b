-- The results of conversions of values of the IPLD data model. A type takes the content of one
-- kind, and an integer has to be in the type's range.
use Rattle.std.specs.Prelude.{◌≡◌, ℕ, ℤ, pos, negsuc, ◌^◌, ◌-◌, nat_lt, List, Bool, Option, Some, None, Result, Ok, Err, if◌then◌else◌}
use Rattle.std.specs.Option.{ok_or}
use Rattle.std.specs.Result.{result_map_both}
use Rattle.ipld_cid.specs.Cid.{Link}
use Rattle.ipld_tree.specs.Tree.{Tree, null, boolean, integer, text, bytes, list, entries, link, Items, Members}
use Rattle.ipld_tree.specs.TreeOf.{tree_of}
use Rattle.ipld_tree.specs.Kind.{kind_of}
use Rattle.ipld_tree.specs.declared.ipld.Ipld.{Ipld}
use Rattle.ipld_tree.specs.declared.ipld.IpldKind.{IpldKind}
use Rattle.ipld_tree.specs.declared.ipld.IpldKind.TheVariants.{Integer}
use Rattle.ipld_tree.specs.declared.convert.ConversionError.{ConversionError}
use Rattle.ipld_tree.specs.declared.convert.ConversionError.TheVariants.{WrongIpldKind, FromIpld}
use Rattle.ipld_tree.specs.declared.convert.TargetType.{TargetType}

-- ---- the content of each kind, or nothing for a tree of another kind

-- the unit value, of Null
abbrev pub nothing_in : Tree → Option (Unit {0})
nothing_in null = Some tt
nothing_in t = None

-- the content of a Bool
abbrev pub boolean_in : Tree → Option Bool
boolean_in (boolean b) = Some b
boolean_in t = None

-- the content of an Integer
abbrev pub integer_in : Tree → Option ℤ
integer_in (integer n) = Some n
integer_in t = None

-- the content of a String
abbrev pub text_in : Tree → Option (List ℕ)
text_in (text s) = Some s
text_in t = None

-- the content of Bytes
abbrev pub bytes_in : Tree → Option (List ℕ)
bytes_in (bytes b) = Some b
bytes_in t = None

-- the items of a List
abbrev pub list_in : Tree → Option Items
list_in (list ts) = Some ts
list_in t = None

-- the entries of a Map
abbrev pub entries_in : Tree → Option Members
entries_in (entries ms) = Some ms
entries_in t = None

-- the content of a Link
abbrev pub link_in : Tree → Option Link
link_in (link l) = Some l
link_in t = None

-- ---- ranges

-- the number if an unsigned type of `bits` bits holds it
abbrev pub unsigned_at : ℕ → ℤ → Option ℕ
unsigned_at bits (pos n) = if nat_lt n (2 ^ bits) then Some n else None
unsigned_at bits (negsuc n) = None

-- the number if a signed type of `bits` bits holds it
abbrev pub signed_at : ℕ → ℤ → Option ℤ
signed_at bits (pos n) = if nat_lt n (2 ^ (bits - 1)) then Some (pos n) else None
signed_at bits (negsuc n) = if nat_lt n (2 ^ (bits - 1)) then Some (negsuc n) else None

-- the number if it is not negative. `u128` holds every such number of an `Ipld`.
abbrev pub not_negative : ℤ → Option ℕ
not_negative (pos n) = Some n
not_negative (negsuc n) = None

-- ---- conversions

-- the content that a type of one kind takes, or an error with the kinds expected and found
abbrev pub of_kind : {C : Type 0} → IpldKind → (Tree → Option C) → Tree → Result C ConversionError
of_kind expected content t = ok_or (content t) (WrongIpldKind expected (kind_of t))

abbrev pub in_range : {N : Type 0} → (ℤ → Option N) → TargetType → Result ℤ ConversionError → Result N ConversionError
in_range within target (Ok n) = ok_or (within n) (FromIpld Integer target)
in_range within target (Err e) = Err e

-- The integer that a type takes from a tree: the number, an error with the kind that is found, or
-- an error that the type is too narrow (this project's own; the Rust crate's rules).
abbrev pub integer_within : {N : Type 0} → (ℤ → Option N) → TargetType → Tree → Result N ConversionError
integer_within within target t = in_range within target (of_kind Integer integer_in t)

-- The content that an `Option` of a type takes: nothing from Null, and otherwise the content that
-- the type takes (this project's own; the Rust crate's rules).
abbrev pub optional : {C : Type 0} → (Tree → Result C ConversionError) → Tree → Result (Option C) ConversionError
optional taken null = Ok None
optional taken t = result_map_both Some (λ e. e) (taken t)

-- True if a conversion returns the content or the error that `taken` yields for the tree of the
-- value (this project's own; the Rust crate's rules).
abbrev pub Converts : {T C : Type 0} → (T → C) → (Tree → Result C ConversionError) → Ipld → Result T ConversionError → Type 0
Converts contents taken value result = result_map_both contents (λ e. e) result ≡ taken (tree_of value)
