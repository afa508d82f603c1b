-- The forms that a tree is read in besides a scalar: an option's content, a newtype's content and
-- an enum's variant (serde's data model, over the IPLD data model).
use Rattle.std.specs.Prelude.{◌==◌, ℕ, suc, List, Option, Some, None, Result, Ok, Err, if◌then◌else◌}
use Rattle.std.specs.Str.{bytes_eq}
use Rattle.ipld_cid.specs.declared.cid.TheConstants.{CID_SERDE_PRIVATE_IDENTIFIER}
use Rattle.ipld_tree.specs.Tree.{Tree, null, text, entries, link, Items, no_items, item, Members, no_members, member}
use Rattle.ipld_tree.specs.Convert.{nothing_in, list_in}
use Rattle.ipld_ser.specs.declared.error.SerdeError.{SerdeError}
use Rattle.ipld_ser.specs.declared.error.SerdeError.TheVariants.{NoKey, MoreKeys, VariantContent, WrongLength}
use Rattle.ipld_de.specs.Reading.{wrong_kind, taken}

-- ---- options and newtypes

-- the content of an option: nothing for Null, and otherwise the tree itself
abbrev pub something_in : Tree → Option Tree
something_in null = None
something_in t = Some t

-- the tree if it is a link, and otherwise nothing
abbrev pub only_link : Tree → Option Tree
only_link (link l) = Some (link l)
only_link t = None

-- The content of a newtype. Under the name of CIDs it is a link, or `WrongKind` if the tree is of
-- another kind. Under any other name it is the tree itself.
abbrev pub newtype_in : List ℕ → Tree → Result Tree SerdeError
newtype_in name t = if bytes_eq name CID_SERDE_PRIVATE_IDENTIFIER.now then taken only_link t else Ok t

-- ---- variants

-- a variant's name, and its content if it has one
abbrev pub Variant : Type 0
Variant = List ℕ × Option Tree

-- the only entry of a map, or `NoKey` or `MoreKeys` if the map has another number of entries
abbrev pub only_entry : Members → Result Variant SerdeError
only_entry no_members = Err NoKey
only_entry (member k t no_members) = Ok (k, Some t)
only_entry (member k t (member l u ms)) = Err MoreKeys

-- The variant of an enum, or an error. A string is a name without content, and a map of one key is
-- a name with its content.
abbrev pub variant_in : Tree → Result Variant SerdeError
variant_in (text s) = Ok (s, None)
variant_in (entries ms) = only_entry ms
variant_in t = Err (wrong_kind t)

-- ---- the content of a variant

-- the unit value if the content is missing or Null, and otherwise `WrongKind`
abbrev pub unit_in : Option Tree → Result (Unit {0}) SerdeError
unit_in None = Ok tt
unit_in (Some t) = taken nothing_in t

-- The content of a variant, taken from a tree of one kind. It is `VariantContent` if the variant
-- has no content, and `WrongKind` if the tree is of another kind.
abbrev pub content_in : {C : Type 0} → (Tree → Option C) → Option Tree → Result C SerdeError
content_in content None = Err VariantContent
content_in content (Some t) = taken content t

-- the number of items of a list
abbrev pub count_items : Items → ℕ
count_items no_items = 0
count_items (item t ts) = suc (count_items ts)

-- the number of entries of a map
abbrev pub count_members : Members → ℕ
count_members no_members = 0
count_members (member k t ms) = suc (count_members ms)

-- The items if their number is `len`, and otherwise `WrongLength`. An error stays the same.
abbrev pub of_length : ℕ → Result Items SerdeError → Result Items SerdeError
of_length len (Ok ts) = if count_items ts == len then Ok ts else Err WrongLength
of_length len (Err e) = Err e

-- the items of a variant's content, which has to be a list of exactly `len` items
abbrev pub tuple_in : ℕ → Option Tree → Result Items SerdeError
tuple_in len content = of_length len (content_in list_in content)
