-- Data items of DAG-CBOR with floats, and the bytes that encode them (RFC 8949, section 3, and the
-- DAG-CBOR specification). The entries of a map are in the order of the bytes.
use Rattle.std.specs.Prelude.{◌≡◌, ℕ, ℤ, pos, negsuc, suc, ◌^◌, ◌<◌, Bool, true, false, List, [], ◌∷◌, ◌++◌, length, Option, Some, option_map}
use Rattle.std.specs.Str.{IsUtf8}
use Rattle.ipld_cid.specs.Cid.{Link}
use Rattle.ipld_cid.specs.Bytes.{IsCid}
use Rattle.ipld_tree.specs.Tree.{Tree, Items, Members}
use Rattle.ipld_tree.specs.Tree as tree
use Rattle.ipld_tokens.specs.ItemTree.{item_before, put_new}
use Rattle.dag_cbor_format.specs.declared.major.Major.TheVariants.{Unsigned, Negative, Bytes, Text, List as Array, Map, Tag, Simple}
use Rattle.dag_cbor_format.specs.Head.{head}
use Rattle.dag_cbor_format.specs.Floats.{is_finite}

mutual
  -- The data items of DAG-CBOR: null, a Boolean, an integer, a float, a text string, a byte string,
  -- a link, a list, or a map. A float has its eight bytes. A link has the bytes of its CID, and the
  -- CID. The entries of a map are in the order of the bytes (RFC 8949, section 3; DAG-CBOR
  -- specification; IEEE 754, binary64).
  pub data DataItem : Type 0 where
    null : DataItem
    boolean : Bool → DataItem
    integer : ℤ → DataItem
    -- its eight bytes (IEEE 754, binary64), most significant first
    float : List ℕ → DataItem
    text_string : List ℕ → DataItem
    byte_string : List ℕ → DataItem
    -- the bytes of a CID, and the CID
    link : List ℕ → Link → DataItem
    list : DataItems → DataItem
    map : DataEntries → DataItem

  -- the items of a list, in order
  pub data DataItems : Type 0 where
    no_items : DataItems
    item : DataItem → DataItems → DataItems

  -- the entries of a map: keys, which are the bytes of strings, with their values
  pub data DataEntries : Type 0 where
    no_entries : DataEntries
    entry : List ℕ → DataItem → DataEntries → DataEntries

abbrev pub item_count : DataItems → ℕ
item_count no_items = 0
item_count (item d ds) = suc (item_count ds)

abbrev pub entry_count : DataEntries → ℕ
entry_count no_entries = 0
entry_count (entry k d es) = suc (entry_count es)

-- the encoding of a string: a head with its length, then its bytes
abbrev pub string_encoding : List ℕ → List ℕ
string_encoding s = head Text (length s) ++ s

-- ---- the bytes that encode an item

abbrev mutual
  pub encoding : DataItem → List ℕ
  encoding null = head Simple 22
  encoding (boolean false) = head Simple 20
  encoding (boolean true) = head Simple 21
  encoding (integer (pos n)) = head Unsigned n
  encoding (integer (negsuc n)) = head Negative n
  encoding (float content) = 251 ∷ content
  encoding (text_string s) = string_encoding s
  encoding (byte_string b) = head Bytes (length b) ++ b
  encoding (link encoded cid) = head Tag 42 ++ (head Bytes (suc (length encoded)) ++ 0 ∷ encoded)
  encoding (list ds) = head Array (item_count ds) ++ items_encoding ds
  encoding (map es) = head Map (entry_count es) ++ entries_encoding es

  pub items_encoding : DataItems → List ℕ
  items_encoding no_items = []
  items_encoding (item d ds) = encoding d ++ items_encoding ds

  pub entries_encoding : DataEntries → List ℕ
  entries_encoding no_entries = []
  entries_encoding (entry k d es) = string_encoding k ++ (encoding d ++ entries_encoding es)

-- ---- the items that have an encoding

abbrev pub IsString : List ℕ → Type 0
IsString s = IsUtf8 s × (length s < 2 ^ 64)

abbrev mutual
  pub IsDataItem : DataItem → Type 0
  IsDataItem null = Unit {0}
  IsDataItem (boolean b) = Unit {0}
  IsDataItem (integer (pos n)) = n < 2 ^ 64
  IsDataItem (integer (negsuc n)) = n < 2 ^ 64
  IsDataItem (float content) = (length content ≡ 8) × (is_finite content ≡ true)
  IsDataItem (text_string s) = IsString s
  IsDataItem (byte_string b) = length b < 2 ^ 64
  IsDataItem (link encoded cid) = (suc (length encoded) < 2 ^ 64) × IsCid 64 encoded cid
  IsDataItem (list ds) = (item_count ds < 2 ^ 64) × AreDataItems ds
  IsDataItem (map es) = (entry_count es < 2 ^ 64) × AreDataEntries es

  pub AreDataItems : DataItems → Type 0
  AreDataItems no_items = Unit {0}
  AreDataItems (item d ds) = IsDataItem d × AreDataItems ds

  pub AreDataEntries : DataEntries → Type 0
  AreDataEntries no_entries = Unit {0}
  AreDataEntries (entry k d es) = IsString k × IsDataItem d × AreDataEntries es

-- True if the bytes begin with the encoding of the item, which is a data item of DAG-CBOR, and
-- `rest` follows it (RFC 8949, section 3).
pub record BeginsWithItem (d : DataItem) (bytes rest : List ℕ) : Type 0 where
  pub is_item : IsDataItem d
  pub encoded : bytes ≡ encoding d ++ rest

-- ---- the tree of an item

abbrev mutual
  -- The tree of an item, with null for every float, or nothing if a map has a key twice (IPLD data
  -- model).
  pub tree_of : DataItem → Option Tree
  tree_of null = Some tree.null
  tree_of (boolean b) = Some (tree.boolean b)
  tree_of (integer n) = Some (tree.integer n)
  tree_of (float content) = Some tree.null
  tree_of (text_string s) = Some (tree.text s)
  tree_of (byte_string b) = Some (tree.bytes b)
  tree_of (link encoded cid) = Some (tree.link cid)
  tree_of (list ds) = option_map tree.list (items_of ds)
  tree_of (map es) = option_map tree.entries (members_of es)

  pub items_of : DataItems → Option Items
  items_of no_items = Some tree.no_items
  items_of (item d ds) = item_before (tree_of d) (items_of ds)

  pub members_of : DataEntries → Option Members
  members_of no_entries = Some tree.no_members
  members_of (entry k d es) = put_new (Some k) (tree_of d) (members_of es)
