-- The DAG-JSON of a data item with floats (IPLD's DAG-JSON specification), and the maps that have
-- no DAG-JSON.
use Rattle.std.specs.Prelude.{◌≡◌, ◌⊎◌, ◌&&◌, ℕ, ◌+◌, Bool, true, false, List, [], ◌∷◌, length, codes, from_bits}
use Rattle.std.specs.Float.{binary64, float_is_finite}
use Rattle.std.specs.Int.{w64, from_be_bytes}
use Rattle.std.specs.List.Sorted.{IsPermutation, IsSortedBy}
use Rattle.std.specs.Str.{IsUtf8, bytes_eq}
use Rattle.ipld_tree.specs.Tree as tree
use Rattle.json.specs.Json.{Json}
use Rattle.json.specs.Json as json
use Rattle.json.specs.Lex.{tokens}
use Rattle.json.specs.Print.{print}
use Rattle.json.specs.Tree.{json_tokens}
use Rattle.dag_cbor_format.specs.declared.major.Major.TheVariants.{List as Array, Map}
use Rattle.dag_cbor_format.specs.Head.{head}
use Rattle.dag_cbor_format.specs.Canonical.{is_before}
use Rattle.dag_json.specs.Form.{json_of}
use Rattle.ipld_show.specs.DataItem.{DataItem, null, boolean, integer, float, text_string, byte_string, link, list, map, DataItems, no_items, item, DataEntries, no_entries, entry, item_count, entry_count, string_encoding, encoding}
use Rattle.ipld_show.specs.Scalars.{IsFloatText, IsMemory}
use Rattle.ipld_show.specs.declared.error.ShowError.{ShowError}
use Rattle.ipld_show.specs.declared.error.ShowError.TheVariants.{Reserved}

-- ---- the members of an object

-- a key with its value
abbrev pub Member : Type 0
Member = List ℕ × DataItem

-- the members of a map, in the order of its bytes
abbrev pub members_of : DataEntries → List Member
members_of no_entries = []
members_of (entry k d es) = (k, d) ∷ members_of es

-- True if no key comes, byte by byte, before the key in front of it.
abbrev pub AreInKeyOrder : List Member → Type 0
AreInKeyOrder ms = IsSortedBy (λ (a b : Member). is_before a.0 b.0) ms

-- True if `ordered` are the members of the map, in the order of the bytes of their keys.
pub record IsInKeyOrder (es : DataEntries) (ordered : List Member) : Type 0 where
  pub same : IsPermutation (members_of es) ordered
  pub in_order : AreInKeyOrder ordered

-- ---- reserved maps

abbrev pub is_text : DataItem → Bool
is_text (text_string s) = true
is_text _ = false

-- Returns true if the first key is `bytes`, and its value is a string.
abbrev pub begin_with_bytes : List Member → Bool
begin_with_bytes [] = false
begin_with_bytes (m ∷ ms) = bytes_eq m.0 (codes "bytes") && is_text m.1

-- True if `is` is whether an item after the key `/` would be read as the content of a link or of
-- bytes. Such an item is a string, or a map whose first key is `bytes`, with a string as its value.
abbrev pub ReadsAsContent : DataItem → Bool → Type 0
ReadsAsContent (text_string s) is = is ≡ true
ReadsAsContent (map es) is = (ordered : List Member) × IsInKeyOrder es ordered × (is ≡ begin_with_bytes ordered)
ReadsAsContent _ is = is ≡ false

-- True if `is` is whether the first key is `/`, and its value would be read as the content of a
-- link or of bytes.
abbrev pub AreReserved : List Member → Bool → Type 0
AreReserved [] is = is ≡ false
AreReserved (m ∷ ms) is = ((bytes_eq m.0 (codes "/") ≡ true) × ReadsAsContent m.1 is) ⊎ ((bytes_eq m.0 (codes "/") ≡ false) × (is ≡ false))

-- ---- the JSON

-- True if the JSON is a number with a point or an exponent that reads as the float of these bits,
-- if that is finite (IEEE 754, binary64).
abbrev pub IsFloatJson : ℕ → Json → Type 0
IsFloatJson bits j = float_is_finite (from_bits binary64 bits) ≡ true → (t : List ℕ) × IsFloatText bits t × (j ≡ json.number t)

-- True if the JSON is that of the item, which is neither a list nor a map: that of the tree, or a
-- number if it is a float (IPLD DAG-JSON).
abbrev pub IsScalarJson : DataItem → Json → Type 0
IsScalarJson null j = j ≡ json_of tree.null
IsScalarJson (boolean b) j = j ≡ json_of (tree.boolean b)
IsScalarJson (integer n) j = j ≡ json_of (tree.integer n)
IsScalarJson (float content) j = IsFloatJson (from_be_bytes w64 content) j
IsScalarJson (text_string s) j = j ≡ json_of (tree.text s)
IsScalarJson (byte_string b) j = j ≡ json_of (tree.bytes b)
IsScalarJson (link encoded cid) j = j ≡ json_of (tree.link cid)
IsScalarJson _ j = ⊥

mutual
  -- True if the JSON is that of the item. A list is an array and a map an object, unless the map is
  -- reserved. The members of an object are in the order of the bytes of their keys (IPLD DAG-JSON).
  pub data IsItemJson : DataItem → Json → Type 0 where
    of_scalar : (d : DataItem) (j : Json) → IsScalarJson d j → IsItemJson d j
    of_list : (ds : DataItems) (js : json.Items) → AreItemsJson ds js → IsItemJson (list ds) (json.array js)
    of_map : (es : DataEntries) (ordered : List Member) (js : json.Members) → IsInKeyOrder es ordered → AreReserved ordered false → AreMembersJson ordered js → IsItemJson (map es) (json.object js)

  -- True if the JSON is that of the items of a list, in order.
  pub data AreItemsJson : DataItems → json.Items → Type 0 where
    no_more_items : AreItemsJson no_items json.no_items
    item_json : (d : DataItem) (ds : DataItems) (j : Json) (js : json.Items) → IsItemJson d j → AreItemsJson ds js → AreItemsJson (item d ds) (json.item j js)

  -- True if the JSON is that of these members, in order.
  pub data AreMembersJson : List Member → json.Members → Type 0 where
    no_more_members : AreMembersJson [] json.no_members
    member_json : (m : Member) (ms : List Member) (j : Json) (js : json.Members) → IsItemJson m.1 j → AreMembersJson ms js → AreMembersJson (m ∷ ms) (json.member m.0 j js)

-- True if the text is the JSON of the item, printed by `print` of the toolchain's `json`, without
-- blanks. It is UTF-8, and the grammar of that `json` reads it as this JSON (IPLD DAG-JSON; RFC
-- 8259).
pub record IsJson (d : DataItem) (text : List ℕ) : Type 0 where
  pub json : Json
  pub is_json : IsItemJson d json
  pub printed : text ≡ print (json_tokens json)
  pub read : tokens text ≡ json_tokens json
  pub utf8 : IsUtf8 text

-- ---- the offset of a part of an item

-- True if `e` is one of these items, and begins `n` bytes after their beginning.
abbrev pub IsItemAt : ℕ → DataItem → DataItems → Type 0
IsItemAt n e no_items = ⊥
IsItemAt n e (item d ds) = ((n ≡ 0) × (e ≡ d)) ⊎ ((m : ℕ) × IsItemAt m e ds × (n ≡ length (encoding d) + m))

-- True if `e` is a value of these entries, and begins `n` bytes after their beginning.
abbrev pub IsValueAt : ℕ → DataItem → DataEntries → Type 0
IsValueAt n e no_entries = ⊥
IsValueAt n e (entry k d es) = ((n ≡ length (string_encoding k)) × (e ≡ d)) ⊎ ((m : ℕ) × IsValueAt m e es × (n ≡ length (string_encoding k) + (length (encoding d) + m)))

-- True if an item is in `d`, or is `d` itself, and begins at this byte of it.
pub data StandsIn (d : DataItem) : ℕ → DataItem → Type 0 where
  whole : StandsIn d 0 d
  in_list : (n m : ℕ) (ds : DataItems) (e : DataItem) → StandsIn d n (list ds) → IsItemAt m e ds → StandsIn d (n + (length (head Array (item_count ds)) + m)) e
  in_map : (n m : ℕ) (es : DataEntries) (e : DataItem) → StandsIn d n (map es) → IsValueAt m e es → StandsIn d (n + (length (head Map (entry_count es)) + m)) e

-- True if an allocation failed, or the error has the offset in the item of a reserved map.
abbrev pub IsJsonError : DataItem → ShowError → Type 0
IsJsonError d (Reserved n) = (es : DataEntries) × (ordered : List Member) × StandsIn d n (map es) × IsInKeyOrder es ordered × AreReserved ordered true
IsJsonError d error = IsMemory error
