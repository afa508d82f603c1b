-- The tape of a tree whose integers may represent floats: an entry for every value and key, over
-- the bytes that they hold.
use Rattle.std.specs.Prelude.{◌≡◌, ℕ, suc, true, false, List, [], ◌∷◌, ◌++◌, length, Option, Some, None}
use Rattle.std.specs.Int.{w64, to_be_bytes}
use Rattle.ipld_cid.specs.Bytes.{bytes_of}
use Rattle.ipld_tree.specs.Tree.{Tree, null, boolean, integer, text, bytes, list, entries, link, Items, no_items, item, Members, no_members, member}
use Rattle.dag_cbor_blocks.specs.Tape.{entry}
use Rattle.dag_cbor_blocks.specs.declared.tape.TapeEntry.{TapeEntry}
use Rattle.dag_json.specs.Floats.{number_as}
use Rattle.dag_json.specs.declared.floats.Number.{Number}
use Rattle.dag_json.specs.declared.floats.Number.TheVariants.{Unsigned, Negative, Float}

abbrev pub item_count : Items → ℕ
item_count no_items = 0
item_count (item t ts) = suc (item_count ts)

abbrev pub member_count : Members → ℕ
member_count no_members = 0
member_count (member k t ms) = suc (member_count ms)

-- True if the entry has this kind, and its offset and length are those of the content in the data.
pub record IsContent (over : List ℕ) (kind : ℕ) (content : List ℕ) (e : TapeEntry) : Type 0 where
  pub before : List ℕ
  pub after : List ℕ
  pub stands : over ≡ before ++ (content ++ after)
  pub is : e ≡ entry kind (length content) (length before)

-- True if there is only one entry, which has this kind and this content.
abbrev pub HasContent : List ℕ → ℕ → List ℕ → List TapeEntry → Type 0
HasContent over kind content es = (e : TapeEntry) × IsContent over kind content e × (es ≡ e ∷ [])

-- True if these are the entries of a number. An integer that represents no number has no entry.
abbrev pub IsNumberTape : List ℕ → Option Number → List TapeEntry → Type 0
IsNumberTape over None es = es ≡ []
IsNumberTape over (Some (Unsigned n)) es = es ≡ entry 3 0 n ∷ []
IsNumberTape over (Some (Negative n)) es = es ≡ entry 4 0 n ∷ []
IsNumberTape over (Some (Float bits)) es = HasContent over 5 (to_be_bytes w64 bits) es

abbrev mutual
  -- True if these are the entries of a tree over the data. Null, false and true are the kinds 0 to
  -- 2. The integers n and -1 - n are the kinds 3 and 4, with n as the value. An integer that
  -- represents a float is one entry (5), whose eight bytes are in the data, the highest first. The
  -- bytes of a string (6), of bytes (7) and of a link's CID (8) are in the data too. A list (9) and
  -- a map (10) have the number of entries that they span, including their own, and the number of
  -- their items or pairs.
  pub IsTape : List ℕ → Tree → List TapeEntry → Type 0
  IsTape over null es = es ≡ entry 0 0 0 ∷ []
  IsTape over (boolean false) es = es ≡ entry 1 0 0 ∷ []
  IsTape over (boolean true) es = es ≡ entry 2 0 0 ∷ []
  IsTape over (integer n) es = IsNumberTape over (number_as n) es
  IsTape over (text s) es = HasContent over 6 s es
  IsTape over (bytes b) es = HasContent over 7 b es
  IsTape over (list ts) es = (inner : List TapeEntry) × AreTapes over ts inner × (es ≡ entry 9 (suc (length inner)) (item_count ts) ∷ inner)
  IsTape over (entries ms) es = (inner : List TapeEntry) × ArePairs over ms inner × (es ≡ entry 10 (suc (length inner)) (member_count ms) ∷ inner)
  IsTape over (link l) es = HasContent over 8 (bytes_of l) es

  -- True if these are the entries of the items of a list, one after another.
  pub AreTapes : List ℕ → Items → List TapeEntry → Type 0
  AreTapes over no_items es = es ≡ []
  AreTapes over (item t ts) es = (here : List TapeEntry) × (others : List TapeEntry) × IsTape over t here × AreTapes over ts others × (es ≡ here ++ others)

  -- True if these are the entries of the pairs of a map, a key (11) before its value, in the order
  -- of the map, which is by the bytes of the keys.
  pub ArePairs : List ℕ → Members → List TapeEntry → Type 0
  ArePairs over no_members es = es ≡ []
  ArePairs over (member k t ms) es =
      (e : TapeEntry) × (here : List TapeEntry) × (others : List TapeEntry) × IsContent over 11 k e × IsTape over t here × ArePairs over ms others
      × (es ≡ e ∷ (here ++ others))
