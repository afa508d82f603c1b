-- The bytes that are written for a tree (RFC 8949, section 4.2, and the DAG-CBOR specification,
-- "Strictness"). Arguments are in their shortest form, and lengths are definite. The keys of a map
-- are in order by length and then by bytes, and links are under tag 42. A tree does not have such
-- bytes if an integer is not from -2^64 to 2^64 - 1, or if an argument has more than 64 bits. A
-- tree that is not a value of the data model has no bytes either. In such a tree a string is not
-- UTF-8, a link is not a CID, or the keys of a map do not ascend.
use Rattle.std.specs.Prelude.{ℕ, pos, negsuc, suc, ◌^◌, ◌==◌, ◌&&◌, ◌||◌, nat_lt, Bool, true, false, if◌then◌else◌, List, [], ◌∷◌, ◌++◌, length, Option, Some, None, option_map}
use Rattle.std.specs.Str.{is_utf8}
use Rattle.std.specs.Ordering.{nat_cmp, is_lt}
use Rattle.std.specs.Cmp.Lexicographic.{slice_cmp}
use Rattle.ipld_cid.specs.Cid.{Link}
use Rattle.ipld_cid.specs.Bytes.{bytes_of}
use Rattle.ipld_tree.specs.Tree.{Tree, null, boolean, integer, text, bytes, list, entries, link, Items, no_items, item, Members, no_members, member}
use Rattle.ipld_tokens.specs.LinkBytes.{is_valid}
use Rattle.dag_cbor_format.specs.declared.major.Major.{Major}
use Rattle.dag_cbor_format.specs.declared.major.Major.TheVariants.{Unsigned, Negative, Bytes, Text, List as Array, Map, Tag, Simple}
use Rattle.dag_cbor_format.specs.Head.{head}

-- ---- the order of keys

abbrev pub is_before : List ℕ → List ℕ → Bool
is_before j k = is_lt (slice_cmp nat_cmp j k)

-- Whether key `j` goes before key `k`: it is shorter, or it has the same length and comes first in
-- byte order (the DAG-CBOR specification, "Strictness").
abbrev pub goes_first : List ℕ → List ℕ → Bool
goes_first j k = nat_lt (length j) (length k) || (length j == length k && is_before j k)

-- The entries, which have their keys in this order, with one more entry at its place (the DAG-CBOR
-- specification, "Strictness").
abbrev pub placed : {X : Type 0} → List ℕ → X → List (List ℕ × X) → List (List ℕ × X)
placed k x [] = (k, x) ∷ []
placed k x (e ∷ es) = if goes_first e.0 k then e ∷ placed k x es else (k, x) ∷ (e ∷ es)

-- whether the key comes before every key of the map in byte order
abbrev pub precedes : List ℕ → Members → Bool
precedes k no_members = true
precedes k (member j t ms) = is_before k j && precedes k ms

-- ---- the parts

-- a head and the bytes after it, or nothing if the argument has more than 64 bits or there are no
-- bytes after it
abbrev pub headed : Major → ℕ → Option (List ℕ) → Option (List ℕ)
headed major n None = None
headed major n (Some b) = if nat_lt n (2 ^ 64) then Some (head major n ++ b) else None

abbrev pub written_number : Major → ℕ → Option (List ℕ)
written_number major n = if nat_lt n (2 ^ 64) then Some (head major n) else None

abbrev pub written_text : List ℕ → Option (List ℕ)
written_text s = headed Text (length s) (if is_utf8 s then Some s else None)

abbrev pub written_bytes : List ℕ → Option (List ℕ)
written_bytes b = headed Bytes (length b) (Some b)

abbrev pub written_link : Link → Option (List ℕ)
written_link cid = if is_valid 64 cid then option_map (λ b. head Tag 42 ++ b) (written_bytes (0 ∷ bytes_of cid)) else None

-- the bytes of both, one after the other, or nothing if one of them is nothing
abbrev pub joined : Option (List ℕ) → Option (List ℕ) → Option (List ℕ)
joined (Some a) (Some b) = Some (a ++ b)
joined _ _ = None

abbrev pub item_count : Items → ℕ
item_count no_items = 0
item_count (item t ts) = suc (item_count ts)

-- the keys of a map with the bytes that are written for their values, in the order of the keys
abbrev pub Written : Type 0
Written = List (List ℕ × List ℕ)

abbrev pub written_pairs : Written → Option (List ℕ)
written_pairs [] = Some []
written_pairs (e ∷ es) = joined (joined (written_text e.0) (Some e.1)) (written_pairs es)

-- the keys and values with one more value under a key, or nothing if one of them is nothing
abbrev pub written_with : List ℕ → Option (List ℕ) → Option Written → Option Written
written_with k (Some b) (Some es) = Some (placed k b es)
written_with _ _ _ = None

abbrev pub written_map : Option Written → Option (List ℕ)
written_map None = None
written_map (Some es) = headed Map (length es) (written_pairs es)

-- ---- the bytes of a tree

abbrev mutual
  -- The bytes that are written for a tree: shortest arguments, definite lengths, keys in this
  -- order, and links under tag 42. It is nothing if an integer is not from -2^64 to 2^64 - 1 or an
  -- argument has more than 64 bits. It is also nothing if the tree is not a value of the data model
  -- (RFC 8949, section 4.2; the DAG-CBOR specification).
  pub canonical : Tree → Option (List ℕ)
  canonical null = Some (head Simple 22)
  canonical (boolean false) = Some (head Simple 20)
  canonical (boolean true) = Some (head Simple 21)
  canonical (integer (pos n)) = written_number Unsigned n
  canonical (integer (negsuc n)) = written_number Negative n
  canonical (text s) = written_text s
  canonical (bytes b) = written_bytes b
  canonical (list ts) = headed Array (item_count ts) (canonical_items ts)
  canonical (entries ms) = written_map (canonical_members ms)
  canonical (link cid) = written_link cid

  pub canonical_items : Items → Option (List ℕ)
  canonical_items no_items = Some []
  canonical_items (item t ts) = joined (canonical t) (canonical_items ts)

  pub canonical_members : Members → Option Written
  canonical_members no_members = Some []
  canonical_members (member k t ms) = if precedes k ms then written_with k (canonical t) (canonical_members ms) else None
