-- The header of a CAR (CARv1, "Header"): a varint, and a block of DAG-CBOR whose length it is. The
-- block is a map of the roots, which are links, and of the version, which is 1.
use Rattle.std.specs.Prelude.{◌≡◌, ℕ, pos, List, ◌++◌, length, map, codes, Option, option_map}
use Rattle.ipld_cid.specs.Cid.{Link}
use Rattle.ipld_cid.specs.Varint.{IsVarint, varint_of}
use Rattle.ipld_tree.specs.Tree.{Tree, integer, list, entries, link, Items, no_members, member}
use Rattle.ipld_tree.specs.TreeOf.{as_items}
use Rattle.dag_cbor_format.specs.Canonical.{canonical}
use Rattle.dag_cbor_format.specs.Encoding.{EncodesTree}

-- the items of a list of these links
abbrev pub links : List Link → Items
links roots = as_items (map link roots)

-- `{"roots": [..], "version": 1}`
abbrev pub header_tree : List Link → Tree
header_tree roots = entries (member (codes "roots") (list (links roots)) (member (codes "version") (integer (pos 1)) no_members))

-- The header with these roots whose block is canonical (DAG-CBOR, "Strictness"), or nothing if no
-- canonical block exists.
abbrev pub canonical_header : List Link → Option (List ℕ)
canonical_header roots = option_map (λ block. varint_of (length block) ++ block) (canonical (header_tree roots))

-- True if the bytes are a header with these roots. Its block need not be canonical.
pub record IsHeader (bytes : List ℕ) (roots : List Link) : Type 0 where
  pub size : List ℕ
  pub block : List ℕ
  pub size_encoded : IsVarint (length block) size
  pub block_encoded : EncodesTree (header_tree roots) block
  pub encoded : bytes ≡ size ++ block
