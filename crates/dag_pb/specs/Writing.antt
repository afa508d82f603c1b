-- The block that is written for a node (DAG-PB specification, "Canonical DAG-PB"): the links first,
-- sorted by their names, and the data after them. Each varint is the shortest.
use Rattle.std.specs.Prelude.{◌≡◌, ℕ, suc, Bool, false, if◌then◌else◌, List, [], ◌∷◌, ◌++◌, flat_map, Option, Some, None, unwrap_or, Result, Ok, Err}
use Rattle.std.specs.Cmp.Lexicographic.{slice_cmp}
use Rattle.std.specs.Ordering.{nat_cmp, is_lt}
use Rattle.ipld_cid.specs.Bytes.{bytes_of}
use Rattle.pb_wire.specs.Writing.{number_bytes, content_bytes}
use Rattle.dag_pb.specs.declared.encode_error.PbEncodeError.{PbEncodeError}
use Rattle.dag_pb.specs.declared.encode_error.PbEncodeError.TheVariants.{LinkOrder}
use Rattle.dag_pb.specs.Node.{LinkParts, NodeParts}

-- the field of a content with this key, or nothing without a content
abbrev pub content_of : (key : ℕ) → Option (List ℕ) → List ℕ
content_of key None = []
content_of key (Some content) = content_bytes key content

-- the field of a number with this key, or nothing without a number
abbrev pub number_of : (key : ℕ) → Option ℕ → List ℕ
number_of key None = []
number_of key (Some n) = number_bytes key n

-- the message `PBLink` of a link: Hash, Name if there is one, and Tsize if there is one
unfoldable pub link_bytes : LinkParts → List ℕ
link_bytes link = content_bytes 10 (bytes_of link.hash) ++ (content_of 18 link.name ++ number_of 24 link.tsize)

-- the field Links of a link
unfoldable pub link_field_bytes : LinkParts → List ℕ
link_field_bytes link = content_bytes 18 (link_bytes link)

-- the fields Links of these links, in order
abbrev pub links_bytes : List LinkParts → List ℕ
links_bytes links = flat_map link_field_bytes links

-- the message `PBNode` of a node: its links, and its data after them
unfoldable pub node_bytes : NodeParts → List ℕ
node_bytes node = links_bytes node.links ++ content_of 10 node.content

-- the bytes by which a link is sorted: its name, or none without a name
abbrev pub sort_key : LinkParts → List ℕ
sort_key link = unwrap_or link.name []

-- whether the name of the first link is less than that of the second, byte by byte
unfoldable pub precedes : LinkParts → LinkParts → Bool
precedes link other = is_lt (slice_cmp nat_cmp (sort_key link) (sort_key other))

-- True if no link precedes the one before it.
abbrev pub AreSorted : List LinkParts → Type 0
AreSorted [] = Unit {0}
AreSorted (l ∷ []) = Unit {0}
AreSorted (l ∷ m ∷ ls) = (precedes m l ≡ false) × AreSorted (m ∷ ls)

-- The index of the first link that precedes the one before it. The first of the links after `link`
-- has this index.
abbrev pub misplaced_after : (index : ℕ) → LinkParts → List LinkParts → Option ℕ
misplaced_after index link [] = None
misplaced_after index link (l ∷ ls) = if precedes l link then Some index else misplaced_after (suc index) l ls

-- the index of the first link that precedes the one before it
abbrev pub misplaced_link : List LinkParts → Option ℕ
misplaced_link [] = None
misplaced_link (l ∷ ls) = misplaced_after 1 l ls

-- the block, unless a link is out of order
abbrev pub unless_misplaced : Option ℕ → List ℕ → Result (List ℕ) PbEncodeError
unless_misplaced None block = Ok block
unless_misplaced (Some index) block = Err (LinkOrder index)

-- The block that is written for a node, or the error of the first link that is out of order.
unfoldable pub written : NodeParts → Result (List ℕ) PbEncodeError
written node = unless_misplaced (misplaced_link node.links) (node_bytes node)
