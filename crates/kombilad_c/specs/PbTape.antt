-- The result of the export that lists the parts of a DAG-PB node.
use Rattle.std.specs.Prelude.{◌≡◌, ◌⊎◌, ◌^◌, ◌&&◌, nat_lt, if◌then◌else◌, ℕ, Bool, true, false, List, [], ◌∷◌, ◌++◌, length, Option, Some, None, Err}
use Rattle.ipld_cid.specs.Bytes.{IsCid}
use Rattle.dag_cbor_tape.specs.Describes.{Refers}
use Rattle.dag_cbor_blocks.specs.Tape.{entry}
use Rattle.dag_cbor_blocks.specs.declared.tape.TapeEntry.{TapeEntry}
use Rattle.dag_pb.specs.declared.error.PbError.{PbError}
use Rattle.dag_pb.specs.declared.spans.PbSpan.{PbSpan}
use Rattle.dag_pb.specs.declared.spans.PbLinkSpans.{PbLinkSpans}
use Rattle.dag_pb.specs.declared.spans.PbNodeSpans.{PbNodeSpans}
use Rattle.dag_pb.specs.Node.{LinkParts, NodeParts, IsNode}
use Rattle.dag_pb.specs.NodeReading.{read_node}
use Rattle.dag_pb.specs.Spans.{AreSpansOf}
use Rattle.dag_pb.specs.Views.{IsOutOfMemory}
use Rattle.kombilad_c.specs.declared.pb_tape.NodeTape.{NodeTape}
use Rattle.kombilad_c.specs.Fill.{Variable, Fills, IsUntouched}
use Rattle.kombilad_c.specs.Status.{pb_status}

-- True if `es` is one entry of the kind that refers to the content, or is empty if the content is
-- missing
abbrev pub DescribesWhere : List ℕ → ℕ → Option (List ℕ) → List TapeEntry → Type 0
DescribesWhere block kind None es = es ≡ []
DescribesWhere block kind (Some content) es = (e : TapeEntry) × Refers block kind e content × (es ≡ e ∷ [])

-- The entry of a size, if the size is there
abbrev pub tsize_entry : Option ℕ → List TapeEntry
tsize_entry None = []
tsize_entry (Some n) = entry 3 0 n ∷ []

-- True if `es` are the entries of the link in the block: a link (8) with the bytes of its CID, a
-- string (6) with its name, and an integer (3) with its size. A missing name or size has no entry.
pub record DescribesLink (block : List ℕ) (l : LinkParts) (es : List TapeEntry) : Type 0 where
  pub cid : List ℕ
  pub cid_encoded : IsCid 64 cid l.hash
  pub link : TapeEntry
  pub refers : Refers block 8 link cid
  pub name : List TapeEntry
  pub named : DescribesWhere block 6 l.name name
  pub is : es ≡ link ∷ (name ++ tsize_entry l.tsize)

-- True if `es` are the entries of the links in the block, in order
abbrev pub DescribesLinks : List ℕ → List LinkParts → List TapeEntry → Type 0
DescribesLinks block [] es = es ≡ []
DescribesLinks block (l ∷ ls) es = (here : List TapeEntry) × (others : List TapeEntry) × DescribesLink block l here × DescribesLinks block ls others × (es ≡ here ++ others)

-- True if `es` are the entries of the node in the block: those of its links, and then bytes (7)
-- with its data. Missing data has no entry.
pub record DescribesNode (block : List ℕ) (n : NodeParts) (es : List TapeEntry) : Type 0 where
  pub links : List TapeEntry
  pub content : List TapeEntry
  pub links_described : DescribesLinks block n.links links
  pub content_described : DescribesWhere block 7 n.content content
  pub is : es ≡ links ++ content

-- Whether content is missing or has fewer than 2^32 bytes
abbrev pub is_short : Option (List ℕ) → Bool
is_short None = true
is_short (Some content) = nat_lt (length content) (2 ^ 32)

-- Whether every name is missing or has fewer than 2^32 bytes
abbrev pub names_are_short : List LinkParts → Bool
names_are_short [] = true
names_are_short (l ∷ ls) = is_short l.name && names_are_short ls

-- Whether every name and the data are missing or have fewer than 2^32 bytes
abbrev pub node_is_short : NodeParts → Bool
node_is_short n = names_are_short n.links && is_short n.content

-- ---- the entries of spans

-- A sequence of entries, or `None` if one is too long
abbrev pub Entries : Type 0
Entries = Option (List TapeEntry)

-- Two sequences of entries, one after the other, if both are there
abbrev pub joined : Entries → Entries → Entries
joined (Some es) (Some more) = Some (es ++ more)
joined _ _ = None

-- The entry of the content at a span, if its length is below 2^32
abbrev pub content_at : ℕ → PbSpan → Entries
content_at kind span = if nat_lt span.len (2 ^ 32) then Some (entry kind span.len span.offset ∷ []) else None

-- The entry of the content at a span, or an empty sequence if the content is missing
abbrev pub content_where : ℕ → Option PbSpan → Entries
content_where kind None = Some []
content_where kind (Some span) = content_at kind span

-- The entries of a link
abbrev pub link_at : PbLinkSpans → Entries
link_at spans = joined (content_at 8 spans.hash) (joined (content_where 6 spans.name) (Some (tsize_entry spans.tsize)))

abbrev pub links_at : List PbLinkSpans → Entries
links_at [] = Some []
links_at (s ∷ ss) = joined (link_at s) (links_at ss)

-- The entries of a node
abbrev pub node_at : PbNodeSpans → Entries
node_at spans = joined (links_at spans.links.items) (content_where 7 spans.data)

-- ---- the result of listing

-- True if the bytes are a node, and the entries of its parts go to the buffer. Every entry refers
-- to the content of its own field, even if the same bytes appear elsewhere. The offset is as
-- before.
pub record ListsNode (block : List ℕ) (status : ℕ) (buffer : Variable (List TapeEntry)) (needed : ℕ) (offset : Variable ℕ) : Type 0 where
  pub node : NodeParts
  pub is_node : IsNode node block
  pub entries : List TapeEntry
  pub described : DescribesNode block node entries
  pub spans : PbNodeSpans
  pub are : AreSpansOf spans block
  pub refer : node_at spans ≡ Some entries
  pub fills : Fills entries status buffer.before buffer.after needed
  pub same : offset.after ≡ offset.before

-- True if the bytes are a node with a name or data that are too long for an entry. The status is 8,
-- and the offset is as before.
pub record HasLongPart (block : List ℕ) (status before after : ℕ) : Type 0 where
  pub node : NodeParts
  pub is_node : IsNode node block
  pub long : node_is_short node ≡ false
  pub failed : status ≡ 8
  pub same : after ≡ before

-- True if the bytes are not a node, or an allocation failed. The status is the number of the error,
-- and the offset is its byte.
pub record IsNoNode (block : List ℕ) (status after : ℕ) : Type 0 where
  pub error : PbError
  pub why : IsOutOfMemory error ⊎ (read_node block ≡ Err error)
  pub failed : status ≡ pb_status error.kind
  pub place : after ≡ error.offset

-- True if the entries of the node's links and data go to the buffer (DAG-PB specification). Or a
-- name or the data are too long for an entry, and nothing is written. Or the bytes are not a node
-- or an allocation failed, and only the byte of the error is written.
abbrev pub ListsPbTape :
    List ℕ → (status : ℕ) → Variable (List TapeEntry) → (needed offset : Variable ℕ) → Type 0
ListsPbTape block status buffer needed offset =
    ListsNode block status buffer needed.after offset
    ⊎ (HasLongPart block status offset.before offset.after
    × IsUntouched buffer.before buffer.after needed.before needed.after)
    ⊎ (IsNoNode block status offset.after
    × IsUntouched buffer.before buffer.after needed.before needed.after)

-- True if the status is one that a call may return for a node: 0, 1, 2 or 8
abbrev pub IsOfNode : ℕ → Type 0
IsOfNode status = (status ≡ 0) ⊎ ((status ≡ 2) ⊎ ((status ≡ 8) ⊎ (status ≡ 1)))

-- ---- the state of the code

-- The entries of a tape so far, if all of them fit
abbrev pub entries_of : NodeTape → Entries
entries_of tape = if tape.fits then Some tape.entries.items else None
