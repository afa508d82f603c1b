-- The spans of the parts of a node in its block.
use Rattle.std.specs.Prelude.{◌≡◌, ◌+◌, ◌-◌, ◌≤◌, ℕ, List, [], ◌∷◌, ◌++◌, length, Option, Some, None, option_map}
use Rattle.ipld_cid.specs.Bytes.{IsCid, bytes_of}
use Rattle.ipld_cid.specs.LinkOf.{link_of}
use Rattle.dag_pb.specs.declared.link.PlacedLink.{PlacedLink}
use Rattle.dag_pb.specs.declared.reader.NodeField.{NodeField}
use Rattle.dag_pb.specs.declared.reader.NodeField.TheVariants.{Link, Data}
use Rattle.dag_pb.specs.declared.spans.PbSpan.{PbSpan}
use Rattle.dag_pb.specs.declared.spans.PbLinkSpans.{PbLinkSpans}
use Rattle.dag_pb.specs.declared.spans.PbNodeSpans.{PbNodeSpans}
use Rattle.pb_wire.specs.Wire.{IsVarint, IsContent, IsNumberOf}
use Rattle.dag_pb.specs.Node.{LinkParts, NodeParts, IsName}
use Rattle.dag_pb.specs.Views.{parts_of_link}

-- True if the span of the bytes is this content.
pub record StandsAt (c bytes : List ℕ) (span : PbSpan) : Type 0 where
  pub before : List ℕ
  pub behind : List ℕ
  pub parts : bytes ≡ before ++ (c ++ behind)
  pub begins : span.offset ≡ length before
  pub long : span.len ≡ length c

-- True if the span of the bytes is this content, or both the content and the span are missing.
abbrev pub MayStandAt : Option (List ℕ) → List ℕ → Option PbSpan → Type 0
MayStandAt None bytes None = Unit {0}
MayStandAt (Some c) bytes (Some span) = StandsAt c bytes span
MayStandAt _ bytes _ = ⊥

-- True if the spans are those of the parts of the link: the bytes of its CID, at most 86, and its
-- name. The size in the spans is that of the link.
pub record LinkStandsAt (l : LinkParts) (bytes : List ℕ) (spans : PbLinkSpans) : Type 0 where
  pub cid : List ℕ
  pub cid_encoded : IsCid 64 cid l.hash
  pub hash : StandsAt cid bytes spans.hash
  pub short : spans.hash.len ≤ 86
  pub name : MayStandAt l.name bytes spans.name
  pub tsize : spans.tsize ≡ l.tsize

-- True if the spans are those of the links, in order.
abbrev pub LinksStandAt : List LinkParts → List ℕ → List PbLinkSpans → Type 0
LinksStandAt [] bytes [] = Unit {0}
LinksStandAt (l ∷ ls) bytes (s ∷ ss) = LinkStandsAt l bytes s × LinksStandAt ls bytes ss
LinksStandAt _ bytes _ = ⊥

-- True if the bytes of every link's CID, its name and the data are at these spans of the bytes, and
-- the sizes are the node's.
pub record NodeStandsAt (n : NodeParts) (bytes : List ℕ) (spans : PbNodeSpans) : Type 0 where
  pub links : LinksStandAt n.links bytes spans.links.items
  pub content : MayStandAt n.content bytes spans.data

-- ---- the fields of the spans

-- True if the span has the length of the content, and ends at this byte.
abbrev pub EndsAt : (end : ℕ) → List ℕ → PbSpan → Type 0
EndsAt end c span = (span.offset + length c ≡ end) × (span.len ≡ length c)

-- True if the span has the length of the content and ends at this byte, or both are missing.
abbrev pub MayEndAt : (end : ℕ) → Option (List ℕ) → Option PbSpan → Type 0
MayEndAt end None None = Unit {0}
MayEndAt end (Some c) (Some span) = EndsAt end c span
MayEndAt end _ _ = ⊥

-- True if the bytes are the message `PBLink` of this link, begin at this byte, and have these
-- spans. The span of its hash is at the end of the field Hash, and that of its name at the end of
-- the field Name. The CID has at most 86 bytes.
pub record LinkIsAt (start : ℕ) (l : LinkParts) (message : List ℕ) (spans : PbLinkSpans) : Type 0 where
  pub cid : List ℕ
  pub hash : List ℕ
  pub name : List ℕ
  pub tsize : List ℕ
  pub cid_encoded : IsCid 64 cid l.hash
  pub hash_encoded : IsContent 1 cid hash
  pub name_encoded : IsName l.name name
  pub tsize_encoded : IsNumberOf 3 l.tsize tsize
  pub encoded : message ≡ hash ++ (name ++ tsize)
  pub hash_at : EndsAt (start + length hash) cid spans.hash
  pub short : length cid ≤ 86
  pub name_at : MayEndAt (start + length hash + length name) l.name spans.name
  pub tsize_is : spans.tsize ≡ l.tsize

-- a field of a node, with its spans
pub data SpannedField : Type 0 where
  spanned_link : LinkParts → PbLinkSpans → SpannedField
  spanned_data : List ℕ → PbSpan → SpannedField

-- True if the bytes are this field and begin at this byte, and the spans are those of its content.
abbrev pub FieldIsAt : (start : ℕ) → SpannedField → List ℕ → Type 0
FieldIsAt start (spanned_link l spans) bytes = (message : List ℕ) × (is : IsContent 2 message bytes) × LinkIsAt (start + length is.key + length is.size) l message spans
FieldIsAt start (spanned_data d span) bytes = IsContent 1 d bytes × EndsAt (start + length bytes) d span

-- True if the bytes are these fields, one after another, from this byte on.
abbrev pub FieldsAreAt : (start : ℕ) → List SpannedField → List ℕ → Type 0
FieldsAreAt start [] bytes = bytes ≡ []
FieldsAreAt start (f ∷ fs) bytes = (first : List ℕ) × (rest : List ℕ) × FieldIsAt start f first × FieldsAreAt (start + length first) fs rest × (bytes ≡ first ++ rest)

-- the links among fields; below, their spans
abbrev pub links_among : List SpannedField → List LinkParts
links_among [] = []
links_among (spanned_link l spans ∷ fs) = l ∷ links_among fs
links_among (spanned_data d span ∷ fs) = links_among fs

abbrev pub link_spans_among : List SpannedField → List PbLinkSpans
link_spans_among [] = []
link_spans_among (spanned_link l spans ∷ fs) = spans ∷ link_spans_among fs
link_spans_among (spanned_data d span ∷ fs) = link_spans_among fs

-- the second data if there is one, and otherwise the first; below, the last data among fields, with
-- its span
abbrev pub last_or : List ℕ × PbSpan → Option (List ℕ × PbSpan) → List ℕ × PbSpan
last_or x None = x
last_or x (Some y) = y

abbrev pub data_among : List SpannedField → Option (List ℕ × PbSpan)
data_among [] = None
data_among (spanned_link l spans ∷ fs) = data_among fs
data_among (spanned_data d span ∷ fs) = Some (last_or (d, span) (data_among fs))

-- True if the block is a run of fields, and the spans are those of their contents. For every field
-- Links these are the CID at the end of its field Hash and the name at the end of its field Name.
-- For the last field Data it is the content at its end (Protocol Buffers, "Encoding").
pub record AreSpansOf (spans : PbNodeSpans) (block : List ℕ) : Type 0 where
  pub fields : List SpannedField
  pub are_at : FieldsAreAt 0 fields block
  pub links : spans.links.items ≡ link_spans_among fields
  pub content : spans.data ≡ option_map (λ d. d.1) (data_among fields)

-- ---- the spans that code computes

-- the span of `len` bytes in a block of `size` bytes, with the given number of bytes after it
abbrev pub span_before : (size behind len : ℕ) → PbSpan
span_before size behind len = record { offset = size - behind - len; len = len }

-- True if the bytes are the message of this link. The numbers count the bytes of the block after
-- its field Hash, after its field Name, and after the message.
pub record LinkEndsBefore (hash_behind name_behind behind : ℕ) (l : LinkParts) (message : List ℕ) : Type 0 where
  pub cid : List ℕ
  pub hash : List ℕ
  pub name : List ℕ
  pub tsize : List ℕ
  pub cid_encoded : IsCid 64 cid l.hash
  pub hash_encoded : IsContent 1 cid hash
  pub name_encoded : IsName l.name name
  pub tsize_encoded : IsNumberOf 3 l.tsize tsize
  pub encoded : message ≡ hash ++ (name ++ tsize)
  pub behind_hash : hash_behind ≡ length name + length tsize + behind
  pub behind_name : name_behind ≡ length tsize + behind

-- True if the bytes after this key begin with the length and the content of the field, and `rest`
-- follows.
abbrev pub BeginsBehindKey : ℕ → NodeField → List ℕ → List ℕ → Type 0
BeginsBehindKey key (Link l) bytes rest =
    (key ≡ 18) × (size : List ℕ) × (message : List ℕ) × IsVarint (length message) size × (bytes ≡ size ++ (message ++ rest))
    × LinkEndsBefore l.behind_hash l.behind_name (length rest) (parts_of_link l.link) message
BeginsBehindKey key (Data d) bytes rest = (key ≡ 10) × (size : List ℕ) × IsVarint (length d.now) size × (bytes ≡ size ++ (d.now ++ rest))

-- True if the bytes begin with the field, and `rest` follows.
abbrev pub BeginsWithField : NodeField → List ℕ → List ℕ → Type 0
BeginsWithField (Link l) bytes rest =
    (message : List ℕ) × (first : List ℕ) × IsContent 2 message first × (bytes ≡ first ++ rest) × LinkEndsBefore l.behind_hash l.behind_name (length rest) (parts_of_link l.link) message
BeginsWithField (Data d) bytes rest = (first : List ℕ) × IsContent 1 d.now first × (bytes ≡ first ++ rest)

-- the spans of a link in a block of `size` bytes
abbrev pub spans_of_link : (size : ℕ) → PlacedLink → PbLinkSpans
spans_of_link size placed = record {
  hash = span_before size placed.behind_hash (length (bytes_of (link_of placed.link.hash)));
  name = option_map (λ name. span_before size placed.behind_name (length name.now)) placed.link.name;
  tsize = placed.link.tsize;
}

-- True if `new` is `old` with the spans of this field, in a block of `size` bytes with the given
-- number of bytes after the field.
abbrev pub Spans : (size behind : ℕ) → NodeField → PbNodeSpans → PbNodeSpans → Type 0
Spans size behind (Link l) old new =
    (new.links.items ≡ old.links.items ++ spans_of_link size l ∷ []) × (new.data ≡ old.data) × (length (bytes_of (link_of l.link.hash)) ≤ 86)
Spans size behind (Data d) old new = (new.links.items ≡ old.links.items) × (new.data ≡ Some (span_before size behind (length d.now)))
