-- The node that is encoded for a part of a file.
use Rattle.std.proofs.Common.{◌≡◌, ℕ, suc, ◌+◌, ◌<◌, List, [], ◌∷◌, length, Option, Some, None, Ok, Err, inl, inr, refl, sym, ap, subst, ◌∙◌, arith}
use Rattle.std.specs.Prelude.{◌⊎◌, ◌^◌, ◌&&◌, if◌then◌else◌, Bool, true, false, nat_lt, map, sum, option_map, unwrap_or, Result, IfOk, IfErr}
use Rattle.std.proofs.lemmas.Bool.{cases_Bool, ltb-true}
use Rattle.ipld_block.specs.Digest.{digest_by}
use Rattle.ipld_cid.specs.Cid.{Link}
use Rattle.ipld_cid.specs.declared.cid.Version.{Version}
use Rattle.ipld_cid.specs.declared.cid.Version.TheVariants.{V1}
use Rattle.dag_pb.specs.Node.{LinkParts, NodeParts}
use Rattle.dag_pb.specs.Writing as pb
use Rattle.dag_pb.specs.declared.encode_error.PbEncodeError.{PbEncodeError}
use Rattle.dag_pb.specs.declared.encode_error.PbEncodeError.TheVariants as pb_error
use Rattle.unixfs.specs.declared.data.UnixTime.{UnixTime}
use Rattle.unixfs.specs.declared.encode_error.UnixFsEncodeError.{UnixFsEncodeError}
use Rattle.unixfs.specs.declared.encode_error.UnixFsEncodeError.TheVariants as data_error
use Rattle.unixfs.specs.declared.data.DataType.TheVariants.{File}
use Rattle.unixfs.specs.Data.{DataParts, TimeParts}
use Rattle.unixfs.specs.Files.{Child, children_of, IsBlockOf}
use Rattle.unixfs.specs.Nodes.{IsParsed}
use Rattle.unixfs.specs.Views.{parts_of_time}
use Rattle.unixfs.specs.Writing as data_writing
use Rattle.unixfs_build.specs.Blocks.{Built, BuiltBlock, child_of, link_to, sizes_of, totals_of, if_any, sha_link, file_message, file_block, node_of, raw_leaf, leaf_of, has_none, IsTooLarge, Holds}
use Rattle.unixfs_build.specs.Faults.{AreTooLarge, IsLinkFault, IsEncodeFault, out_of_memory, time, IsBlockFault, not_encoded, too_large}
use Rattle.unixfs_build.specs.Views.{block_of}
use Rattle.unixfs_build.specs.declared.block.FileBlock.{FileBlock}
use Rattle.unixfs_build.specs.declared.error.BuildError.{BuildError}
use Rattle.unixfs_build.specs.declared.error.BuildError.TheVariants.{Nanoseconds}
use Rattle.unixfs_build.specs.declared.layout.Attributes.{Attributes}
use Rattle.unixfs_build.specs.declared.layout.Layout.{Layout}

-- a block with its part
abbrev pub block_with : Link → (size total : ℕ) → List ℕ → BuiltBlock
block_with link size total bytes = record { part = record { link = link; size = size; total = total }; bytes = bytes }

-- ---- errors of the message

timed_late : (late : Bool) (nanoseconds count : ℕ) (bytes : List ℕ) → late ≡ true → (if late then Err (data_error.Nanoseconds nanoseconds) else Ok bytes) ≡ Err (data_error.Nanoseconds count) → count ≡ nanoseconds
timed_late true nanoseconds count bytes is e = let same : nanoseconds ≡ count = cc in sym same
timed_late false nanoseconds count bytes is e = absurd cc

timed_early : (late : Bool) (nanoseconds count : ℕ) (bytes : List ℕ) → late ≡ false → (if late then Err (data_error.Nanoseconds nanoseconds) else Ok bytes) ≡ Err (data_error.Nanoseconds count) → ⊥
timed_early true nanoseconds count bytes is e = absurd cc
timed_early false nanoseconds count bytes is e = absurd cc

timed : (mtime : Option UnixTime) (bytes : List ℕ) (count : ℕ) → data_writing.if_valid_time (option_map parts_of_time mtime) bytes ≡ Err (data_error.Nanoseconds count)
    → (t : UnixTime) × (mtime ≡ Some t) × (count ≡ t.nanoseconds) × (999999999 < t.nanoseconds)
timed None bytes count e = absurd cc
timed (Some t) bytes count e = elim (cases_Bool (nat_lt 999999999 t.nanoseconds)) [
  | inl late ↦ (t, refl, timed_late (nat_lt 999999999 t.nanoseconds) t.nanoseconds count bytes late e, ltb-true 999999999 t.nanoseconds late)
  | inr early ↦ absurd (timed_early (nat_lt 999999999 t.nanoseconds) t.nanoseconds count bytes early e)
]

pub time_fault : (attributes : Attributes) (d : DataParts) (error : UnixFsEncodeError) (count : ℕ) → d.mtime ≡ option_map parts_of_time attributes.mtime → error ≡ data_error.Nanoseconds count
    → (error ≡ data_error.Memory) ⊎ (data_writing.written d ≡ Err error) → IsEncodeFault attributes (Nanoseconds count)
unfolding data_writing.written
time_fault attributes d error count same is (inl none) = absurd cc
time_fault attributes d error count same is (inr rejected) =
    let t = timed attributes.mtime (data_writing.data_bytes d) count
    (ap (λ (m : Option TimeParts). data_writing.if_valid_time m (data_writing.data_bytes d)) (sym same) ∙ rejected ∙ ap (λ (e : UnixFsEncodeError). Err e) is) in
    subst (λ (n : ℕ). IsEncodeFault attributes (Nanoseconds n)) (sym t.2) (time t.0 refl t.1 t.3)

-- ---- the message and the node

unless_late : (late : Bool) (nanoseconds : ℕ) (bytes made : List ℕ) → (if late then Err (data_error.Nanoseconds nanoseconds) else Ok bytes) ≡ Ok made → made ≡ bytes
unless_late true nanoseconds bytes made e = absurd cc
unless_late false nanoseconds bytes made e = cc

data_written : (m : Option TimeParts) (bytes made : List ℕ) → data_writing.if_valid_time m bytes ≡ Ok made → made ≡ bytes
data_written None bytes made e = cc
data_written (Some t) bytes made e = unless_late (nat_lt 999999999 t.nanoseconds) t.nanoseconds bytes made e

pub message_is : (d : DataParts) (made : List ℕ) → data_writing.written d ≡ Ok made → made ≡ data_writing.data_bytes d
unfolding data_writing.written
message_is d made e = data_written d.mtime (data_writing.data_bytes d) made e

node_if : (o : Option ℕ) (bytes made : List ℕ) → pb.unless_misplaced o bytes ≡ Ok made → made ≡ bytes
node_if None bytes made e = cc
node_if (Some i) bytes made e = absurd cc

pub node_is : (n : NodeParts) (made : List ℕ) → pb.written n ≡ Ok made → made ≡ pb.node_bytes n
unfolding pb.written
node_is n made e = node_if (pb.misplaced_link n.links) (pb.node_bytes n) made e

-- links with empty names are in order
in_order : (index : ℕ) (part : Built) (parts : List Built) → pb.misplaced_after index (link_to part) (map link_to parts) ≡ None
unfolding pb.precedes
in_order index part [] = refl
in_order index part (next ∷ parts) = in_order (suc index) next parts

pub no_misplaced : (parts : List Built) → pb.misplaced_link (map link_to parts) ≡ None
no_misplaced [] = refl
no_misplaced (part ∷ parts) = in_order 1 part parts

order_if : (o : Option ℕ) (bytes : List ℕ) (index : ℕ) → o ≡ None → pb.unless_misplaced o bytes ≡ Err (pb_error.LinkOrder index) → ⊥
order_if None bytes index none e = absurd cc
order_if (Some i) bytes index none e = absurd cc

-- links that are in order are encoded
pub never_misplaced : (n : NodeParts) (error : PbEncodeError) (index : ℕ) → pb.misplaced_link n.links ≡ None → error ≡ pb_error.LinkOrder index
    → (error ≡ pb_error.Memory) ⊎ (pb.written n ≡ Err error) → ⊥
unfolding pb.written
never_misplaced n error index sorted same (inl none) = absurd cc
never_misplaced n error index sorted same (inr rejected) =
    order_if (pb.misplaced_link n.links) (pb.node_bytes n) index sorted (rejected ∙ ap (λ (e : PbEncodeError). Err e) same)

-- a message with these fields
abbrev message_with : Attributes → Option (List ℕ) → ℕ → List ℕ → DataParts
message_with attributes content filesize sizes = record {
  data_type = File;
  content = content;
  filesize = Some filesize;
  blocksizes = sizes;
  hash_type = None;
  fanout = None;
  mode = attributes.mode;
  mtime = option_map parts_of_time attributes.mtime;
}

pub block_is : (attributes : Attributes) (head : List ℕ) (parts : List Built) (links : List LinkParts) (content : Option (List ℕ)) (filesize : ℕ) (sizes given message made : List ℕ)
    → links ≡ map link_to parts → content ≡ if_any head → filesize ≡ length head + sum (sizes_of parts) → sizes ≡ sizes_of parts
    → message ≡ data_writing.data_bytes (message_with attributes content filesize sizes) → given ≡ message
    → made ≡ pb.node_bytes (record { links = links; content = Some given }) → made ≡ file_block attributes head parts
unfolding file_block
block_is attributes head parts links content filesize sizes given message made links_are content_is filesize_is sizes_are message_made given_is node_made =
    let same : message_with attributes content filesize sizes ≡ file_message attributes head parts
    = ap (λ (c : Option (List ℕ)). message_with attributes c filesize sizes) content_is ∙ ap (λ (n : ℕ). message_with attributes (if_any head) n sizes) filesize_is
    ∙ ap (λ (ns : List ℕ). message_with attributes (if_any head) (length head + sum (sizes_of parts)) ns) sizes_are in
    node_made
    ∙ ap (λ (ls : List LinkParts). pb.node_bytes (record { links = ls; content = Some given })) links_are
    ∙ ap (λ (m : List ℕ). pb.node_bytes (record { links = map link_to parts; content = Some m })) (given_is ∙ message_made ∙ ap data_writing.data_bytes same)

-- ---- the block that is made
pub too_long : (version : Version) (attributes : Attributes) (head : List ℕ) (parts : List Built) (total len : ℕ) (block : List ℕ) → total ≡ sum (totals_of parts) → block ≡ file_block attributes head parts
    → len ≡ length block → (total + len < 2 ^ 64 → ⊥) → IsTooLarge (node_of version attributes head parts).part
unfolding node_of
too_long version attributes head parts total len block total_is block_is len_is long = inr (omega (arith, total_is, ap length block_is, len_is, long))

pub node_made : (version : Version) (attributes : Attributes) (head : List ℕ) (parts : List Built) (link : Link) (block : List ℕ) (size before total : ℕ) → link ≡ sha_link version 0x70 block
    → block ≡ file_block attributes head parts → size ≡ length head + sum (sizes_of parts) → before ≡ sum (totals_of parts) → total ≡ before + length block
    → block_with link size total block ≡ node_of version attributes head parts
unfolding node_of
node_made version attributes head parts link block size before total link_is block_same size_is before_is total_is =
    let all : total ≡ sum (totals_of parts) + length (file_block attributes head parts) = omega (arith, total_is, before_is, ap length block_same) in
    ap (λ (l : Link). block_with l size total block) (link_is ∙ ap (λ (b : List ℕ). sha_link version 0x70 b) block_same)
    ∙ ap (λ (n : ℕ). block_with (sha_link version 0x70 (file_block attributes head parts)) n total block) size_is
    ∙ ap (λ (n : ℕ). block_with (sha_link version 0x70 (file_block attributes head parts)) (length head + sum (sizes_of parts)) n block) all
    ∙ ap (λ (b : List ℕ). block_with (sha_link version 0x70 (file_block attributes head parts)) (length head + sum (sizes_of parts)) (sum (totals_of parts) + length (file_block attributes head parts)) b) block_same

large_node : (version : Version) (attributes : Attributes) (parts : List Built) → AreTooLarge 0 parts → IsTooLarge (node_of version attributes [] parts).part
unfolding node_of
large_node version attributes parts (inl size) = inl size
large_node version attributes parts (inr total) = inr (omega (arith, total))

-- ---- leaves
pub raw_made : (layout : Layout) (attributes : Attributes) (chunk bytes : List ℕ) (link : Link) → (layout.raw_leaves && has_none attributes) ≡ true → link ≡ sha_link V1 0x55 chunk → bytes ≡ chunk
    → block_with link (length chunk) (length chunk) bytes ≡ leaf_of layout attributes chunk
unfolding leaf_of raw_leaf
raw_made layout attributes chunk bytes link raw link_is bytes_is =
    ap (λ (l : Link). block_with l (length chunk) (length chunk) bytes) link_is
    ∙ ap (λ (b : List ℕ). block_with (sha_link V1 0x55 chunk) (length chunk) (length chunk) b) bytes_is
    ∙ ap (λ (b : Bool). if b then raw_leaf chunk else node_of layout.version attributes chunk []) (sym raw)

pub raw_holds : (link : Link) (chunk : List ℕ) (size total : ℕ) → link ≡ sha_link V1 0x55 chunk → size ≡ length chunk → Holds (record { link = link; size = size; total = total }) chunk []
raw_holds link chunk size total is size_is = inl (record {
  is_raw = ap (λ (l : Link). l.codec) is;
  is_block = subst (λ (l : Link). IsBlockOf digest_by l chunk) (sym is) refl;
  no_children = refl;
  is_size = size_is;
})

pub leaf_is : (layout : Layout) (attributes : Attributes) (chunk : List ℕ) → (layout.raw_leaves && has_none attributes) ≡ false → node_of layout.version attributes chunk [] ≡ leaf_of layout attributes chunk
unfolding leaf_of
leaf_is layout attributes chunk cooked = ap (λ (b : Bool). if b then raw_leaf chunk else node_of layout.version attributes chunk []) (sym cooked)

-- ---- what a node holds

children_are : (parts : List Built) → map child_of parts ≡ children_of (map link_to parts) (sizes_of parts)
children_are [] = refl
children_are (part ∷ parts) = ap (λ (cs : List Child). child_of part ∷ cs) (children_are parts)

same_many : (parts : List Built) → length (map link_to parts) ≡ length (sizes_of parts)
same_many [] = refl
same_many (part ∷ parts) = ap suc (same_many parts)

head_is : (head : List ℕ) → head ≡ unwrap_or (if_any head) []
head_is [] = refl
head_is (b ∷ bs) = refl

pub node_holds : (version : Version) (attributes : Attributes) (head : List ℕ) (parts : List Built) → IsParsed (file_block attributes head parts) (map link_to parts) (file_message attributes head parts)
    → Holds (node_of version attributes head parts).part head parts
unfolding node_of
node_holds version attributes head parts parsed = inr (record {
  block = file_block attributes head parts;
  links = map link_to parts;
  parts = file_message attributes head parts;
  is_dag_pb = refl;
  is_block = refl;
  is_parsed = parsed;
  is_file = record {
    is_file = tt;
    is_head = head_is head;
    same_number = same_many parts;
    are_children = children_are parts;
    is_size = refl;
    is_filesize = refl;
  };
})

pub leaf_made : (layout : Layout) (attributes : Attributes) (chunk : List ℕ) (made : Result FileBlock BuildError) → (layout.raw_leaves && has_none attributes) ≡ false
    → IfOk made (λ block. block_of block ≡ node_of layout.version attributes chunk []) → IfOk made (λ block. block_of block ≡ leaf_of layout attributes chunk)
leaf_made layout attributes chunk (Ok block) cooked is = is ∙ leaf_is layout attributes chunk cooked
leaf_made layout attributes chunk (Err error) cooked is = tt

pub leaf_holds : (layout : Layout) (attributes : Attributes) (chunk : List ℕ) (made : Result FileBlock BuildError)
    → IfOk made (λ block. block_of block ≡ node_of layout.version attributes chunk []) → IfOk made (λ block. Holds (node_of layout.version attributes chunk []).part chunk [])
    → IfOk made (λ block. Holds (block_of block).part chunk [])
leaf_holds layout attributes chunk (Ok block) is holds = subst (λ (b : BuiltBlock). Holds b.part chunk []) (sym is) holds
leaf_holds layout attributes chunk (Err error) is holds = tt

pub leaf_fault : (layout : Layout) (attributes : Attributes) (chunk : List ℕ) (made : Result FileBlock BuildError) → (layout.raw_leaves && has_none attributes) ≡ false
    → IfErr made (IsBlockFault attributes (node_of layout.version attributes chunk [])) → IfErr made (IsBlockFault attributes (leaf_of layout attributes chunk))
leaf_fault layout attributes chunk (Ok block) cooked fault = tt
leaf_fault layout attributes chunk (Err error) cooked fault = subst (λ (b : BuiltBlock). IsBlockFault attributes b error) (leaf_is layout attributes chunk cooked) fault

pub link_fault : (version : Version) (attributes : Attributes) (parts : List Built) (error : BuildError) → IsLinkFault 0 parts error → IsBlockFault attributes (node_of version attributes [] parts) error
unfolding node_of
link_fault version attributes parts error (inl none) = not_encoded (out_of_memory none)
link_fault version attributes parts error (inr large) = too_large large.0 (large_node version attributes parts large.1)
