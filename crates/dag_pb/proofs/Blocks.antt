-- Blocks that the codec reads and writes.
use Rattle.std.proofs.Common.{◌≡◌, ◌⊎◌, inl, inr, ℕ, List, Option, Some, None, option_and_then, Result, Ok, Err, refl, sym, ap, ◌∙◌}
use Rattle.std.specs.Result.{result_ok}
use Rattle.ipld_cid.specs.Multihash.{IsBytes}
use Rattle.dag_pb.specs.declared.codec_error.PbCodecError.{PbCodecError}
use Rattle.dag_pb.specs.declared.codec_error.PbCodecError.TheVariants as codec
use Rattle.dag_pb.specs.declared.encode_error.PbEncodeError.{PbEncodeError}
use Rattle.dag_pb.specs.declared.encode_error.PbEncodeError.TheVariants.{Memory, LinkOrder}
use Rattle.dag_pb.specs.declared.error.PbError.{PbError}
use Rattle.dag_pb.specs.declared.error.PbErrorKind.{PbErrorKind}
use Rattle.dag_pb.specs.declared.error.PbErrorKind.TheVariants as kind
use Rattle.dag_pb.specs.Codec.{pb_decoded, if_decoded, pb_written, codec_failure, reading_error, writing_error, IsOrderError}
use Rattle.dag_pb.specs.Node.{NodeParts}
use Rattle.dag_pb.specs.NodeReading.{read_node}
use Rattle.dag_pb.specs.Views.{IsOutOfMemory}
use Rattle.dag_pb.specs.Writing.{node_bytes, misplaced_link, unless_misplaced, written}
use Rattle.dag_pb.specs.Lemmas.CodecLaws.{read_decoded}
use Rattle.pb_wire.proofs.Steps.{same_ok}

-- ---- blocks that are read

-- an error of this kind, where a statement is true
reported : (k : PbErrorKind) (e : PbError) (P : Type 0) → P → (reading_error k e ≡ codec.Memory) ⊎ ((codec_failure (reading_error k e) ≡ None) × P)
reported kind.Memory e P p = inl refl
reported kind.End e P p = inr (refl, p)
reported kind.VarintTooLarge e P p = inr (refl, p)
reported (kind.UnknownField key) e P p = inr (refl, p)
reported kind.FieldOrder e P p = inr (refl, p)
reported kind.NoHash e P p = inr (refl, p)
reported (kind.Cid error) e P p = inr (refl, p)
reported kind.Utf8 e P p = inr (refl, p)

-- what an error says of a block that isn't read
pub not_decoded : (block : List ℕ) (e : PbError) (made : PbCodecError) → IsBytes block → IsOutOfMemory e ⊎ (read_node block ≡ Err e) → made ≡ reading_error e.kind e
    → (made ≡ codec.Memory) ⊎ ((codec_failure made ≡ None) × (pb_decoded block ≡ None))
not_decoded block e made whole (inl memory) is = inl (is ∙ ap (λ (x : PbError). reading_error x.kind x) memory)
not_decoded block e made whole (inr first) is = rw is (reported e.kind e (pb_decoded block ≡ None) (read_decoded block (Err e) whole first))

-- ---- blocks that are written

-- the result is that of the links
unless_ok : (o : Option ℕ) (bytes block : List ℕ) → unless_misplaced o bytes ≡ Ok block → bytes ≡ block
unless_ok None bytes block e = same_ok (λ (x : List ℕ). bytes ≡ x) bytes block e refl
unless_ok (Some index) bytes block e = absurd cc

unless_err : (o : Option ℕ) (bytes : List ℕ) (index : ℕ) → unless_misplaced o bytes ≡ Err (LinkOrder index) → o ≡ Some index
unless_err None bytes index e = absurd cc
unless_err (Some i) bytes index e = cc

pub bytes_written : (n : NodeParts) (block : List ℕ) → written n ≡ Ok block → node_bytes n ≡ block
unfolding written
bytes_written n block e = unless_ok (misplaced_link n.links) (node_bytes n) block e

link_misplaced : (n : NodeParts) (index : ℕ) → written n ≡ Err (LinkOrder index) → misplaced_link n.links ≡ Some index
unfolding written
link_misplaced n index e = unless_err (misplaced_link n.links) (node_bytes n) index e

no_block : (n : NodeParts) (e : PbEncodeError) → written n ≡ Err e → pb_written n ≡ None
unfolding pb_written
no_block n e is = ap (λ r. option_and_then (if_decoded n) (result_ok r)) is

-- what an error says of a node that isn't written
pub not_written : (n : NodeParts) (e : PbEncodeError) (made : PbCodecError) → (e ≡ Memory) ⊎ (written n ≡ Err e) → made ≡ writing_error e
    → (made ≡ codec.Memory) ⊎ ((codec_failure made ≡ None) × (pb_written n ≡ None))
not_written n Memory made h is = inl is
not_written n (LinkOrder index) made (inl memory) is = absurd cc
not_written n (LinkOrder index) made (inr first) is = inr (ap codec_failure is, no_block n (LinkOrder index) first)

pub not_in_order : (n : NodeParts) (e : PbEncodeError) (made : PbCodecError) → (e ≡ Memory) ⊎ (written n ≡ Err e) → made ≡ writing_error e
    → (made ≡ codec.Memory) ⊎ IsOrderError n made
not_in_order n Memory made h is = inl is
not_in_order n (LinkOrder index) made (inl memory) is = absurd cc
not_in_order n (LinkOrder index) made (inr first) is = rw is (inr (link_misplaced n index first))
