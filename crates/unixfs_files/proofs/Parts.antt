-- The part of a file in a block.
use Rattle.std.proofs.Common.{◌≡◌, ℕ, ◌<◌, List, Option, Some, None, Result, Ok, Err, sym, ap, subst, ◌∙◌, arith}
use Rattle.std.proofs.lemmas.Option.{same_Some, none-some}
use Rattle.ipld_block.specs.Digest.{digest_by, IsVerifyError}
use Rattle.ipld_block.specs.declared.block_cid.error.VerifyError.{VerifyError}
use Rattle.ipld_block.specs.declared.block_cid.error.VerifyError.TheVariants.{UnknownHash, WrongDigest}
use Rattle.ipld_cid.specs.Cid.{Link}
use Rattle.std.specs.Prelude.{◌^◌, IfOk, IsOkAnd, MatchResult}
use Rattle.dag_pb.specs.declared.error.PbErrorKind.{PbErrorKind}
use Rattle.dag_pb.specs.declared.error.PbError.{PbError}
use Rattle.dag_pb.specs.Node.{LinkParts}
use Rattle.unixfs.specs.declared.error.UnixFsErrorKind.{UnixFsErrorKind}
use Rattle.unixfs.specs.declared.error.UnixFsError.{UnixFsError}
use Rattle.unixfs.specs.declared.node.NodeError.{NodeError}
use Rattle.unixfs.specs.declared.node.NodeError.TheVariants.{Block, NoData, Message}
use Rattle.unixfs.specs.Data.{DataParts}
use Rattle.unixfs.specs.Files.{IsBlockOf, IsFileOf}
use Rattle.unixfs.specs.Nodes.{UnixFsParts, IsParsed, IsNodeMemory}
use Rattle.unixfs_files.specs.declared.error.PartError.{PartError}
use Rattle.unixfs_files.specs.declared.error.PartError.TheVariants.{Memory}
use Rattle.unixfs_files.specs.declared.part.FilePart.{FilePart}
use Rattle.unixfs_files.specs.ErrorNames.{of_pb_kind, of_message_kind, kind_of_node}
use Rattle.unixfs_files.specs.Parts.{Part, part_of, IsPartIn, raw, node}

-- a node whose reading ran out of memory
pub node_memory : (error : NodeError) → IsNodeMemory error → kind_of_node error ≡ Memory
node_memory (Block error) is = ap (λ (e : PbError). of_pb_kind e.kind (Block error)) is
node_memory NoData is = absurd is
node_memory (Message error) is = ap (λ (e : UnixFsError). of_message_kind e.kind (Message error)) is

-- the part that is found in a node
pub node_found : (codec : ℕ) (block : List ℕ) (links : List LinkParts) (message : DataParts) (r : Result FilePart PartError) → codec ≡ 0x70 → IsParsed block links message
    → IfOk r (λ part. IsFileOf links message (part_of part).head (part_of part).children part.size) → IfOk r (λ part. IsPartIn codec block (part_of part))
node_found codec block links message (Ok part) is parsed file = node links message is parsed file
node_found codec block links message (Err error) is parsed file = tt

ok_then : (r : Result FilePart PartError) (part : Part) → IsOkAnd r (λ found. part_of found ≡ part) → MatchResult r (λ found. part_of found ≡ part) (λ error. error ≡ Memory)
ok_then (Ok found) part same = same
ok_then (Err error) part none = absurd none

-- a block that is a part of a file has no other part, and no error of its own
pub node_only : (codec : ℕ) (block : List ℕ) (u : UnixFsParts) (r : Result FilePart PartError) → codec ≡ 0x70 → ((v : UnixFsParts) → IsParsed block v.links v.message → u ≡ v)
    → ((part : Part) → IsFileOf u.links u.message part.head part.children part.size → part.size < 2 ^ 64 → IsOkAnd r (λ found. part_of found ≡ part))
    → (part : Part) → IsPartIn codec block part → part.size < 2 ^ 64 → MatchResult r (λ found. part_of found ≡ part) (λ error. error ≡ Memory)
node_only codec block u r is same file part (raw is_raw parts) fits = absurd (omega (arith, is, is_raw))
node_only codec block u r is same file part (node links message is_node parsed is_file) fits =
    let one = same (record { links = links; message = message }) parsed in
    ok_then r part (file part (subst (λ (v : UnixFsParts). IsFileOf v.links v.message part.head part.children part.size) (sym one) is_file) fits)

-- the same where reading the node failed
pub node_failed : (codec : ℕ) (block : List ℕ) (error : NodeError) → codec ≡ 0x70 → ((v : UnixFsParts) → IsParsed block v.links v.message → IsNodeMemory error)
    → (part : Part) → IsPartIn codec block part → kind_of_node error ≡ Memory
node_failed codec block error is memory part (raw is_raw parts) = absurd (omega (arith, is, is_raw))
node_failed codec block error is memory part (node links message is_node parsed is_file) = node_memory error (memory (record { links = links; message = message }) parsed)

-- a block that is the CID's is not rejected
pub verified : (link : Link) (block : List ℕ) (error : VerifyError) → IsBlockOf digest_by link block → IsVerifyError link block error → ⊥
verified link block (UnknownHash code) is failed = none-some link.digest (sym failed.1 ∙ is)
verified link block WrongDigest is failed = failed.2 (same_Some failed.0 link.digest (sym failed.1 ∙ is))
