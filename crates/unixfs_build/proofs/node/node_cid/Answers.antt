use Rattle.std.proofs.Common.{ap, length, ◌∙◌}
use Rattle.sha2.proofs.Facts256.{length-sha256}
use Rattle.ipld_cid.specs.Cid.{Link}
use Rattle.ipld_cid.specs.Multihash.{HashParts}
use Rattle.unixfs_build.proofs.node.node_cid.Goals as goal

pub unreachable-requires : goal.unreachable-requires
unreachable-requires c = c.in-Err.ensures.made (
  ap (λ (h : HashParts). h.code) c.hash.ensures ∙ ap (λ (l : Link). l.code) c.cid_of-cid.ensures,
  ap (λ (h : HashParts). length h.digest) c.hash.ensures ∙ ap (λ (l : Link). length l.digest) c.cid_of-cid.ensures ∙ length-sha256 c.args.block.now,
)
