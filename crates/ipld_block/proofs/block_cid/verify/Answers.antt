use Rattle.std.proofs.Common.{sym, ap, ◌∙◌}
use Rattle.ipld_cid.specs.Multihash.{HashParts}
use Rattle.ipld_cid.specs.LinkOf.{link_of}
use Rattle.ipld_block.proofs.block_cid.Checking.{by_identity}
use Rattle.ipld_block.proofs.block_cid.verify.Goals as goal

pub returns-in-0 : goal.returns-in-0
returns-in-0 c =
    by_identity (link_of c.args.cid.now) c.args.block.now c.digest-in-0.result.now c.compare_digests-in-0.result
    (ap (λ (h : HashParts). h.code) (sym c.hash-hash.ensures) ∙ sym c.code.ensures ∙ c.in-0.is)
    (c.digest-in-0.ensures.value ∙ ap (λ (h : HashParts). h.digest) c.hash-hash.ensures) c.compare_digests-in-0.ensures
