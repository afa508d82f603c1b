use Rattle.std.proofs.Common.{[], Option, Err}
use Rattle.ipld_show.specs.OnPath.{IsLinkOnPath}
use Rattle.ipld_show.specs.declared.path.LinkOnPath.{LinkOnPath}
use Rattle.ipld_show.proofs.BlockItems.{made_of, rejected_block, of_block}
use Rattle.ipld_show.proofs.blocks.link_on_path.Goals as goal

pub returns-in-Ok : goal.returns-in-Ok
returns-in-Ok c =
    of_block c.args.codec c.args.bytes.now c.cbor_or.result.now c.args.path.now
    (made_of (λ v. v.items) c.args.codec c.args.bytes.now c.cbor_or.result.now c.in-Ok.made c.in-Ok.ensures.made c.cbor_or.ensures) (λ d r. IsLinkOnPath d c.args.path.now r) (λ d why l. l.1) (λ d l. l.1)
    c.link_before_end.result (λ d b. c.link_before_end.ensures d [] b)

pub returns-in-Err : goal.returns-in-Err
returns-in-Err c = rejected_block c.args.codec c.args.bytes.now (Option LinkOnPath) (λ d. IsLinkOnPath d c.args.path.now (Err c.in-Err.error)) c.in-Err.error c.in-Err.ensures.rejected
