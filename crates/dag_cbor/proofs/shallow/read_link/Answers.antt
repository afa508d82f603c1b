use Rattle.std.proofs.Common.{◌≡◌, rules}
use Rattle.dag_cbor.proofs.FrontReads.{link_read}
use Rattle.dag_cbor.proofs.shallow.read_link.Goals as goal

pub returns-in-Ok : goal.returns-in-Ok
returns-in-Ok c = λ levels.
    let r = c.in_ok-encoded in
    let tagged : c.args.tag ≡ 42 = search rules in
    link_read levels c.args.tag c.args.bytes.now r.encoded.now r.rest.now c.in-Ok.cid tagged r.ensures c.in-Ok.ensures.found
