use Rattle.dag_cbor_blocks.proofs.EventReads.{error_known}
use Rattle.dag_cbor_blocks.proofs.read.check_block.Goals as goal

pub returns : goal.returns
returns c =
    let r = c.in_ok-visit_block.ensures in
    record { exact = (error_known c.args.options.now.floats c.args.bytes.now r.0, r.2) }
