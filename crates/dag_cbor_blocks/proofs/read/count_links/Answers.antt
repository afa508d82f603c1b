use Rattle.dag_cbor_blocks.proofs.EventReads.{counted}
use Rattle.dag_cbor_blocks.proofs.read.count_links.Goals as goal

pub returns : goal.returns
returns c =
    let r = c.in_ok-counter.ensures in
    record { exact = (counted c.args.options.now.floats c.args.bytes.now r.0 c.counter.result c.in_ok-counter.counter c.counter.ensures.count r.1, r.2) }
