use Rattle.std.proofs.Common.{rules}
use Rattle.dag_cbor_blocks.proofs.EventReads.{finder_positions}
use Rattle.dag_cbor_blocks.proofs.read.link_positions.Goals as goal

pub returns : goal.returns
returns c =
    let r = c.in_ok-finder.ensures in
    let new = c.new.ensures in
    record { exact = (finder_positions c.args.options.now.floats c.args.bytes.now r.0 c.new.result c.in_ok-finder.finder new.positions (search (new.size, rules)) new.is_keeping r.1, r.2) }
