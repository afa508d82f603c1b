use Rattle.std.proofs.Common.{◌+◌, ◌++◌, length, map, sym, ap, ap₂}
use Rattle.dag_cbor_blocks.specs.LinkPositions.{position_of, kept}
use Rattle.dag_cbor_blocks.proofs.Visits.{no_links, no_positions}
use Rattle.dag_cbor_blocks.proofs.link_position.PositionFinderVisitor.visit.Goals as goal

pub returns-in_default : goal.returns-in_default
returns-in_default c = λ key more.
    let old = c.args.self.now in
    let none = c.in_default.not-Link in
    ap₂ (λ n ps. (old.count + n, map position_of old.positions.items ++ kept old.is_keeping ps)) (ap length (sym (no_links c.args.event.now none c.args._left key more)))
    (sym (no_positions c.args.event.now none old.size c.args._left key more))
