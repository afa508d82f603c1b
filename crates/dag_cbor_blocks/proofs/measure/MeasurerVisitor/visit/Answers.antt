use Rattle.std.proofs.Common.{refl}
use Rattle.ipld_tokens.specs.Token.{seq, seq_end, map, map_end}
use Rattle.dag_cbor_blocks.proofs.Measuring.{counts_begun, counts_end, counts_key_part, counts_link_part, counts_scalar}
use Rattle.dag_cbor_blocks.proofs.measure.MeasurerVisitor.visit.Goals as goal

pub returns-in-Key : goal.returns-in-Key
returns-in-Key c = λ key. counts_key_part c.args.event.now _ c.args.self.now c.args._left key c.in-Key.is

pub returns-in-Link : goal.returns-in-Link
returns-in-Link c = λ key.
    counts_link_part c.args.event.now _ _ _ c.args.self.now c.count_link.new.self c.count_link.result c.args._left key c.in-Link.is c.requires c.count_link.ensures

pub returns-in-List : goal.returns-in-List
returns-in-List c = λ key.
    rw c.in-List.is (counts_begun c.args.self.now c.begin.new.self seq c.args._left key c.begin.result (λ more. refl) refl c.begin.ensures)

pub returns-in-Map : goal.returns-in-Map
returns-in-Map c = λ key.
    rw c.in-Map.is (counts_begun c.args.self.now c.begin-in-Map.new.self map c.args._left key c.begin-in-Map.result (λ more. refl) refl c.begin-in-Map.ensures)

pub returns-in-EndOfList : goal.returns-in-EndOfList
returns-in-EndOfList c = λ key.
    rw c.in-EndOfList.is (counts_end c.args.self.now c.end.new.self seq_end c.args._left key (λ more. refl) refl refl c.end.ensures)

pub returns-in-EndOfMap : goal.returns-in-EndOfMap
returns-in-EndOfMap c = λ key.
    rw c.in-EndOfMap.is (counts_end c.args.self.now c.end-in-EndOfMap.new.self map_end c.args._left key (λ more. refl) refl refl c.end-in-EndOfMap.ensures)

pub returns-in_default : goal.returns-in_default
returns-in_default c = λ key.
    let n = c.in_default in
    counts_scalar c.args.event.now n.not-Key n.not-Link n.not-List n.not-Map n.not-EndOfList n.not-EndOfMap c.args.self.now c.count_value.new.self c.count_value.result c.args._left key c.count_value.ensures
