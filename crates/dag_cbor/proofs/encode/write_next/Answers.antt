use Rattle.dag_cbor.specs.Cursors.{left_of}
use Rattle.dag_cbor.proofs.Joining.{left_one, entered}
use Rattle.dag_cbor.proofs.encode.write_next.Goals as goal

pub returns-in_default-clause-ok : goal.returns-in_default-clause-ok
returns-in_default-clause-ok c =
    left_one c.in_ok-value.field-0 (left_of c.args.innermost.now) (left_of c.advance.new.cursor) c.args.out.now.items c.advance.new.out.items c.args.outer.now.items c.pop.new.self.items c.in-Some-pop.cursor
    c.in_default.is c.in_ok-value.ensures c.in-Some-pop.ensures.items

pub returns-clause-ok : goal.returns-clause-ok
returns-clause-ok c =
    entered c.in_ok-value.field-0 c.in-Some.value (left_of c.args.innermost.now) c.args.out.now.items c.advance.new.out.items c.write_value.new.out.items
    c.write_value.new.innermost c.advance.new.cursor c.args.outer.now.items c.write_value.new.outer.items
    c.in-Some.is c.in_ok-value.ensures c.in_ok-write_value.ensures.ok
