use Rattle.std.proofs.lemmas.Result.{err_from_is_err_and}
use Rattle.ipld_tree.specs.TreeOf.{tree_of}
use Rattle.dag_json.specs.Reserved.{has_reserved, any_reserved}
use Rattle.dag_json.specs.Cursors.{trees_left}
use Rattle.dag_json.proofs.Joining.{left_one, entered, next_reserved, why}
use Rattle.dag_json.proofs.encode.write_next.Goals as goal

pub returns-in_default-clause-ok : goal.returns-in_default-clause-ok
returns-in_default-clause-ok c =
    left_one c.in_ok-value.field-0 c.args.innermost.now c.advance.new.cursor c.in-Some-pop.cursor c.args.outer.now.items c.pop.new.self.items c.args.writer.now c.advance.new.writer
    c.in_default.is c.in_ok-value.ensures c.in-Some-pop.ensures.items

pub returns-in_err-write_value-clause-err : goal.returns-in_err-write_value-clause-err
returns-in_err-write_value-clause-err c =
    let p = err_from_is_err_and c.from_residual-in_err-write_value.result c.from_residual-in_err-write_value.ensures.1 in
    rw (p.1, p.2) (
    why c.in_err-write_value.field-0.0 (has_reserved (tree_of c.in-Some.value.now)) (any_reserved (trees_left c.args.innermost.now c.args.outer.now.items))
    (next_reserved c.in_ok-value.field-0 c.in-Some.value c.args.innermost.now c.advance.new.cursor c.args.outer.now.items c.args.writer.now c.advance.new.writer c.in-Some.is c.in_ok-value.ensures)
    c.in_err-write_value.ensures.err
    )

pub returns-clause-ok : goal.returns-clause-ok
returns-clause-ok c =
    entered c.in_ok-value.field-0 c.in-Some.value c.args.innermost.now c.advance.new.cursor c.write_value.new.innermost c.args.outer.now.items c.write_value.new.outer.items
    c.args.writer.now c.advance.new.writer c.write_value.new.writer c.in-Some.is c.in_ok-value.ensures c.in_ok-write_value.ensures.ok
