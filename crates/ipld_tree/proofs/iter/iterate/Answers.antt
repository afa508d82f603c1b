use Rattle.std.proofs.Common.{arith, vec_capacity}
use Rattle.std.proofs.lemmas.List.{length-map}
use Rattle.ipld_tree.specs.Cursors.{left_of, levels_of}
use Rattle.ipld_tree.proofs.Walking.{iterated, dropped, fits}
use Rattle.ipld_tree.proofs.iter.iterate.Goals as goal

pub push_cursor_into-requires : goal.push_cursor_into-requires
push_cursor_into-requires c =
    let held = c.take_next.new.stack.items in
    omega (
      arith,
      fits (levels_of c.args.stack.now.items) c.in-Yielded.value.now (levels_of held) (vec_capacity c.args.stack.now) c.in-Yielded.ensures.takes c.requires,
      length-map held left_of,
    )

pub returns-in-Yielded-clause-iterates : goal.returns-in-Yielded-clause-iterates
returns-in-Yielded-clause-iterates c =
    let held = c.take_next.new.stack.items in
    let inner = c.push_cursor_into.ensures.holds.0 in
    let done = iterated (levels_of c.args.stack.now.items) c.in-Yielded.value.now (levels_of held) inner c.in-Yielded.ensures.takes c.push_cursor_into.ensures.holds.1 in
    rw (c.push_cursor_into.ensures.holds.2) (done.0, done.1, omega (arith, done.2))

pub returns-in-Dropped-clause-iterates : goal.returns-in-Dropped-clause-iterates
returns-in-Dropped-clause-iterates c =
    let done = dropped (levels_of c.args.stack.now.items) (levels_of c.take_next.new.stack.items) c.in-Dropped.ensures.takes in
    (done.0, done.1, omega (arith, done.2))
