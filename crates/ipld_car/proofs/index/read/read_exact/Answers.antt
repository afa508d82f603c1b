use Rattle.std.proofs.Common.{rules}
use Rattle.ipld_car.proofs.index.Filling.{filled_more, filled_same}
use Rattle.ipld_car.proofs.index.read.read_exact.Goals as goal
use Rattle.ipld_car.proofs.index.read.read_exact.Goals.{in-Ok, in-Err+in-Interrupted}

pub loop-preserved : goal.loop-preserved
loop-preserved g c =
    let filled = c.match-read.filled in
    let buffer = c.loop.buffer in
    elim c.match-read.branch [
      | in-Ok w ↦ (
        search rules,
        search rules,
        filled_more c.loop.filled _ _ _ buffer c.read.new.buf c.loop.invariant.1 c.loop.invariant.2 w.in-Ok.count filled (search rules) (search rules) (search rules),
      )
      | in-Err+in-Interrupted w ↦ (
        search rules,
        search rules,
        filled_same c.loop.filled _ _ _ buffer c.read.new.buf c.loop.invariant.1 c.loop.invariant.2 filled (search rules) (search rules),
      )
    ]
