use Rattle.std.proofs.Common.{◌+◌, ◌*◌, ◌%◌, ◌<◌, get_or, arith}
use Rattle.blake2b.specs.Blake2b.{sigma}
use Rattle.blake2b.proofs.Mixing.{sigma_below}
use Rattle.blake2b.proofs.compress.word_of.Goals as goal

pub offset_bounds-m-round : goal.offset_bounds-m-round
offset_bounds-m-round c =
    let place : get_or sigma (16 * (c.args.round % 10) + c.args.place) 0 < 16 =
    sigma_below (16 * (c.args.round % 10) + c.args.place) (omega arith) in
    omega arith

pub bounds-m-round : goal.bounds-m-round
bounds-m-round c = sigma_below (16 * (c.args.round % 10) + c.args.place) (omega arith)
