use Rattle.car_files.proofs.Tallying.{TalliesSoFar}
use Rattle.car_files.proofs.verify.write_verified.Given as goal

-- what was seen of the blocks so far, and written about them
abbrev pub invariant-loop-count : goal.invariant-loop-count
invariant-loop-count g l =
    TalliesSoFar l.form (g.R.Read.remaining l.initial.car.reader) (g.R.Read.remaining l.car.reader) l.initial.car l.car l.initial.places l.places (g.W.Write.contents l.initial.writer)
    (g.W.Write.contents l.writer) l.count l.wrong l.unknown
