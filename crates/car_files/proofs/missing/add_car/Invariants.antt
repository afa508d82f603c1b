use Rattle.car_files.proofs.Finding.{AddsSoFar}
use Rattle.car_files.proofs.missing.add_car.Given as goal

-- what was added of the blocks so far
abbrev pub invariant-loop-blocks : goal.invariant-loop-blocks
invariant-loop-blocks g l =
    AddsSoFar (g.R.Read.remaining l.initial.car.reader) (g.R.Read.remaining l.car.reader) l.initial.car l.car l.label (g.E.Write.contents l.fn.errors)
    (g.E.Write.contents l.errors) l.fn.index l.index l.blocks l.unknown l.invalid
