use Rattle.car_files.proofs.Tallying.{ListsSoFar}
use Rattle.car_files.proofs.list.write_list.Given as goal

-- the blocks that were listed so far
abbrev pub invariant-loop-blocks : goal.invariant-loop-blocks
invariant-loop-blocks g l =
    ListsSoFar (g.R.Read.remaining l.initial.car.reader) (g.R.Read.remaining l.car.reader) l.initial.car l.car l.form l.label (g.W.Write.contents l.fn.writer)
    (g.W.Write.contents l.writer) (g.E.Write.contents l.fn.errors) (g.E.Write.contents l.errors) l.blocks l.invalid
