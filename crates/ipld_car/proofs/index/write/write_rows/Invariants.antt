use Rattle.std.proofs.Common.{take}
use Rattle.std.specs.Io.KnownBytes.{Appends}
use Rattle.ipld_car.specs.Index.{rows}
use Rattle.ipld_car.proofs.index.write.write_rows.Given as goal

-- those so far are written
abbrev pub invariant-loop-entry : goal.invariant-loop-entry
invariant-loop-entry g l = Appends (g.W.Write.contents l.initial.writer) (g.W.Write.contents l.writer) (rows (take l.entry-index l.entries))
