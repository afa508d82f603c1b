use Rattle.std.proofs.Common.{take}
use Rattle.std.specs.Io.KnownBytes.{Appends}
use Rattle.ipld_car.specs.Index.{hashes_bytes}
use Rattle.ipld_car.proofs.index.write.write_hashes.Given as goal

-- those so far are written
abbrev pub invariant-loop-hash : goal.invariant-loop-hash
invariant-loop-hash g l = Appends (g.W.Write.contents l.initial.writer) (g.W.Write.contents l.writer) (hashes_bytes (take l.hash-index l.hashes))
