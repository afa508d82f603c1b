use Rattle.std.proofs.Common.{take}
use Rattle.std.specs.Io.KnownBytes.{Appends}
use Rattle.ipld_car.specs.Index.{buckets_bytes}
use Rattle.ipld_car.proofs.index.write.write_buckets.Given as goal

-- those so far are written
abbrev pub invariant-loop-bucket : goal.invariant-loop-bucket
invariant-loop-bucket g l = Appends (g.W.Write.contents l.initial.writer) (g.W.Write.contents l.writer) (buckets_bytes (take l.bucket-index l.buckets))
