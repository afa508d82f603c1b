use Rattle.std.proofs.Common.{◌≡◌, ◌+◌, ◌<◌, ℕ, length}
use Rattle.std.specs.Prelude.{sum, ◌^◌}
use Rattle.unixfs_files.proofs.part.total.Given as goal

abbrev pub invariant-loop-size : goal.invariant-loop-size
invariant-loop-size l = record {
  fits : l.total < 2 ^ 64;
  same : l.total + sum l.rest ≡ l.head + sum l.sizes;
}

abbrev pub decreases-loop-size : goal.decreases-loop-size
decreases-loop-size l = length l.rest
