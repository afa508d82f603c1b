use Rattle.std.proofs.Common.{◌≡◌, ◌+◌, map, take}
use Rattle.std.specs.Prelude.{sum}
use Rattle.unixfs_build.specs.Blocks.{sizes_of, totals_of}
use Rattle.unixfs_build.specs.Views.{built}
use Rattle.unixfs_build.proofs.node.sums.Given as goal

-- the sums so far
abbrev pub invariant-loop-part : goal.invariant-loop-part
invariant-loop-part l = (l.size ≡ l.fn.last.size + sum (sizes_of (map built (take l.part-index l.parts)))) × (l.total ≡ l.fn.last.total + sum (totals_of (map built (take l.part-index l.parts))))
