use Rattle.std.proofs.Common.{List, length}
use Rattle.std.specs.Prelude.{reverse}
use Rattle.unixfs.specs.Files.{Range}
use Rattle.unixfs_files.specs.declared.state.WaitingPart.{WaitingPart}
use Rattle.unixfs_files.specs.Walking.{range_of, Skips}
use Rattle.unixfs_files.proofs.walk.next_part.Given as goal

abbrev pub invariant-loop-part : goal.invariant-loop-part
invariant-loop-part l = (left : List WaitingPart) (rest : Range) → Skips (reverse l.waiting.items) (range_of l.range) left rest → Skips (reverse l.fn.waiting.items) (range_of l.fn.range) left rest

abbrev pub decreases-loop-part : goal.decreases-loop-part
decreases-loop-part l = length l.waiting.items
