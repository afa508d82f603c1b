use Rattle.std.proofs.Common.{◌≡◌, ◌++◌, take}
use Rattle.unixfs.specs.Writing.{numbers_bytes}
use Rattle.unixfs.proofs.writer.push_sizes.Given as goal

-- the sizes so far are written
abbrev pub invariant-loop-size : goal.invariant-loop-size
invariant-loop-size l = l.bytes.items ≡ l.initial.bytes.items ++ numbers_bytes 32 (take l.size-index l.sizes)
