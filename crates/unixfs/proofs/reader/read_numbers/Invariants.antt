use Rattle.std.proofs.Common.{◌≡◌, length}
use Rattle.unixfs.specs.Reading.{read_numbers}
use Rattle.unixfs.proofs.Numbers.{after_these}
use Rattle.unixfs.proofs.reader.read_numbers.Given as goal

-- the numbers so far, and then those of the rest
abbrev pub invariant-loop-rest : goal.invariant-loop-rest
invariant-loop-rest l = after_these l.numbers.items (read_numbers l.key l.rest) ≡ read_numbers l.key l.bytes

abbrev pub decreases-loop-rest : goal.decreases-loop-rest
decreases-loop-rest l = length l.rest
