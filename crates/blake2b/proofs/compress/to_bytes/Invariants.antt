use Rattle.std.proofs.Common.{◌≡◌, ◌*◌, length, take}
use Rattle.blake2b.specs.Blake2b.{bytes_of}
use Rattle.blake2b.proofs.compress.to_bytes.Given as goal

abbrev pub invariant-words : goal.invariant-words
invariant-words l = (length l.bytes ≡ 64) × (take (8 * l.i) l.bytes ≡ bytes_of l.h l.i)
