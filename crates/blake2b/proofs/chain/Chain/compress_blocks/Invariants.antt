use Rattle.std.proofs.Common.{List, ℕ, ◌++◌, ◌*◌, take}
use Rattle.blake2b.specs.Chain.{IsAfter}
use Rattle.blake2b.proofs.chain.Chain.compress_blocks.Given as goal

abbrev pub invariant-each : goal.invariant-each
invariant-each l = (initial bytes : List ℕ) → IsAfter initial l.fn.self bytes → IsAfter initial l.self (bytes ++ take (128 * l.i) l.blocks)
