use Rattle.std.proofs.Common.{◌≡◌}
use Rattle.murmur3.specs.Murmur3.{body}
use Rattle.murmur3.proofs.hash.murmur3_x64.Given as goal

abbrev pub invariant-each : goal.invariant-each
invariant-each l = l.h ≡ body l.seed l.bytes l.i
