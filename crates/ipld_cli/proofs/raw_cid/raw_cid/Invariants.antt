use Rattle.std.proofs.Common.{ℕ, List}
use Rattle.std.specs.Io.KnownBytes.{Consumes}
use Rattle.sha2.specs.Hashers.{Holds256}
use Rattle.ipld_cli.proofs.raw_cid.raw_cid.Given as goal

-- the hasher has what was taken
abbrev pub invariant-loop : goal.invariant-loop
invariant-loop g l =
    (taken : List ℕ) × Holds256 l.hasher taken × Consumes (g.R.Read.remaining l.initial.reader) (g.R.Read.remaining l.reader) taken
