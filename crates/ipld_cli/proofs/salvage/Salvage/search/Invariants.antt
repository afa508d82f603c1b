use Rattle.ipld_cli.specs.Salvage.{IsBounded}
use Rattle.ipld_cli.proofs.salvage.Salvage.search.Given as goal

-- what was digested in vain is bounded, if it was at first
abbrev pub invariant-loop : goal.invariant-loop
invariant-loop g l = IsBounded 0 l.fn.self → IsBounded 0 l.self
