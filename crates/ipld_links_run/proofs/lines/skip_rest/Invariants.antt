use Rattle.std.specs.Prelude.{IfSome, IsSome}
use Rattle.ipld_links_run.proofs.lines.skip_rest.Given as goal

-- known bytes stay known
abbrev pub invariant-loop : goal.invariant-loop
invariant-loop g l = IfSome (g.R.Read.remaining l.initial.reader) (λ _. IsSome (g.R.Read.remaining l.reader))
