use Rattle.std.specs.Prelude.{IfSome}
use Rattle.ipld_links_run.proofs.LineLemmas.{Reads}
use Rattle.ipld_links_run.proofs.lines.read_line.Given as goal

-- the line so far stands before what is left
abbrev pub invariant-loop : goal.invariant-loop
invariant-loop g l = IfSome (g.R.Read.remaining l.initial.reader) (λ input. Reads input l.line.items (g.R.Read.remaining l.reader))
