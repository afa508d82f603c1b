use Rattle.std.proofs.Common.{◌≡◌, ◌++◌, length, map}
use Rattle.dag_cbor_tape.specs.Canonicalizing.{pairs_now, to_do}
use Rattle.dag_cbor_tape.proofs.canonical.push_pairs.Given as goal

abbrev pub invariant-loop-entries : goal.invariant-loop-entries
invariant-loop-entries l = map (λ p. p.1) (pairs_now l.pairs.items) ++ to_do l.todo.items ≡ map (λ p. p.1) (pairs_now l.initial.pairs.items) ++ to_do l.initial.todo.items

abbrev pub decreases-loop-entries : goal.decreases-loop-entries
decreases-loop-entries l = length l.pairs.items
