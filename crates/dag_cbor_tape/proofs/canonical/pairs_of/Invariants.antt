use Rattle.std.proofs.Common.{List, ◌++◌, length}
use Rattle.dag_cbor_tape.specs.Canonicalizing.{Pair, Splits, pairs_now}
use Rattle.dag_cbor_tape.proofs.canonical.pairs_of.Given as goal

abbrev pub invariant-loop-first : goal.invariant-loop-first
invariant-loop-first l = record {
  on : (more : List Pair) → Splits l.block l.rest more → Splits l.block l.entries (pairs_now l.pairs.items ++ more);
  only : (ps : List Pair) → Splits l.block l.entries ps → (more : List Pair) × Splits l.block l.rest more;
}

abbrev pub decreases-loop-first : goal.decreases-loop-first
decreases-loop-first l = length l.rest
