use Rattle.dag_cbor.proofs.Entries.{Rises}
use Rattle.dag_cbor.proofs.key_order.lengths_ascend.Given as goal

abbrev pub invariant-loop-key : goal.invariant-loop-key
invariant-loop-key l = Rises l.longest l.key-iterator → Rises 0 l.members.entries
