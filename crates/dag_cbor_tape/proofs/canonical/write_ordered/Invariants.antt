use Rattle.std.proofs.Common.{ℕ, List}
use Rattle.ipld_tokens.specs.Item.{Item}
use Rattle.dag_cbor_blocks.specs.Tape.{IsTapeOf}
use Rattle.dag_cbor_tape.specs.Canonical.{IsCanonicalOf, Orders}
use Rattle.dag_cbor_tape.specs.Canonicalizing.{to_do}
use Rattle.dag_cbor_tape.specs.Describes.{Describes, AreNarrow}
use Rattle.dag_cbor_tape.proofs.Ordering.{Good, loads}
use Rattle.dag_cbor_tape.proofs.canonical.write_ordered.Given as goal

abbrev pub invariant-loop-rest : goal.invariant-loop-rest
invariant-loop-rest l = record {
  of_block : IsTapeOf l.entries l.block → Good l.block (IsCanonicalOf l.block) l.out.items (to_do l.todo.items);
  of_tape : (item : Item 64) (written : List ℕ) → AreNarrow l.entries → Describes l.block item l.entries written → Good l.block (Orders item written) l.out.items (to_do l.todo.items);
}

abbrev pub decreases-loop-rest : goal.decreases-loop-rest
decreases-loop-rest l = loads (to_do l.todo.items)
