use Rattle.std.proofs.Common.{◌≡◌, ◌++◌, ℕ, List, true, length, Ok}
use Rattle.ipld_tokens.specs.Item.{Item}
use Rattle.dag_cbor_tape.specs.Canonical.{Orders}
use Rattle.dag_cbor_tape.specs.Describes.{Describes, AreNarrow}
use Rattle.dag_cbor_tape.specs.Errors.{◌>>=◌}
use Rattle.dag_cbor_tape.specs.Encoding.{all_encoded}
use Rattle.dag_cbor_tape.proofs.InTurn.{Row}
use Rattle.dag_cbor_tape.proofs.encode.write_block.Given as goal

abbrev pub invariant-loop-entry : goal.invariant-loop-entry
invariant-loop-entry l = record {
  goes_on : (all_encoded l.contents l.rest >>= λ more. Ok (l.out.items ++ more)) ≡ all_encoded l.contents l.entries;
  narrow : AreNarrow l.rest → AreNarrow l.entries;
  in_turn : (item : Item 64) (written : List ℕ) → AreNarrow l.entries → Describes l.contents item l.entries written → l.is_ordered ≡ true → Row l.contents (Orders item written) l.out.items l.rest;
}

abbrev pub decreases-loop-entry : goal.decreases-loop-entry
decreases-loop-entry l = length l.rest
