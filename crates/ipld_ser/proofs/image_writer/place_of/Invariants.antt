use Rattle.std.proofs.Common.{◌≡◌}
use Rattle.ipld_ser.proofs.Placing.{ComeFirst}
use Rattle.ipld_ser.proofs.image_writer.place_of.Given as goal

abbrev pub invariant-loop-entry : goal.invariant-loop-entry
invariant-loop-entry l =
    record {
      same : l.place ≡ l.entry-index;
      before : ComeFirst l.name l.order l.entry-index;
    }
