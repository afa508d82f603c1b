use Rattle.std.proofs.Common.{◌≡◌, List, ◌++◌, Some}
use Rattle.ipld_ser.specs.Builders.{state_of}
use Rattle.ipld_ser.specs.Composites.{images_under}
use Rattle.ipld_ser.proofs.composites.map_of.Given as goal

abbrev pub invariant-loop-key : goal.invariant-loop-key
invariant-loop-key g l =
    record {
      done : List (g.row.K.Denot × g.row.T.Denot);
      split : l.members.entries ≡ done ++ l.key-iterator;
      same : images_under g.K.SerializeKey.text_of g.K.SerializeKey.is_key g.T.Serialize.image done ≡ Some (state_of l.map).filed;
    }
