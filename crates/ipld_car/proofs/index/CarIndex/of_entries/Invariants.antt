use Rattle.std.proofs.Common.{◌≡◌, take}
use Rattle.ipld_car.specs.IndexGrouping.{entries_in, AreGrouped, IsSplit}
use Rattle.ipld_car.proofs.index.CarIndex.of_entries.Given as goal

-- the entries so far are in the index
abbrev pub invariant-loop-entry : goal.invariant-loop-entry
invariant-loop-entry l =
    record {
      behind : entries_in l.index ≡ take l.entry-index l.entries;
      grouped : AreGrouped l.index;
      split : IsSplit l.index;
    }
