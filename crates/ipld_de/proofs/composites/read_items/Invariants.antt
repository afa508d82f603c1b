use Rattle.std.proofs.Common.{map}
use Rattle.ipld_de.specs.Cursors.{left}
use Rattle.ipld_de.specs.Forms.{count_items}
use Rattle.ipld_de.proofs.Sequences.{read_so_far, ErrorOfRest}
use Rattle.ipld_de.proofs.composites.read_items.Given as goal

abbrev pub invariant-loop-all : goal.invariant-loop-all
invariant-loop-all g l =
    record {
      read : read_so_far g.T.Deserialize.reads (left l.fn.items) (map g.T.Deserialize.contents l.all.items.items) (left l.items);
      why : ErrorOfRest g.T.Deserialize.reads g.T.Deserialize.read_error (left l.fn.items) (left l.items);
    }

abbrev pub decreases-loop-all : goal.decreases-loop-all
decreases-loop-all g l = count_items (left l.items)
