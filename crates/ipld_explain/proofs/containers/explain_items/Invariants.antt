use Rattle.std.proofs.Common.{◌-◌}
use Rattle.ipld_de.specs.Cursors.{left}
use Rattle.ipld_explain.proofs.Sequences.{ItemsLeft, SameItemsError}
use Rattle.ipld_explain.proofs.containers.explain_items.Given as goal

abbrev pub invariant-loop-index : goal.invariant-loop-index
invariant-loop-index g l = record {
  so_far : ItemsLeft g.T.Deserialize.reads g.T.Explain.fails (left l.fn.items) (left l.items) l.index;
  same : SameItemsError g.T.Deserialize.reads g.T.Deserialize.read_error (left l.fn.items) (left l.items);
}

abbrev pub decreases-loop-index : goal.decreases-loop-index
decreases-loop-index g l = l.count - l.index
