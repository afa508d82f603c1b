use Rattle.ipld_de.specs.Cursors.{entries_left}
use Rattle.ipld_de.specs.Forms.{count_members}
use Rattle.ipld_explain.proofs.Entering.{EntriesLeft, SameEntriesError}
use Rattle.ipld_explain.proofs.containers.explain_values.Given as goal

abbrev pub invariant-loop-map : goal.invariant-loop-map
invariant-loop-map g l = record {
  so_far : EntriesLeft g.T.Deserialize.reads g.T.Explain.fails (entries_left l.fn.map) (entries_left l.map);
  same : SameEntriesError g.T.Deserialize.reads g.T.Deserialize.read_error (entries_left l.fn.map) (entries_left l.map);
}

abbrev pub decreases-loop-map : goal.decreases-loop-map
decreases-loop-map g l = count_members (entries_left l.map)
