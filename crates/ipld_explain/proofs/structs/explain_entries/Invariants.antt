use Rattle.ipld_de.specs.Cursors.{entries_left}
use Rattle.ipld_de.specs.Fields.{strings}
use Rattle.ipld_de.specs.Forms.{count_members}
use Rattle.ipld_explain.proofs.Naming.{FieldsLeft, SameFieldsError}
use Rattle.ipld_explain.proofs.structs.explain_entries.Given as goal

abbrev pub invariant-loop-map : goal.invariant-loop-map
invariant-loop-map g l = record {
  so_far : FieldsLeft l.strict g.F.ExplainFields.fields (strings l.names) (entries_left l.fn.map) (entries_left l.map);
  same : SameFieldsError l.strict g.F.Fields.parts (strings l.names) (entries_left l.fn.map) (entries_left l.map);
}

abbrev pub decreases-loop-map : goal.decreases-loop-map
decreases-loop-map g l = count_members (entries_left l.map)
