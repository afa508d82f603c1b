use Rattle.std.proofs.Common.{◌≡◌}
use Rattle.ipld_tree.specs.IsWhole.{Ascends}
use Rattle.ipld_de.specs.Cursors.{entries_left}
use Rattle.ipld_de.specs.Fields.{reads_fields, strings}
use Rattle.ipld_de.specs.Forms.{count_members}
use Rattle.ipld_de.proofs.FieldErrors.{Follows}
use Rattle.ipld_de.proofs.fields.read_named.Given as goal

abbrev pub invariant-loop-name : goal.invariant-loop-name
invariant-loop-name g l =
    record {
      read : reads_fields l.strict (strings l.names) (g.F.Fields.reads l.fields (strings l.names)) (entries_left l.map)
          ≡ reads_fields l.strict (strings l.names) (g.F.Fields.named_reads (strings l.names)) (entries_left l.fn.map);
      follows : Ascends (entries_left l.fn.map) → Follows l.strict g.F.Fields.parts (strings l.names) (g.F.Fields.waits l.fields) (entries_left l.fn.map) (entries_left l.map);
    }

abbrev pub decreases-loop-name : goal.decreases-loop-name
decreases-loop-name g l = count_members (entries_left l.map)
