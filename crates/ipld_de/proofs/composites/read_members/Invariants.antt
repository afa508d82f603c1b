use Rattle.ipld_de.specs.Cursors.{entries_left}
use Rattle.ipld_de.specs.Forms.{count_members}
use Rattle.ipld_de.proofs.Entering.{entries_so_far, ErrorOfRest, InOrder}
use Rattle.ipld_de.proofs.composites.read_members.Given as goal

abbrev pub invariant-loop-text : goal.invariant-loop-text
invariant-loop-text g l =
    record {
      read : entries_so_far g.K.SerializeKey.text_of g.K.SerializeKey.is_key g.T.Deserialize.contents g.T.Deserialize.reads (entries_left l.fn.members) l.all.members.entries (entries_left l.members);
      why : ErrorOfRest g.K.SerializeKey.text_of g.K.SerializeKey.is_key g.T.Deserialize.contents g.T.Deserialize.reads g.K.DeserializeKey.key_error g.T.Deserialize.read_error (entries_left l.fn.members) (entries_left l.members);
      ordered : InOrder g.K.Ord.cmp g.K.SerializeKey.text_of l.all.members.entries (entries_left l.members);
    }

abbrev pub decreases-loop-text : goal.decreases-loop-text
decreases-loop-text g l = count_members (entries_left l.members)
