use Rattle.std.proofs.Common.{◌≡◌, ◌++◌, [], ◌∷◌, string_bytes, ◌∙◌}
use Rattle.std.proofs.lemmas.Result.{err_from_is_err_and}
use Rattle.ipld_tree.specs.Tree.{member}
use Rattle.ipld_tree.specs.TreeOf.{tree_of}
use Rattle.ipld_de.specs.Cursors.{entries_left}
use Rattle.ipld_de.proofs.Entering.{entries_more, error_more, entry_rejected, order_more, goes_last}
use Rattle.ipld_de.proofs.composites.read_members.Goals as goal

pub loop-text-preserved : goal.loop-text-preserved
loop-text-preserved g c =
    let text_of = g.K.SerializeKey.text_of in
    let is_key = g.K.SerializeKey.is_key in
    let reads = g.T.Deserialize.reads in
    let contents = g.T.Deserialize.contents in
    let rest = entries_left c.loop-text.members in
    let left = entries_left c.next_entry.new.self in
    let done = c.loop-text.all.members.entries in
    let s = string_bytes c.in-Some.text in
    let k = c.in-Ok.key in
    let t = tree_of c.in-Some.value in
    let v = c.in_ok-member.member in
    let taken : rest ≡ member s t left = c.in-Some.ensures in
    let key = c.in-Ok.ensures.ok in
    let last : c.insert.new.self.members.entries ≡ done ++ (k, v) ∷ [] =
    c.in_ok-insert.ensures ∙ goes_last g.K.Ord.cmp text_of g.met.K.SerializeKey.in_order is_key done rest left s k t v key c.loop-text.invariant.ordered taken in
    record {
      read = rw last (entries_more text_of is_key contents reads (entries_left c.args.members) rest left done s k t v c.loop-text.invariant.read taken key c.in_ok-member.ensures.ok);
      why = error_more text_of is_key contents reads g.K.DeserializeKey.key_error g.T.Deserialize.read_error (entries_left c.args.members) rest left s k t (contents v) c.loop-text.invariant.why taken key c.in_ok-member.ensures.ok;
      ordered = rw last (order_more g.K.Ord.cmp text_of is_key done rest left s k t v key c.loop-text.invariant.ordered taken);
    }

pub returns-in_err-member-clause-err : goal.returns-in_err-member-clause-err
returns-in_err-member-clause-err g c =
    let p = err_from_is_err_and c.from_residual.result c.from_residual.ensures.1 in
    rw (p.1, p.2) (entry_rejected g.K.SerializeKey.text_of g.K.SerializeKey.is_key g.T.Deserialize.contents g.T.Deserialize.reads g.K.DeserializeKey.key_error g.T.Deserialize.read_error
    (entries_left c.args.members) (entries_left c.loop-text.members) (entries_left c.next_entry.new.self)
    c.loop-text.all.members.entries (string_bytes c.in-Some.text) c.in-Ok.key (tree_of c.in-Some.value) _ c.loop-text.invariant.read c.loop-text.invariant.why c.in-Some.ensures c.in-Ok.ensures.ok c.in_err-member.ensures.err)
