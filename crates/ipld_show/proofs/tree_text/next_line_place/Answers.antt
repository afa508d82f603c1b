use Rattle.std.proofs.Common.{◌++◌}
use Rattle.ipld_show.specs.DataItem.{encoding, entries_encoding}
use Rattle.ipld_show.proofs.Items.{no_key_error}
use Rattle.ipld_show.proofs.Trees.{is_list, is_map, item_next, entry_next, value_next}
use Rattle.ipld_show.proofs.tree_text.next_line_place.Goals as goal

pub returns-then-not-level-clause-exact : goal.returns-then-not-level-clause-exact
returns-then-not-level-clause-exact c = λ n own mid h. item_next c.args.level n own c.args.bytes mid (is_list c.args.level.is_map c.if-not-level.true) h

pub returns-in-Ok-clause-exact : goal.returns-in-Ok-clause-exact
returns-in-Ok-clause-exact c = λ n own mid h.
    value_next c.args.level n own c.args.bytes.now mid (is_map c.args.level.is_map c.if-not-level.false) h c.in-Ok.key c.in-Ok.value c.in-Ok.ensures.found

pub returns-in-Err-clause-exact : goal.returns-in-Err-clause-exact
returns-in-Err-clause-exact c = λ n own mid h.
    let t = entry_next c.args.level n own c.args.bytes.now mid (is_map c.args.level.is_map c.if-not-level.false) h in
    no_key_error t.key c.args.bytes.now (encoding t.value ++ (entries_encoding t.others ++ mid)) t.is_key t.encoded c.in-Err.field-0 c.in-Err.ensures.rejected
