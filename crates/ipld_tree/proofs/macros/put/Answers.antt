use Rattle.std.proofs.Common.{ap, sym, ◌∙◌, option_map, string_bytes}
use Rattle.ipld_tree.specs.TreeOf.{tree_of, members_of}
use Rattle.ipld_tree.proofs.Entries.{members_of-insert_entry}
use Rattle.ipld_tree.proofs.Looking.{looked_up}
use Rattle.ipld_tree.proofs.macros.put.Goals as goal

pub returns-in-Ok-None-clause-ok : goal.returns-in-Ok-None-clause-ok
returns-in-Ok-None-clause-ok c = ap members_of c.in-Ok-None.ensures.entries ∙ members_of-insert_entry c.args.map.now.entries c.args.key c.args.value

pub returns-in-Ok-Some-clause-ok : goal.returns-in-Ok-Some-clause-ok
returns-in-Ok-Some-clause-ok c = ap members_of c.in-Ok-Some.ensures.entries ∙ members_of-insert_entry c.args.map.now.entries c.args.key c.args.value

pub returns-clause-absent : goal.returns-clause-absent
returns-clause-absent c = sym (looked_up (string_bytes c.args.key) c.args.map.now.entries) ∙ ap (option_map tree_of) c.in-Err.ensures.absent
