use Rattle.std.proofs.Common.{is_some, sym, ap, ◌∙◌}
use Rattle.ipld_tree.specs.TreeOf.{members_of}
use Rattle.ipld_tree.proofs.Entries.{members_of-insert_entry}
use Rattle.ipld_tokens.proofs.TreeLevels.{has_of}
use Rattle.dag_cbor.proofs.shallow.insert_member.Goals as goal

pub returns-in-Ok-None-clause-absent : goal.returns-in-Ok-None-clause-absent
returns-in-Ok-None-clause-absent c = has_of c.args.key c.args.members.now.entries ∙ ap is_some (sym c.in-Ok-None.ensures.old ∙ c.in-Ok-None.field-0-is)

pub returns-in-Ok-None-clause-put : goal.returns-in-Ok-None-clause-put
returns-in-Ok-None-clause-put c = ap members_of c.in-Ok-None.ensures.entries ∙ members_of-insert_entry c.args.members.now.entries c.args.key c.args.value
