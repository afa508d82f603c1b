use Rattle.std.proofs.Common.{◌∙◌, ap, sym}
use Rattle.ipld_tree.proofs.Sizes.{exchanged}
use Rattle.ipld_tree.proofs.discard.exchange_first_member.Goals as goal

pub returns-in-Some-clause-kept : goal.returns-in-Some-clause-kept
returns-in-Some-clause-kept c =
    rw (c.members-1.given.1 (sym c.in-Some.ensures.same_map ∙ sym c.insert.ensures.written.0))
    (exchanged c.args.members.now.entries _ _ c.insert.result c.args.value c.in-Some.ensures.key (sym c.insert.ensures.old ∙ c.in-Some.ensures.value.0)
    (ap (λ m. m.entries) c.insert.ensures.written.1 ∙ c.in-Some.ensures.update.1 c.args.value)).0

pub returns-in-Some-clause-found : goal.returns-in-Some-clause-found
returns-in-Some-clause-found c =
    (exchanged c.args.members.now.entries _ _ c.insert.result c.args.value c.in-Some.ensures.key (sym c.insert.ensures.old ∙ c.in-Some.ensures.value.0)
    (ap (λ m. m.entries) c.insert.ensures.written.1 ∙ c.in-Some.ensures.update.1 c.args.value)).1
