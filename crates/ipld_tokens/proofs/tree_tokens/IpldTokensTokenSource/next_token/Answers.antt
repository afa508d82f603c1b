use Rattle.std.proofs.Common.{[], ◌∷◌, sym, ap, subst, ◌∙◌, arith, vec_capacity}
use Rattle.ipld_tokens.specs.Token.{erase}
use Rattle.ipld_tokens.specs.IpldTokens.{left_of, all_left, HasLinkBytes}
use Rattle.ipld_tokens.proofs.Cursors.{all_left-append, tokens_yielded, slots_yielded, fits, at_link_bytes}
use Rattle.ipld_tokens.proofs.HintLemmas.{counted_more}
use Rattle.ipld_tokens.proofs.tree_tokens.IpldTokensTokenSource.next_token.Goals as goal

pub push_cursors-requires : goal.push_cursors-requires
push_cursors-requires c =
    fits c.args.self.now.stack.items c.pop.new.self.items c.in-Some.cursor c.in-Ok.step (vec_capacity c.pop.new.self) c.in-Some.ensures.items c.in-Ok.ensures.steps
    (omega (arith, c.args.self.now.capacity, c.pop.ensures.capacity))

pub invariant_of-self-in-Ok : goal.invariant_of-self-in-Ok
invariant_of-self-in-Ok c = record {
  capacity = rw c.push_cursors.ensures.items
      (omega (
        arith,
        slots_yielded c.args.self.now.stack.items c.pop.new.self.items c.in-Some.cursor c.in-Ok.step c.in-Some.ensures.items c.in-Ok.ensures.steps,
        c.args.self.now.capacity,
        c.pop.ensures.capacity,
        c.push_cursors.ensures.capacity,
      ));
}

pub returns-in-Ok-clause-next : goal.returns-in-Ok-clause-next
returns-in-Ok-clause-next c =
    tokens_yielded c.args.self.now.stack.items c.pop.new.self.items c.in-Some.cursor c.in-Ok.step c.in-Some.ensures.items c.in-Ok.ensures.steps
    ∙ ap (λ cs. erase c.in-Ok.step.token ∷ all_left cs) (sym c.push_cursors.ensures.items)

pub returns-in-Ok-clause-counted : goal.returns-in-Ok-clause-counted
returns-in-Ok-clause-counted c =
    let front = c.pop.new.self.items in
    let cursor = c.in-Some.cursor in
    counted_more c.in-Ok.step.token (left_of cursor) (all_left c.args.self.now.stack.items) (all_left front)
    (ap all_left c.in-Some.ensures.items ∙ all_left-append front (cursor ∷ [])) c.in-Ok.ensures.counts

pub returns-in-Err-clause-at_link : goal.returns-in-Err-clause-at_link
returns-in-Err-clause-at_link c not_failed =
    at_link_bytes c.args.self.now c.pop.new.self.items c.in-Some.cursor c.in-Some.ensures.items (subst HasLinkBytes c.in-Err.ensures.steps c.in-Err.ensures.at_link)
