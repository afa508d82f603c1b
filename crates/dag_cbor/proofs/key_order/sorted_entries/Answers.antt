use Rattle.std.proofs.Common.{◌≡◌, ℕ, List, [], ◌∷◌, ◌++◌, length, string_bytes, rules, sym, ap, subst, ◌∙◌, append_assoc}
use Rattle.std.proofs.lemmas.List.{append-nil}
use Rattle.std.proofs.lemmas.List.Sorted.{answers_always, IsNonDecreasingBy-from_sort}
use Rattle.dag_cbor.specs.Writing.{Keyed, after_key, lent, in_order}
use Rattle.dag_cbor.proofs.Sorting.{AreAscending, sorted_by_length}
use Rattle.dag_cbor.proofs.Entries.{Entry, Lent, key_of, keyed_ascend, lent_ascend, lent_sorted, keyed_more, lent_more}
use Rattle.dag_cbor.proofs.key_order.sorted_entries.Goals as goal

pub loop-entry-preserved : goal.loop-entry-preserved
loop-entry-preserved c =
    let l = c.loop-entry in
    let done = l.invariant.done in
    let e : Entry = (c.in-Some.entry.0.now, c.in-Some.entry.1.now) in
    let left = c.next.new.self in
    let split : c.args.members.now.entries ≡ done ++ e ∷ left = l.invariant.split ∙ ap (λ es. done ++ es) c.in-Some.ensures.steps in
    record {
      done = done ++ e ∷ [];
      split = split ∙ sym (append_assoc done (e ∷ []) left);
      same = ap lent c.in_ok-push.ensures.items ∙ lent_more l.entries.items c.in-Some.entry
          ∙ ap (λ (es : List Keyed). es ++ (string_bytes e.0, e.1) ∷ []) l.invariant.same ∙ sym (keyed_more done e);
    }

pub returns : goal.returns
returns c =
    let size : Lent → ℕ = λ e. length (string_bytes e.0.now) in
    let keys = answers_always _ _ _ (λ f a r next called. search rules) in
    let stable = c.sort_by_key.ensures.stable size keys in
    let xs : List Lent = c.loop-entry.entries.items in
    let ys : List Lent = c.sort_by_key.new.self.items in
    let done = c.loop-entry.invariant.done in
    let all : c.args.members.now.entries ≡ done = c.loop-entry.invariant.split ∙ ap (λ es. done ++ es) c.in-None.ensures.steps.0 ∙ append-nil done in
    let same : lent xs ≡ after_key c.args.members.now.entries = c.loop-entry.invariant.same ∙ ap after_key (sym all) in
    let ascend = lent_ascend xs (subst (AreAscending key_of) (sym same) (keyed_ascend c.args.members.now.entries c.iter-entry-items.ensures.ordered)) in
    ap lent (sorted_by_length (λ (e : Lent). string_bytes e.0.now) xs ys ascend (IsNonDecreasingBy-from_sort size ys (c.in_ok-sort_by_key.ensures.sorted size keys)) stable)
    ∙ lent_sorted xs ∙ ap in_order same
