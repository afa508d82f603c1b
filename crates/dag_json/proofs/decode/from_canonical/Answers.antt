use Rattle.std.proofs.Common.{◌≡◌, ℕ, false, List, Option, Some, None, MatchOption, inl, inr, refl, sym, ap, subst, ◌∙◌, arith}
use Rattle.ipld_tree.specs.TreeOf.{tree_of}
use Rattle.dag_json.specs.Canonical.{IsWrittenOtherwise}
use Rattle.dag_json.specs.Form.{text_of}
use Rattle.dag_json.specs.Written.{written}
use Rattle.dag_json.proofs.Differing.{otherwise_not}
use Rattle.dag_json.proofs.RoundTrip.{written_within}
use Rattle.dag_json.proofs.Unreserved.{encoded_written}
use Rattle.dag_json.proofs.decode.from_canonical.Goals as goal

pub returns-in-Err-clause-only : goal.returns-in-Err-clause-only
returns-in-Err-clause-only c = λ t utf8 is whole w within. c.in-Err.ensures.only t (written_within c.args.limits.now t c.args.bytes.now is whole utf8 w within)

pub returns-in-Ok-None-clause-only : goal.returns-in-Ok-None-clause-only
returns-in-Ok-None-clause-only c = λ t utf8 is whole w within. c.in-Ok.ensures.only t (written_within c.args.limits.now t c.args.bytes.now is whole utf8 w within)

pub returns-in-Ok-Some-clause-only : goal.returns-in-Ok-Some-clause-only
returns-in-Ok-Some-clause-only c = λ t utf8 is whole w within.
    let same = c.in-Ok.ensures.only t (written_within c.args.limits.now t c.args.bytes.now is whole utf8 w within) in
    let other : IsWrittenOtherwise (tree_of c.in-Ok.tree) c.args.bytes.now c.in-Ok-Some.offset =
    subst (λ o. MatchOption o (written (tree_of c.in-Ok.tree) ≡ Some c.args.bytes.now) (IsWrittenOtherwise (tree_of c.in-Ok.tree) c.args.bytes.now)) c.in-Ok-Some.field-0-is
    c.in-Ok-Some.ensures in
    absurd (otherwise_not (tree_of c.in-Ok.tree) c.args.bytes.now c.in-Ok-Some.offset other (ap written same ∙ w))

pub returns-in-Err-first_difference-clause-only : goal.returns-in-Err-first_difference-clause-only
returns-in-Err-first_difference-clause-only c = λ t utf8 is whole w within.
    elim c.in-Err-first_difference.ensures [
      | inl memory ↦ memory
      | inr none ↦
          absurd (
          let clash : ◌≡◌ {A = Option (List ℕ)} None (Some c.args.bytes.now) =
          sym none ∙ ap written (c.in-Ok.ensures.only t (written_within c.args.limits.now t c.args.bytes.now is whole utf8 w within)) ∙ w in
          cc)
    ]

pub returns-in-Ok-Some-clause-err : goal.returns-in-Ok-Some-clause-err
returns-in-Ok-Some-clause-err c =
    let other : IsWrittenOtherwise (tree_of c.in-Ok.tree) c.args.bytes.now c.in-Ok-Some.offset =
    subst (λ o. MatchOption o (written (tree_of c.in-Ok.tree) ≡ Some c.args.bytes.now) (IsWrittenOtherwise (tree_of c.in-Ok.tree) c.args.bytes.now)) c.in-Ok-Some.field-0-is
    c.in-Ok-Some.ensures in
    inr (refl, tree_of c.in-Ok.tree, c.in-Ok.ensures.found, other)

pub returns-in-Err-first_difference-clause-err : goal.returns-in-Err-first_difference-clause-err
returns-in-Err-first_difference-clause-err c =
    let found = c.in-Ok.ensures.found in
    elim c.in-Err-first_difference.ensures [
      | inl memory ↦ inl (inl (found.tree.utf8, inl memory), (omega arith, inl memory))
      | inr none ↦
          absurd (
          let clash : ◌≡◌ {A = Option (List ℕ)} None (Some (text_of (tree_of c.in-Ok.tree))) =
          sym none ∙ encoded_written false found.tree.json (tree_of c.in-Ok.tree) found.tree.encodes in
          cc)
    ]
