use Rattle.std.proofs.Common.{◌≡◌, ℕ, ◌<◌, ◌==◌, List, [], ◌∷◌, length, Option, option_map, Result, Ok, rules, sym, ap, ◌∙◌, arith}
use Rattle.std.specs.List.{position_or_len, before_first, after_first}
use Rattle.ipld_tree.specs.Tree.{Tree}
use Rattle.ipld_tree.specs.TreeOf.{tree_of}
use Rattle.ipld_tree.specs.Index.{LookupError}
use Rattle.ipld_tree.specs.IndexOf.{outcome_of_get}
use Rattle.ipld_tree.specs.Path.{segments, then_in, found_along}
use Rattle.ipld_tree.proofs.Paths.{filled, first_step, last_step}
use Rattle.ipld_tree.proofs.ipld.Ipld.at_path.Goals as goal

-- what the path says, once the first of its parts was looked up
looked_up : (path rest front back : List ℕ) (tree t : Tree) (found : Result (Option Tree) LookupError)
    → (front ≡ before_first (λ b. b == 47) rest) × (back ≡ after_first (λ b. b == 47) rest) × (position_or_len (λ b. b == 47) rest < length rest)
    → found_along (segments path) tree ≡ found_along (segments rest) t → found ≡ found_along (filled (front ∷ [])) t
    → found_along (segments path) tree ≡ then_in (found_along (segments back)) found
looked_up path rest front back tree t found cut so_far is =
    so_far ∙ first_step rest front back t cut.0 cut.1 cut.2 ∙ ap (then_in (found_along (segments back))) (sym is)

pub returns-in-Ok-None : goal.returns-in-Ok-None
returns-in-Ok-None c =
    let cut = c.in-Some.ensures.byte (omega arith) (λ w o h. h) in
    sym (looked_up c.args.path.now c.loop-segment.rest.now c.in-Some.segment.now c.in-Some.more.now (tree_of c.args.self.now) (tree_of c.loop-segment.reached.now) (outcome_of_get c.value_at_segment.result) cut c.loop-segment.invariant.1 c.value_at_segment.ensures
    ∙ ap (λ r. then_in (found_along (segments c.in-Some.more.now)) (outcome_of_get r)) c.in-Ok-None.is
    ∙ ap (λ f. then_in (found_along (segments c.in-Some.more.now)) (Ok (option_map (λ v. tree_of v.now) f))) c.in-Ok-None.field-0-is)

pub returns-in-Err : goal.returns-in-Err
returns-in-Err c =
    let cut = c.in-Some.ensures.byte (omega arith) (λ w o h. h) in
    sym (looked_up c.args.path.now c.loop-segment.rest.now c.in-Some.segment.now c.in-Some.more.now (tree_of c.args.self.now) (tree_of c.loop-segment.reached.now) (outcome_of_get c.value_at_segment.result) cut c.loop-segment.invariant.1 c.value_at_segment.ensures
    ∙ ap (λ r. then_in (found_along (segments c.in-Some.more.now)) (outcome_of_get r)) c.in-Err.is)

pub loop-segment-preserved : goal.loop-segment-preserved
loop-segment-preserved c =
    let cut = c.in-Some.ensures.byte (omega arith) (λ w o h. h) in (
      search rules,
      looked_up c.args.path.now c.loop-segment.rest.now c.in-Some.segment.now c.in-Some.more.now (tree_of c.args.self.now) (tree_of c.loop-segment.reached.now) (outcome_of_get c.value_at_segment.result) cut c.loop-segment.invariant.1 c.value_at_segment.ensures
          ∙ ap (λ r. then_in (found_along (segments c.in-Some.more.now)) (outcome_of_get r)) c.in-Ok-Some.is
          ∙ ap (λ f. then_in (found_along (segments c.in-Some.more.now)) (Ok (option_map (λ v. tree_of v.now) f))) c.in-Ok-Some.field-0-is,
    )

pub returns : goal.returns
returns c =
    let none = (rw c.in_default.is at c.split_once.ensures.byte) (omega arith) (λ w o h. h) in
    c.value_at_segment-2.ensures ∙ sym (c.loop-segment.invariant.1 ∙ last_step c.loop-segment.rest.now (tree_of c.loop-segment.reached.now) none)
