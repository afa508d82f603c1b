use Rattle.std.proofs.Common.{◌≡◌, ◌<◌, Option, Some, None, OnSome, MatchOption, refl, subst, ap, ◌∙◌}
use Rattle.ipld_tree.specs.Cursors.{AllWhole}
use Rattle.ipld_tree.specs.TreeOf.{tree_of}
use Rattle.ipld_tree.proofs.Trees.{tree_of-List, tree_of-Map}
use Rattle.ipld_tree.proofs.Walking.{nest_list, nest_map}
use Rattle.ipld_tree.proofs.Whole.{list_whole, map_whole}
use Rattle.ipld_tree.proofs.nesting.+nesting_within.Goals as goal

where_some : {A P Q : Type 0} → (r : Option A) → (P → Q) → OnSome r P → OnSome r Q
where_some None f h = tt
where_some (Some x) f h = f h

both_where_some : {A P Q R : Type 0} → (r : Option A) → (P → Q → R) → OnSome r P → OnSome r Q → OnSome r R
both_where_some None f h k = tt
both_where_some (Some x) f h k = f h k

pub nesting_within-returns-in-List-clause-nested : goal.nesting_within-returns-in-List-clause-nested
nesting_within-returns-in-List-clause-nested t c =
    subst (λ d. MatchOption c.list_nesting_within.result (c.args.levels < d) (λ n. n ≡ d))
    (nest_list c.args.value.now c.in-List.items _ c.in-List.is (c.iter.ensures.rest ∙ c.deref.ensures.value))
    c.list_nesting_within.ensures.nested

pub nesting_within-returns-in-List-clause-whole : goal.nesting_within-returns-in-List-clause-whole
nesting_within-returns-in-List-clause-whole t c =
    where_some c.list_nesting_within.result
    (λ h. list_whole c.args.value.now c.in-List.items.items (ap tree_of c.in-List.is ∙ tree_of-List c.in-List.items) (subst AllWhole (c.iter.ensures.rest ∙ c.deref.ensures.value) h))
    c.list_nesting_within.ensures.whole

pub nesting_within-returns-in-Map-clause-nested : goal.nesting_within-returns-in-Map-clause-nested
nesting_within-returns-in-Map-clause-nested t c =
    subst (λ d. MatchOption c.map_nesting_within.result (c.args.levels < d) (λ n. n ≡ d)) (nest_map c.args.value.now c.in-Map.members c.in-Map.is) c.map_nesting_within.ensures.nested

pub nesting_within-returns-in-Map-clause-whole : goal.nesting_within-returns-in-Map-clause-whole
nesting_within-returns-in-Map-clause-whole t c =
    both_where_some c.map_nesting_within.result
    (λ sorted h. map_whole c.args.value.now c.in-Map.members.entries _ (ap tree_of c.in-Map.is ∙ tree_of-Map c.in-Map.members) refl sorted h)
    c.map_nesting_within.ensures.ordered c.map_nesting_within.ensures.whole
