use Rattle.std.proofs.Common.{ap, ◌∙◌, arith}
use Rattle.ipld_tree.specs.TreeOf.{tree_of}
use Rattle.ipld_tree.proofs.Trees.{tree_of-List, tree_of-Map}
use Rattle.ipld_tokens.proofs.Cursors.{list_slots, map_slots}
use Rattle.ipld_tokens.proofs.HintLemmas.{list_counted, map_counted}
use Rattle.ipld_tokens.proofs.tree_tokens.begin_value.Goals as goal

pub returns-in-List-clause-slots : goal.returns-in-List-clause-slots
returns-in-List-clause-slots c =
    rw (c.iter.ensures.rest, c.deref.ensures.value) (list_slots c.args.value.now c.in-List.items.items (ap tree_of c.in-List.is ∙ tree_of-List c.in-List.items))

pub returns-in-Map-clause-slots : goal.returns-in-Map-clause-slots
returns-in-Map-clause-slots c =
    rw c.iter-in-Map.ensures.rest (map_slots c.args.value.now c.in-Map.members.entries (ap tree_of c.in-Map.is ∙ tree_of-Map c.in-Map.members))

pub returns-in-List-clause-counts : goal.returns-in-List-clause-counts
returns-in-List-clause-counts c =
    list_counted (tree_of c.args.value.now) c.in-List.items.items c.len.result (ap tree_of c.in-List.is ∙ tree_of-List c.in-List.items) (omega (arith, c.in-List.items.ok.0))

pub returns-in-Map-clause-counts : goal.returns-in-Map-clause-counts
returns-in-Map-clause-counts c =
    map_counted (tree_of c.args.value.now) c.in-Map.members.entries c.len-in-Map.result (ap tree_of c.in-Map.is ∙ tree_of-Map c.in-Map.members) c.len-in-Map.ensures.len
