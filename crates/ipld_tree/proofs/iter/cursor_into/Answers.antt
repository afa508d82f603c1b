use Rattle.std.proofs.Common.{ap, subst, ◌∙◌}
use Rattle.ipld_cid.specs.Multihash.{IsBytes}
use Rattle.ipld_tree.specs.TreeOf.{tree_of}
use Rattle.ipld_tree.proofs.Trees.{tree_of-List, tree_of-Map, tree_of-Bytes}
use Rattle.ipld_tree.proofs.Walking.{list_opens, map_opens}
use Rattle.ipld_tree.proofs.Whole.{list_whole, map_whole, bytes_whole}
use Rattle.ipld_tree.proofs.iter.cursor_into.Goals as goal

pub returns-in-List-clause-opens : goal.returns-in-List-clause-opens
returns-in-List-clause-opens c =
    rw (c.iter.ensures.rest, c.deref.ensures.value) (list_opens c.args.value.now c.in-List.items.items (ap tree_of c.in-List.is ∙ tree_of-List c.in-List.items))

pub returns-in-Map-clause-opens : goal.returns-in-Map-clause-opens
returns-in-Map-clause-opens c =
    map_opens c.args.value.now c.in-Map.members.entries c.values.result (ap tree_of c.in-Map.is ∙ tree_of-Map c.in-Map.members) c.values.ensures.rest

pub returns-in-List-clause-whole : goal.returns-in-List-clause-whole
returns-in-List-clause-whole c =
    rw (c.iter.ensures.rest, c.deref.ensures.value) (list_whole c.args.value.now c.in-List.items.items (ap tree_of c.in-List.is ∙ tree_of-List c.in-List.items))

pub returns-in-Map-clause-whole : goal.returns-in-Map-clause-whole
returns-in-Map-clause-whole c =
    map_whole c.args.value.now c.in-Map.members.entries c.values.result (ap tree_of c.in-Map.is ∙ tree_of-Map c.in-Map.members) c.values.ensures.rest c.values.ensures.ordered

pub returns-in-Bytes-clause-whole : goal.returns-in-Bytes-clause-whole
returns-in-Bytes-clause-whole c = λ _. bytes_whole c.args.value.now c.in-Bytes.bytes.items (ap tree_of c.in-Bytes.is ∙ tree_of-Bytes c.in-Bytes.bytes) (subst IsBytes c.deref-in-Bytes.ensures.value c.know_bytes.ensures)
