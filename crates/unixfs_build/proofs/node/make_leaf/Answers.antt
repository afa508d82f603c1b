use Rattle.std.proofs.Common.{[], sym, ◌∙◌}
use Rattle.unixfs_build.proofs.Encoding.{raw_made, leaf_made, leaf_holds, leaf_fault}
use Rattle.unixfs_build.proofs.node.make_leaf.Goals as goal

pub returns-then-is_raw_leaf-clause-exact : goal.returns-then-is_raw_leaf-clause-exact
returns-then-is_raw_leaf-clause-exact c = raw_made c.args.layout.now c.args.attributes.now c.args.chunk.now _ _ (sym c.is_raw_leaf.ensures ∙ c.if-is_raw_leaf.true) c.cid_of.ensures c.in_ok-from_slice.ensures.items

pub returns-clause-exact : goal.returns-clause-exact
returns-clause-exact c = leaf_made c.args.layout.now c.args.attributes.now c.args.chunk.now c.make_node.result (sym c.is_raw_leaf.ensures ∙ c.if-is_raw_leaf.false) (c.make_node.ensures.exact [] c.none-children.ensures)

pub returns-clause-holds : goal.returns-clause-holds
returns-clause-holds c = leaf_holds c.args.layout.now c.args.attributes.now c.args.chunk.now c.make_node.result (c.make_node.ensures.exact [] c.none-children.ensures) (c.make_node.ensures.holds [] c.none-children.ensures)

pub returns-clause-fault : goal.returns-clause-fault
returns-clause-fault c = leaf_fault c.args.layout.now c.args.attributes.now c.args.chunk.now c.make_node.result (sym c.is_raw_leaf.ensures ∙ c.if-is_raw_leaf.false) (c.make_node.ensures.fault [] c.none-children.ensures)
