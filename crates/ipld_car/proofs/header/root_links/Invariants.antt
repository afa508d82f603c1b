use Rattle.std.proofs.Common.{◌≡◌, map, take}
use Rattle.ipld_cid.specs.LinkOf.{link_of}
use Rattle.ipld_tree.specs.Builders.{items_so_far}
use Rattle.ipld_tree.specs.Tree.{link}
use Rattle.ipld_tree.specs.TreeOf.{tree_of}
use Rattle.ipld_car.proofs.header.root_links.Given as goal

-- the items so far are links to the roots so far
abbrev pub invariant-loop-root : goal.invariant-loop-root
invariant-loop-root l = map tree_of (items_so_far l.items) ≡ map link (map link_of (take l.root-index l.roots))
