use Rattle.std.proofs.Common.{◌≡◌, ◌++◌, List, length, map}
use Rattle.std.specs.Set.{IsUnion}
use Rattle.ipld_cid.specs.LinkOf.{link_of}
use Rattle.ipld_cid.specs.declared.cid.CidGeneric.{CidGeneric}
use Rattle.ipld_tree.specs.TreeOf.{tree_of}
use Rattle.ipld_tree.specs.Walk.{links_among, links_of}
use Rattle.ipld_tree.specs.Levels.{trees_left}
use Rattle.ipld_tree.specs.Growing.{levels_in}
use Rattle.ipld_tree.proofs.Linking.{same_cid}
use Rattle.ipld_tree.proofs.ipld.Ipld.references_into_set.Given as goal

abbrev pub invariant-loop-walk : goal.invariant-loop-walk
invariant-loop-walk l =
    record {
      added : List (CidGeneric 64);
      inserted : IsUnion same_cid l.fn.set.keys added l.set.keys;
      beginning : links_of (tree_of l.fn.self) ≡ map link_of added ++ links_among (trees_left (levels_in l.walk));
    }

abbrev pub decreases-loop-walk : goal.decreases-loop-walk
decreases-loop-walk l = length (trees_left (levels_in l.walk))
