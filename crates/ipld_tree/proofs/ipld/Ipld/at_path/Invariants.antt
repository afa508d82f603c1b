use Rattle.std.proofs.Common.{◌≡◌, length}
use denote.Text.{Utf8}
use denote.Shadow.{shadow}
use Rattle.ipld_tree.specs.Path.{segments, found_along}
use Rattle.ipld_tree.specs.TreeOf.{tree_of}
use Rattle.ipld_tree.proofs.ipld.Ipld.at_path.Given as goal

abbrev pub invariant-loop-segment : goal.invariant-loop-segment
invariant-loop-segment l = shadow (Utf8 l.rest) × (found_along (segments l.path) (tree_of l.self) ≡ found_along (segments l.rest) (tree_of l.reached))

abbrev pub decreases-loop-segment : goal.decreases-loop-segment
decreases-loop-segment l = length l.rest
