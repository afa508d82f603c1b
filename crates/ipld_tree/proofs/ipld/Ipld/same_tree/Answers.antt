use Rattle.ipld_tree.specs.TreeOf.{tree_of}
use Rattle.ipld_tree.proofs.SameHeads.{at_start}
use Rattle.ipld_tree.proofs.ipld.Ipld.same_tree.Goals as goal

pub loop-theirs-init : goal.loop-theirs-init
loop-theirs-init c = rw (c.new-ours.ensures, c.new-theirs.ensures) (at_start (tree_of c.args.self.now) (tree_of c.args.other.now))
