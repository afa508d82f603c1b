use Rattle.ipld_tree.specs.TreeOf.{tree_of}
use Rattle.ipld_car.proofs.header.roots_of.Goals as goal

pub returns-in-Ok-None : goal.returns-in-Ok-None
returns-in-Ok-None c = (tree_of c.in-Ok.value, c.in-Ok.ensures.found, rw c.in-Ok-None.field-0-is at c.in-Ok-None.ensures.none)
