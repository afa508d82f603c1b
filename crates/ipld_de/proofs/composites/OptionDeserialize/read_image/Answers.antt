use Rattle.std.proofs.Common.{refl}
use Rattle.ipld_tree.specs.Tree.{null}
use Rattle.ipld_de.proofs.composites.OptionDeserialize.read_image.Goals as goal

pub returns-then-read_null-clause-ok : goal.returns-then-read_null-clause-ok
returns-then-read_null-clause-ok g c = (null, c.read_null.ensures.null c.if-read_null.true c.args.levels, refl)
