use Rattle.std.proofs.Common.{refl}
use Rattle.ipld_cid.specs.LinkOf.{link_of}
use Rattle.ipld_tree.specs.Tree.{link}
use Rattle.ipld_de.proofs.ImageReading.{ok_then}
use Rattle.ipld_de.proofs.scalars.CidDeserialize.read_image.Goals as goal

pub returns-clause-ok : goal.returns-clause-ok
returns-clause-ok g c = ok_then c.read_link.result (λ v begun. (link (link_of v), begun, refl)) (c.read_link.ensures.ok c.args._levels)
