use Rattle.unixfs_build.proofs.Packed.{too_large}
use Rattle.unixfs_build.proofs.folder_node.with_tsizes.Goals as goal

pub returns-in-None : goal.returns-in-None
returns-in-None c = too_large c.args.links.now c.link-item.result _ c.loop-link.link-index c.args.len c.loop-link.total c.tsize_of.result c.loop-link-test.true c.link-item.is c.loop-link.invariant c.tsize_of.ensures c.in-None.ensures
