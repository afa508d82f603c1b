use Rattle.unixfs_build.proofs.Encoding.{link_fault}
use Rattle.unixfs_build.proofs.node.make_parent.Goals as goal

pub returns-in-Err-clause-fault : goal.returns-in-Err-clause-fault
returns-in-Err-clause-fault c = link_fault c.args.version c.args.attributes.now _ c.in-Err.error c.in-Err.ensures.fault
