use Rattle.kombilad_c.proofs.node.kombilad_unixfs_node.Goals as goal

pub returns-in-Ok : goal.returns-in-Ok
returns-in-Ok c = rw c.in-Ok.ensures.exact c.read_block.ensures
