use Rattle.unixfs_build.proofs.Encoding.{node_is, never_misplaced}
use Rattle.unixfs_build.proofs.encode.encode_block.Goals as goal

pub unreachable-requires : goal.unreachable-requires
unreachable-requires c = never_misplaced _ c.in-Err-LinkOrder.field-0 c.in-Err-LinkOrder.field-0-0 c.requires c.in-Err-LinkOrder.field-0-is c.in-Err-LinkOrder.ensures.exact

pub returns-in-Ok-clause-exact : goal.returns-in-Ok-clause-exact
returns-in-Ok-clause-exact c = node_is _ c.in-Ok.block.items c.in-Ok.ensures.exact
