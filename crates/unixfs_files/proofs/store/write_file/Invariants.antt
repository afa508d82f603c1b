use Rattle.ipld_cid.specs.LinkOf.{link_of}
use Rattle.unixfs_files.specs.Walking.{range_of}
use Rattle.unixfs_files.proofs.Storing.{Progress}
use Rattle.unixfs_files.proofs.store.write_file.Given as goal

abbrev pub invariant-loop-cid : goal.invariant-loop-cid
invariant-loop-cid g l = Progress (link_of l.root) (range_of l.fn.range) l.limits.bytes (g.W.Write.contents l.fn.writer) (g.W.Write.contents l.writer) l.walk

abbrev pub decreases-loop-cid : goal.decreases-loop-cid
decreases-loop-cid g l = l.walk.blocks_left
