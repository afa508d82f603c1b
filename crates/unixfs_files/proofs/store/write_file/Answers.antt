use Rattle.std.proofs.Common.{refl}
use Rattle.ipld_cid.specs.LinkOf.{link_of}
use Rattle.unixfs_files.specs.Walking.{range_of}
use Rattle.unixfs_files.proofs.Storing.{begins, goes_on, ends, refused, unwritten}
use Rattle.unixfs_files.proofs.store.write_file.Goals as goal

pub loop-cid-init : goal.loop-cid-init
loop-cid-init g c =
    begins c.args.root.now c.args.range c.args.limits.now.bytes (g.W.Write.contents c.args.writer.now) c.new-walk.result c.new-walk.ensures.begins.0 c.new-walk.ensures.begins.1 c.new-walk.ensures.limits.1

pub loop-cid-preserved : goal.loop-cid-preserved
loop-cid-preserved g c =
    goes_on (link_of c.args.root.now) (range_of c.args.range) c.args.limits.now.bytes (g.W.Write.contents c.args.writer.now) (g.W.Write.contents c.loop-cid.writer) (g.W.Write.contents c.write_all.new.self) c.loop-cid.walk c.take.new.self
    c.in-Ok.bytes.now c.loop-cid.invariant c.in-Ok.ensures.takes c.in-Ok.ensures.counts c.in-Ok-write_all.ensures.bytes

pub returns-in-Err-take-clause-failed : goal.returns-in-Err-take-clause-failed
returns-in-Err-take-clause-failed g c =
    rw (c.new-in-Err-take.ensures) (refused (link_of c.args.root.now) (range_of c.args.range) c.args.limits.now.bytes (g.W.Write.contents c.args.writer.now) (g.W.Write.contents c.loop-cid.writer) c.loop-cid.walk c.in-Some.cid
    c.in-Ok-Some.block.now c.in-Err-take.error c.loop-cid.invariant c.in-Some.ensures c.in-Err-take.ensures.fault)

pub returns-in-Err-write_all-clause-failed : goal.returns-in-Err-write_all-clause-failed
returns-in-Err-write_all-clause-failed g c =
    rw (c.new-in-Err-write_all.ensures) (unwritten (link_of c.args.root.now) (range_of c.args.range) c.args.limits.now.bytes (g.W.Write.contents c.args.writer.now) (g.W.Write.contents c.loop-cid.writer) (g.W.Write.contents c.write_all.new.self)
    c.loop-cid.walk c.in-Some.cid c.in-Err-write_all.error c.loop-cid.invariant c.in-Some.ensures)

pub returns-clause-done : goal.returns-clause-done
returns-clause-done g c =
    ends (link_of c.args.root.now) (range_of c.args.range) c.args.limits.now.bytes (g.W.Write.contents c.args.writer.now) (g.W.Write.contents c.loop-cid.writer) c.loop-cid.walk c.walk_law.ensures c.range_law.ensures c.loop-cid.invariant c.in_default.ensures
