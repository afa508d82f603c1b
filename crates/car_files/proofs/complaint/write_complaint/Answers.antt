use Rattle.ipld_cid.specs.LinkOf.{link_of}
use Rattle.car_files.proofs.Complaining.{complains}
use Rattle.car_files.proofs.complaint.write_complaint.Goals as goal

pub returns-clause-written : goal.returns-clause-written
returns-clause-written g c =
    complains c.args.label.now c.args.offset (link_of c.args.cid.now) c.as_bytes.result.now c.as_bytes-2.result.now _ (g.E.Write.contents c.write_all.new.self)
    (g.E.Write.contents c.write_cid.new.writer) (g.E.Write.contents c.write.new.self) (g.E.Write.contents c.write_all-2.new.self) _ c.as_bytes.ensures.value
    c.in_ok-write_all.ensures.bytes c.in_ok-write_cid.ensures c.in_ok-write.ensures.bytes c.in_ok-write_all-2.ensures.bytes c.in_ok-write_all-3.ensures.bytes
