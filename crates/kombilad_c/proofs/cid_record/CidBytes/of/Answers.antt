use Rattle.ipld_cid.specs.LinkOf.{link_of}
use Rattle.ipld_cid.specs.Bytes.{bytes_of}
use Rattle.kombilad_c.proofs.Records.{record_made}
use Rattle.kombilad_c.proofs.cid_record.CidBytes.of.Goals as goal

pub returns : goal.returns
returns c = record_made (bytes_of (link_of c.args.cid.now)) c.write_to.new.buffer c.in-Some.len c.in-Some.ensures.written.0 c.in-Some.ensures.written.1
