use Rattle.std.proofs.Common.{length, ◌++◌, drop, replicate, refl, ap}
use Rattle.kombilad_c.proofs.Records.{record_made}
use Rattle.kombilad_c.proofs.cid_record.CidBytes.with.Goals as goal

pub returns : goal.returns
returns c =
    record_made c.args.content.now _ (length c.args.content.now) refl (ap (λ bytes. bytes ++ drop (length c.args.content.now) (replicate 87 0)) c.copy_from_slice.ensures.after)
