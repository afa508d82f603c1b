use Rattle.std.proofs.Common.{◌++◌, length, arith}
use Rattle.dag_cbor_format.specs.declared.major.Major.TheVariants.{Bytes}
use Rattle.dag_cbor_format.specs.Head.{head}
use Rattle.dag_cbor_format.specs.Canonical.{written_bytes}
use Rattle.dag_cbor_format.proofs.Writing.{on_err, part_none, headed_some, headed_long}
use Rattle.dag_cbor_format.proofs.write.write_bytes.Goals as goal

pub returns-in_err-write_head-clause-part : goal.returns-in_err-write_head-clause-part
returns-in_err-write_head-clause-part c =
    let b = c.args.bytes.now in
    on_err c.from_residual.result _
    (part_none (written_bytes b) (head Bytes (length b) ++ b) c.args.out.now.items c.write_head.new.out.items (headed_some Bytes (length b) b (omega arith)) (headed_long Bytes (length b) b) c.in_err-write_head.ensures.unchanged)
