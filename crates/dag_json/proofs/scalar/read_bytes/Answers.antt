use Rattle.std.proofs.Common.{inr}
use Rattle.dag_json.proofs.Scalars.{bytes_made, bytes_wrong}
use Rattle.dag_json.proofs.scalar.read_bytes.Goals as goal

pub returns-in-Ok : goal.returns-in-Ok
returns-in-Ok c = bytes_made c.as_bytes.result.now c.args.text.now c.in-Ok.bytes c.as_bytes.ensures.value c.in-Ok.ensures.ok

pub returns-in-Err-DecodeError : goal.returns-in-Err-DecodeError
returns-in-Err-DecodeError c =
    inr (bytes_wrong c.as_bytes.result.now c.args.text.now c.in-Err-DecodeError.field-0 c.in-Err-DecodeError.field-0-0 c.as_bytes.ensures.value c.in-Err-DecodeError.field-0-is
    c.in-Err-DecodeError.ensures.err)
