use Rattle.ipld_car.proofs.Skipping.{payload_padding}
use Rattle.ipld_car.proofs.version2.read_payload.Goals as goal

pub returns-in-Err-skip_padding : goal.returns-in-Err-skip_padding
returns-in-Err-skip_padding g c =
    payload_padding _ _ _ _ _ _ _ (rw (c.clear.ensures.items, c.in-Ok-true.field-0-test) at c.in-Ok-true.ensures) (rw c.deref.ensures.value at c.in-Some.ensures) c.in-Err-skip_padding.ensures.skips
