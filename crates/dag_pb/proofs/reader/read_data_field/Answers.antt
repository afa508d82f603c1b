use Rattle.std.proofs.Common.{refl, arith}
use Rattle.pb_wire.proofs.Fields.{content_sound}
use Rattle.dag_pb.proofs.reader.read_data_field.Goals as goal

pub returns-in-Ok-clause-places : goal.returns-in-Ok-clause-places
returns-in-Ok-clause-places c =
    let sized = content_sound c.args.bytes.now c.in-Ok.content.now c.in-Ok.rest.now (λ i. omega (arith, c.type_inv.bytes i)) c.in-Ok.ensures.exact in
    (refl, sized.size, sized.size_encoded, sized.parts)
