use Rattle.std.proofs.Common.{ℕ, subst, arith}
use Rattle.pb_wire.specs.Wire.{IsVarint}
use Rattle.dag_pb.proofs.Places.{found_behind}
use Rattle.pb_wire.proofs.Varints.{varint_sound}
use Rattle.dag_pb.proofs.reader.read_part.Goals as goal

pub returns-in-18-clause-places : goal.returns-in-18-clause-places
returns-in-18-clause-places c =
    let key = varint_sound c.in-Ok.found.0 c.args.bytes.now c.in-Ok.found.1.now (λ i. omega (arith, c.type_inv.bytes i)) c.in-Ok.ensures.exact in
    found_behind 18 key.taken c.args.bytes.now c.in-Ok.found.1.now c.take_link.result (subst (λ (n : ℕ). IsVarint n key.taken) c.in-18.is key.is) key.parts c.take_link.ensures.places

pub returns-in-10-clause-places : goal.returns-in-10-clause-places
returns-in-10-clause-places c =
    let key = varint_sound c.in-Ok.found.0 c.args.bytes.now c.in-Ok.found.1.now (λ i. omega (arith, c.type_inv.bytes i)) c.in-Ok.ensures.exact in
    found_behind 10 key.taken c.args.bytes.now c.in-Ok.found.1.now c.take_data.result (subst (λ (n : ℕ). IsVarint n key.taken) c.in-10.is key.is) key.parts c.take_data.ensures.places
