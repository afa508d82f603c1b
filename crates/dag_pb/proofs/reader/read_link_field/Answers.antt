use Rattle.std.proofs.Common.{refl, arith}
use Rattle.dag_pb.specs.Views.{parts_of_link}
use Rattle.pb_wire.proofs.Fields.{content_sound}
use Rattle.dag_pb.proofs.Places.{link_more}
use Rattle.dag_pb.proofs.reader.read_link_field.Goals as goal

pub returns-in-Ok-read_link-clause-places : goal.returns-in-Ok-read_link-clause-places
returns-in-Ok-read_link-clause-places c =
    let sized = content_sound c.args.bytes.now c.in-Ok.found.0.now c.in-Ok.found.1.now (λ i. omega (arith, c.type_inv.bytes i)) c.in-Ok.ensures.exact in (
      refl,
      sized.size,
      c.in-Ok.found.0.now,
      sized.size_encoded,
      sized.parts,
      link_more c.in-Ok-read_link.found.behind_hash c.in-Ok-read_link.found.behind_name (parts_of_link c.in-Ok-read_link.found.link) c.in-Ok.found.0.now c.in-Ok.found.1.now c.in-Ok-read_link.ensures.places,
    )
