use Rattle.std.proofs.Common.{option_map, sym, ◌∙◌, arith}
use Rattle.ipld_cid.specs.LinkOf.{link_of}
use Rattle.dag_pb.proofs.Places.{link_ends}
use Rattle.dag_pb.proofs.link.read_link.Goals as goal

pub returns-in-Ok-read_end-clause-places : goal.returns-in-Ok-read_end-clause-places
returns-in-Ok-read_end-clause-places c =
    link_ends c.args.bytes.now c.in-Ok.found.1.now c.in-Ok-read_name.found.1.now c.in-Ok-number_field.found.1.now
    (record { hash = link_of c.in-Ok.found.0; name = option_map (λ name. name.now) c.in-Ok-read_name.found.0; tsize = c.in-Ok-number_field.found.0 })
    (λ i. omega (arith, c.type_inv.bytes i)) c.in-Ok.ensures.exact c.in-Ok-read_name.ensures.exact c.in-Ok-number_field.ensures.exact (sym c.read_end.ensures ∙ c.in-Ok-read_end.is)
