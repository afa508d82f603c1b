use Rattle.std.proofs.Common.{map, refl, inl, subst, arith}
use Rattle.std.specs.Prelude.{[]}
use Rattle.dag_pb.specs.Views.{parts_of_link}
use Rattle.unixfs.specs.Views.{parts_of}
use Rattle.kombilad_c.specs.Fill.{Fills}
use Rattle.kombilad_c.specs.Node.{is_raw, is_node, reads, no_node, target_of}
use Rattle.kombilad_c.proofs.node.read_node.Goals as goal

pub returns-in-85 : goal.returns-in-85
returns-in-85 c = reads [] (is_raw c.in-85.is c.of_raw.ensures refl) (record { length_needed = refl; done = inl (refl, record { holds = omega arith; filled = refl }) }) refl

pub returns-in-Ok : goal.returns-in-Ok
returns-in-Ok c =
    reads (target_of (parts_of c.in-Ok.found.data)) (is_node (map parts_of_link c.in-Ok.found.links.items) (parts_of c.in-Ok.found.data) c.in-112.is c.in-Ok.ensures.found c.of.ensures refl)
    (subst (λ content. Fills content c.fill.result c.args.content.now c.fill.new.buffer c.fill.new.needed) c.target.ensures c.fill.ensures) refl

pub returns-in-Err : goal.returns-in-Err
returns-in-Err c = no_node c.in-Err.error c.in-112.is c.in-Err.ensures.exact c.node_status.ensures c.node_place.ensures (refl, record { buffer = refl; length_needed = refl })
