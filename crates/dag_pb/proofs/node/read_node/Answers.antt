use Rattle.std.proofs.Common.{◌≡◌, refl, arith}
use Rattle.dag_pb.specs.Node.{IsNode}
use Rattle.dag_pb.specs.NodeReading.{read_node}
use Rattle.dag_pb.specs.Views.{parts_of_node}
use Rattle.dag_pb.specs.Lemmas.NodeLaws.{node_sound, node_complete}
use Rattle.dag_pb.proofs.Collecting.{told, told_only, told_offset, node_offset}
use Rattle.dag_pb.proofs.node.read_node.Goals as goal

pub returns-clause-found : goal.returns-clause-found
returns-clause-found c =
    told parts_of_node (read_node c.args.bytes.now) (λ n. IsNode n c.args.bytes.now) c.collect_node.result
    (λ n. node_sound c.args.bytes.now n (λ i. omega (arith, c.type_inv.bytes i))) c.collect_node.ensures.exact

pub returns-clause-only : goal.returns-clause-only
returns-clause-only c n is =
    told_only parts_of_node (read_node c.args.bytes.now) (λ m. m ≡ n) n c.collect_node.result (node_complete c.args.bytes.now n is) refl c.collect_node.ensures.exact

pub returns-clause-offset : goal.returns-clause-offset
returns-clause-offset c = told_offset parts_of_node (read_node c.args.bytes.now) _ c.collect_node.result (node_offset c.args.bytes.now) c.collect_node.ensures.exact

pub returns-clause-unlinked : goal.returns-clause-unlinked
returns-clause-unlinked c = λ n is none. c.collect_node.ensures.unlinked n (node_complete c.args.bytes.now n is) none
