use Rattle.std.proofs.Common.{◌≡◌, ◌∙◌, sym, refl}
use Rattle.dag_pb.specs.Node.{NodeParts}
use Rattle.pb_wire.proofs.Steps.{same_ok}
use Rattle.dag_pb.specs.Lemmas.NodeLaws.{node_sound, node_complete}
use Rattle.dag_pb.proofs.laws.node_law.Goals as goal

pub returns : goal.returns
returns c = record {
  read_is_encoded = node_sound;
  encoded_is_read = node_complete;
  one_node = λ bytes node other is also.
      same_ok (λ (n : NodeParts). node ≡ n) node other (sym (node_complete bytes node is) ∙ node_complete bytes other also) refl;
}
