use Rattle.std.proofs.Common.{◌≡◌, length, Ok}
use Rattle.dag_pb.specs.declared.reader.Stage.TheVariants.{Nothing}
use Rattle.pb_wire.specs.Steps.{◌>>=◌}
use Rattle.dag_pb.specs.NodeReading.{joined, read_fields}
use Rattle.dag_pb.specs.Views.{parts_of_node}
use Rattle.dag_pb.proofs.node.collect_node.Given as goal

abbrev pub invariant-loop-rest : goal.invariant-loop-rest
invariant-loop-rest l = (read_fields l.stage l.rest >>= λ rest. Ok (joined (parts_of_node l.node) rest)) ≡ read_fields Nothing l.bytes

abbrev pub decreases-loop-rest : goal.decreases-loop-rest
decreases-loop-rest l = length l.rest
