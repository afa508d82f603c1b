use Rattle.std.proofs.Common.{◌≡◌, ◌++◌, length, map, Ok}
use Rattle.ipld_cid.specs.LinkOf.{link_of}
use Rattle.dag_pb.specs.declared.reader.Stage.TheVariants.{Nothing}
use Rattle.pb_wire.specs.Steps.{◌>>=◌}
use Rattle.dag_pb.specs.NodeReading.{hashes, read_fields}
use Rattle.dag_pb.proofs.node.collect_links.Given as goal

abbrev pub invariant-loop-rest : goal.invariant-loop-rest
invariant-loop-rest l = (read_fields l.stage l.rest >>= λ rest. Ok (map link_of l.links.items ++ hashes rest)) ≡ (read_fields Nothing l.bytes >>= λ node. Ok (hashes node))

abbrev pub decreases-loop-rest : goal.decreases-loop-rest
decreases-loop-rest l = length l.rest
