use Rattle.std.proofs.Common.{◌≡◌, List, ℕ, length, ◌++◌, Ok}
use Rattle.dag_pb.specs.declared.reader.Stage.TheVariants.{Nothing}
use Rattle.pb_wire.specs.Steps.{◌>>=◌}
use Rattle.dag_pb.specs.NodeReading.{joined, read_fields}
use Rattle.dag_pb.specs.Spans.{SpannedField, FieldsAreAt}
use Rattle.dag_pb.proofs.Places.{Are, node_of}
use Rattle.dag_pb.proofs.spans.collect_spans.Given as goal

abbrev pub invariant-loop-rest : goal.invariant-loop-rest
invariant-loop-rest l = record {
  fields : List SpannedField;
  front : List ℕ;
  parts : l.bytes ≡ front ++ l.rest;
  are_at : FieldsAreAt 0 fields front;
  are : Are fields l.spans;
  read : (read_fields l.stage l.rest >>= λ rest. Ok (joined (node_of fields) rest)) ≡ read_fields Nothing l.bytes;
}

abbrev pub decreases-loop-rest : goal.decreases-loop-rest
decreases-loop-rest l = length l.rest
