use Rattle.std.specs.Int.{w128}
use Rattle.std.proofs.lemmas.Int.{to_z-of_z}
use Rattle.dag_json.proofs.Integers.{is_number}
use Rattle.dag_json.proofs.parts.write_integer.Goals as goal

pub number-requires : goal.number-requires
number-requires c = rw (c.format.ensures.text, to_z-of_z w128 c.args.value c.ranges.value) (is_number c.args.value c.ranges.value)
