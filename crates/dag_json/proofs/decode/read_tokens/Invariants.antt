use Rattle.std.proofs.Common.{◌≡◌, length}
use Rattle.dag_json.specs.Building.{state_of}
use Rattle.dag_json.specs.Offset.{is_going, Passed}
use Rattle.dag_json.proofs.decode.read_tokens.Given as goal

abbrev pub invariant-loop-token : goal.invariant-loop-token
invariant-loop-token l = Passed l.floats l.limits l.initial.reader l.taken (state_of l.builder) l.reader × (l.unfinished ≡ is_going (state_of l.builder))

abbrev pub decreases-loop-token : goal.decreases-loop-token
decreases-loop-token l = length l.reader
