use Rattle.std.proofs.Common.{◌≡◌, ◌+◌, drop}
use Rattle.dag_json.specs.Seek.{seek, first_walk}
use Rattle.dag_json.proofs.offset.token_offset.Given as goal

abbrev pub invariant-loop-i : goal.invariant-loop-i
invariant-loop-i l = l.i + seek l.may_pass l.walk (drop l.i l.text) ≡ seek l.may_pass (first_walk l.taken) l.text
