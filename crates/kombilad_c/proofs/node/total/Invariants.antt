use Rattle.std.proofs.Common.{◌≡◌, ◌+◌, ◌<◌, drop}
use Rattle.std.specs.Prelude.{sum, ◌^◌}
use Rattle.kombilad_c.proofs.node.total.Given as goal

abbrev pub invariant-loop-number : goal.invariant-loop-number
invariant-loop-number l = record {
  fits : l.total < 2 ^ 64;
  same : l.total + sum (drop l.number-index l.others) ≡ l.first + sum l.others;
}
