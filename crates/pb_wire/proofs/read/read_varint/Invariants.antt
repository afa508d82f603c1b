use Rattle.std.proofs.Common.{◌≡◌, ◌*◌, ◌^◌, ◌<◌, ◌≤◌, drop}
use Rattle.pb_wire.specs.Reading.{read_from}
use Rattle.pb_wire.proofs.VarintLoop.{above}
use Rattle.pb_wire.proofs.read.read_varint.Given as goal

abbrev pub invariant-loop-place : goal.invariant-loop-place
invariant-loop-place l = record {
  few : l.place ≤ 9;
  below : l.value < 2 ^ (7 * l.place);
  rest : above l.value l.place (read_from l.place (drop l.place l.bytes)) ≡ read_from 0 l.bytes;
}
