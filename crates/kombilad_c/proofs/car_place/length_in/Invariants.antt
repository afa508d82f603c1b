use Rattle.std.proofs.Common.{◌≡◌, ◌*◌, ◌^◌, ◌<◌, ◌≤◌, drop}
use Rattle.ipld_cid.specs.Varint.{read_from}
use Rattle.ipld_cid.proofs.VarintReading.{above}
use Rattle.kombilad_c.proofs.car_place.length_in.Given as goal

abbrev pub invariant-loop-place : goal.invariant-loop-place
invariant-loop-place l = record {
  few : l.place ≤ 9;
  below : l.value < 2 ^ (7 * l.place);
  rest : above l.value l.place (read_from l.place (drop l.place l.bytes)) ≡ read_from 0 l.bytes;
}
