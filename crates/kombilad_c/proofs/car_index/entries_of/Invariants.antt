use Rattle.std.proofs.Common.{◌≡◌, ◌≤◌, take, length}
use Rattle.kombilad_c.specs.CarWriting.{IsEntry}
use Rattle.kombilad_c.specs.Rows.{AreEach}
use Rattle.kombilad_c.proofs.car_index.entries_of.Given as goal

abbrev pub invariant-loop-index : goal.invariant-loop-index
invariant-loop-index l = record {
  each : AreEach IsEntry (take l.index l.rows) l.entries.items;
  same_place : l.place ≡ l.initial.place;
  within : l.index ≤ length l.rows;
}
