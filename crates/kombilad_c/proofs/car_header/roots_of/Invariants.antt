use Rattle.std.proofs.Common.{◌≡◌, ◌≤◌, map, take, length}
use Rattle.ipld_cid.specs.LinkOf.{link_of}
use Rattle.kombilad_c.specs.CarWriting.{IsRoot}
use Rattle.kombilad_c.specs.Rows.{AreEach}
use Rattle.kombilad_c.proofs.car_header.roots_of.Given as goal

abbrev pub invariant-loop-index : goal.invariant-loop-index
invariant-loop-index l = record {
  each : AreEach (IsRoot) (take l.index l.rows) (map link_of l.roots.items);
  same_place : l.place ≡ l.initial.place;
  within : l.index ≤ length l.rows;
}
