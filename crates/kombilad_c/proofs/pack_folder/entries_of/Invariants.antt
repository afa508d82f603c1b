use Rattle.std.proofs.Common.{◌≡◌, ◌≤◌, map, take, length}
use Rattle.unixfs_build.specs.Views.{entry_of}
use Rattle.kombilad_c.specs.Pack.{IsEntry}
use Rattle.kombilad_c.specs.Rows.{AreEach}
use Rattle.kombilad_c.proofs.pack_folder.entries_of.Given as goal

abbrev pub invariant-loop-index : goal.invariant-loop-index
invariant-loop-index l = record {
  each : AreEach (IsEntry l.names) (take l.index l.rows) (map entry_of l.entries.items);
  same_place : l.place ≡ l.initial.place;
  within : l.index ≤ length l.rows;
}
