use Rattle.std.proofs.Common.{◌≡◌, ◌≤◌, ◌++◌, length, take, drop}
use Rattle.std.specs.Prelude.{map}
use Rattle.unixfs_folders.specs.Views.{entry_parts}
use Rattle.kombilad_c.specs.Folder.{rows_from, names_of}
use Rattle.kombilad_c.proofs.folder.write_entries.Given as goal

abbrev pub invariant-loop-index : goal.invariant-loop-index
invariant-loop-index l =
    let done = map entry_parts (take l.index l.entries) in record {
      rows : l.rows ≡ rows_from 0 done ++ drop l.index l.initial.rows;
      names : l.names ≡ names_of done ++ drop (length (names_of done)) l.initial.names;
      place : l.at ≡ length (names_of done);
      within : l.index ≤ length l.entries;
    }
