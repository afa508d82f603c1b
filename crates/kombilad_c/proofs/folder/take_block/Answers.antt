use Rattle.std.proofs.Common.{List, length, map, ap, inr, arith, ◌∙◌}
use Rattle.std.proofs.lemmas.List.{length-map}
use Rattle.unixfs_folders.specs.declared.folder.FolderEntry.{FolderEntry}
use Rattle.unixfs_folders.specs.Views.{entry_parts}
use Rattle.unixfs_folders.specs.Walks.{remain_of}
use Rattle.kombilad_c.specs.Folder.{names_of}
use Rattle.kombilad_c.proofs.FolderErrors.{memory_status}
use Rattle.kombilad_c.proofs.FolderRoom.{block_room}
use Rattle.kombilad_c.proofs.folder.take_block.Goals as goal

pub write_entries-requires-clause-rows : goal.write_entries-requires-clause-rows
write_entries-requires-clause-rows c =
    let xs = c.in-Ok.entries.items in
    let room = block_room (remain_of c.args.walk.now) (remain_of c.take.new.self) c.args.block.now (map entry_parts xs) c.in-Ok.ensures.takes in
    let same = ap (λ (ys : List FolderEntry). length ys) c.deref.ensures.value in
    omega (arith, room, same, length-map xs entry_parts, c.if-rows-block.false)

pub write_entries-requires-clause-names : goal.write_entries-requires-clause-names
write_entries-requires-clause-names c =
    let xs = c.in-Ok.entries.items in
    let room = block_room (remain_of c.args.walk.now) (remain_of c.take.new.self) c.args.block.now (map entry_parts xs) c.in-Ok.ensures.takes in
    let same = ap (λ (ys : List FolderEntry). length (names_of (map entry_parts ys))) c.deref.ensures.value in
    omega (arith, room, same, c.if-names-block.false)

pub returns-in-Err-clause-only : goal.returns-in-Err-clause-only
returns-in-Err-clause-only c = λ next others entries below left visits rows names.
    inr (c.stop_folder.ensures.status ∙ memory_status c.in-Err.error (c.in-Err.ensures.only next others entries below left visits))
