use Rattle.std.proofs.Common.{ℕ, ◌+◌, List, length, take, drop, sym, ap, ◌∙◌, arith}
use Rattle.std.specs.Prelude.{map, ◌++◌}
use Rattle.unixfs_folders.specs.Folders.{EntryParts}
use Rattle.unixfs_folders.specs.Views.{entry_parts}
use Rattle.kombilad_c.specs.Folder.{rows_from, names_of}
use Rattle.kombilad_c.proofs.FolderRows.{done_next, done_length, rows_next, names_next, names_length, names_within}
use Rattle.kombilad_c.proofs.folder.write_entries.Goals as goal

-- the names so far and the next one have room
pub put_name-at-requires : goal.put_name-at-requires
put_name-at-requires c =
    let inv = c.loop-index.invariant in
    let xs = c.args.entries.now in
    let index = c.loop-index.index in
    let x = c.index-entries-index.result in
    let done = map entry_parts (take index xs) in
    let next = ap (λ (es : List EntryParts). length (names_of es)) (done_next xs index x c.index-entries-index.is c.loop-index-test.true) ∙ names_length done (entry_parts x) in
    omega (arith, inv.place, next, names_within xs (index + 1), c.requires.names, c.loop-index.auto.names)

pub loop-index-preserved : goal.loop-index-preserved
loop-index-preserved c =
    let inv = c.loop-index.invariant in
    let xs = c.args.entries.now in
    let index = c.loop-index.index in
    let x = c.index-entries-index.result in
    let done = map entry_parts (take index xs) in
    let next = done_next xs index x c.index-entries-index.is c.loop-index-test.true in
    let within = names_within xs index in record {
      rows = rows_next done (entry_parts x) index c.loop-index.at c.args.rows.now c.loop-index.rows c.of.result inv.rows (done_length xs index inv.within) inv.place c.of.ensures (omega (arith, c.loop-index-test.true, c.requires.rows))
          ∙ ap (λ (es : List EntryParts). rows_from 0 es ++ drop (index + 1) c.args.rows.now) (sym next);
      names = names_next done (entry_parts x) c.loop-index.at c.args.names.now c.loop-index.names c.put_name-at.new.names inv.names inv.place c.put_name-at.ensures.names (omega (arith, within, c.requires.names))
          ∙ ap (λ (es : List EntryParts). names_of es ++ drop (length (names_of es)) c.args.names.now) (sym next);
      place = c.put_name-at.ensures.end ∙ ap (λ (n : ℕ). n + length x.name.now) inv.place ∙ sym (names_length done (entry_parts x)) ∙ ap (λ (es : List EntryParts). length (names_of es)) (sym next);
      within = omega (arith, c.loop-index-test.true);
    }
