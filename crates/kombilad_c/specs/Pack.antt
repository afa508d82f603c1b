-- The results of the exports that pack files, folders and symbolic links. `old` and `new` are what a
-- handle holds before a call and after it, if it holds anything.
use Rattle.std.specs.Prelude.{◌≡◌, ◌⊎◌, ◌≤◌, ◌/◌, ◌%◌, ◌==◌, ℕ, zero, suc, true, false, Bool, nat_lt, if◌then◌else◌, not, List, [], ◌∷◌, ◌++◌, length, map, drop, Option, Some, None, Ok, Err}
use Rattle.std.specs.Str.{IsUtf8}
use Rattle.ipld_cid.specs.Bytes.{read_cid}
use Rattle.ipld_cid.specs.Cid.{Link}
use Rattle.ipld_cid.specs.declared.cid.Version.{Version}
use Rattle.ipld_cid.specs.declared.cid.Version.TheVariants.{V0, V1}
use Rattle.ipld_cid.specs.declared.error.CidError.{CidError}
use Rattle.unixfs_build.specs.declared.builder.FileBuilder.{FileBuilder}
use Rattle.unixfs_build.specs.declared.error.BuildError.{BuildError}
use Rattle.unixfs_build.specs.declared.layout.Attributes.{Attributes}
use Rattle.unixfs_build.specs.declared.layout.Layout.{Layout}
use Rattle.unixfs_build.specs.Blocks.{BuiltBlock}
use Rattle.unixfs_build.specs.Building.{HasChunks, Pushes, PushFault, Stays, pushed_blocks, finished_blocks, FinishFault}
use Rattle.unixfs_build.specs.Nodes.{MadeNode, symlink_node}
use Rattle.unixfs_build.specs.Packing.{folder_nodes, IsNodeFault, IsFolderFault}
use Rattle.unixfs_build.specs.Roots.{EndsInFile}
use Rattle.unixfs_build.specs.Views.{block_of}
use Rattle.unixfs_folders.specs.Folders.{EntryParts, AreEntries}
use Rattle.kombilad_c.specs.declared.folder.EntryRow.{EntryRow}
use Rattle.kombilad_c.specs.declared.held.Held.{Held}
use Rattle.kombilad_c.specs.declared.held.Held.TheVariants as holding
use Rattle.kombilad_c.specs.declared.node.NodeRow.{NodeRow}
use Rattle.kombilad_c.specs.declared.packing.BlockRow.{BlockRow}
use Rattle.kombilad_c.specs.declared.packing.Packing.{Packing}
use Rattle.kombilad_c.specs.CidRecord.{record_of, bytes_in}
use Rattle.kombilad_c.specs.Fill.{Variable, Fills, IsUntouched}
use Rattle.kombilad_c.specs.Lookup.{content_at}
use Rattle.kombilad_c.specs.Rows.{AreEach, FirstFault}
use Rattle.kombilad_c.specs.Status.{cid_status, pack_status, pack_place}

-- ---- arguments

-- the version with this number
abbrev pub asked_version : ℕ → Option Version
asked_version n = if n == 0 then Some V0 else if n == 1 then Some V1 else None

-- the layout of a file
abbrev pub layout_of : Version → (raw_leaves width : ℕ) → Layout
layout_of version raw_leaves width = record { version = version; raw_leaves = not (raw_leaves == 0); width = width }

-- whether a sum of fields has this one, a power of 2
abbrev pub has_field : ℕ → ℕ → Bool
has_field fields zero = false
has_field fields (suc field) = fields / suc field % 2 == 1

-- the permissions and the time of a row
abbrev pub attributes_in : NodeRow → Attributes
attributes_in row = record {
  mode = if has_field row.fields 2 then Some row.mode else None;
  mtime = if has_field row.fields 4 then Some (record { seconds = row.seconds; nanoseconds = row.nanoseconds }) else None;
}

-- True if a row is of this entry.
pub record IsEntry (names : List ℕ) (row : EntryRow) (entry : EntryParts) : Type 0 where
  pub cid : read_cid 64 (bytes_in row.cid) ≡ Ok entry.link
  pub name : entry.name ≡ content_at names row.name
  pub utf8 : IsUtf8 entry.name
  pub size : entry.tsize ≡ Some row.tsize

-- True if a row is of no entry, for the reason of this status.
abbrev pub IsNoEntry : (names : List ℕ) → EntryRow → (status : ℕ) → Type 0
IsNoEntry names row status =
    ((error : CidError) × (read_cid 64 (bytes_in row.cid) ≡ Err error) × (status ≡ cid_status error))
    ⊎ ((link : Link) × (read_cid 64 (bytes_in row.cid) ≡ Ok link) × (IsUtf8 (content_at names row.name) → ⊥) × (status ≡ 37))

-- ---- what is packed

-- the blocks that wait to be taken
abbrev pub waiting_in : Packing → List BuiltBlock
waiting_in packing = map block_of (drop packing.taken packing.blocks.items)

-- whether blocks wait to be taken
abbrev pub has_waiting : Packing → Bool
has_waiting packing = nat_lt packing.taken (length packing.blocks.items)

-- the block of a node of a folder or a symbolic link
abbrev pub block_of_node : MadeNode → BuiltBlock
block_of_node node = record { part = record { link = node.link; size = 0; total = node.total }; bytes = node.bytes }

-- the row of a block
abbrev pub block_row : BuiltBlock → BlockRow
block_row block = record { cid = record_of block.part.link; size = block.part.size; total = block.part.total }

-- True if the handle holds what is packed, and that satisfies `Q`.
abbrev pub HoldsPacking : Option Held → (Packing → Type 0) → Type 0
HoldsPacking None Q = ⊥
HoldsPacking (Some (holding.File walk)) Q = ⊥
HoldsPacking (Some (holding.Folder walk)) Q = ⊥
HoldsPacking (Some (holding.Packing packing)) Q = Q packing

-- True if there is a builder that satisfies `Q`.
abbrev pub HasBuilder : Option FileBuilder → (FileBuilder → Type 0) → Type 0
HasBuilder None Q = ⊥
HasBuilder (Some builder) Q = Q builder

-- True if a builder of this layout has no chunk.
abbrev pub IsEmptyFile : Layout → FileBuilder → Type 0
IsEmptyFile layout builder = (builder.layout ≡ layout) × HasChunks [] builder

-- ---- files

-- True if the handle holds a file without chunks, no block waits, and the status is 0. Or the width
-- is less than 2, or an allocation failed, and the handle is as before.
abbrev pub BeginsFile : Layout → (status : ℕ) → (old new : Option Held) → Type 0
BeginsFile layout status old new =
    ((status ≡ 0) × HoldsPacking new (λ packing. HasBuilder packing.file (IsEmptyFile layout) × (waiting_in packing ≡ [])))
    ⊎ ((status ≡ 240) × (layout.width ≤ 1) × (new ≡ old))
    ⊎ ((status ≡ 1) × (new ≡ old))

-- True if a file has one chunk more, and the blocks that are then complete wait. Or the chunk is not
-- added for an error, the file is as before, and no block waits. Or there is no file, and all is as
-- before.
abbrev pub AddsTo : Option FileBuilder → (old new : Packing) → (chunk : List ℕ) → (status : ℕ) → Type 0
AddsTo None old new chunk status = (status ≡ 193) × (new ≡ old)
AddsTo (Some file) old new chunk status =
    ((status ≡ 0) × HasBuilder new.file (λ next. Pushes file next chunk × ((chunks : List (List ℕ)) → HasChunks chunks file → HasChunks (chunks ++ chunk ∷ []) next))
    × (waiting_in new ≡ pushed_blocks file chunk))
    ⊎ ((error : BuildError) × PushFault file chunk error × (status ≡ pack_status error) × HasBuilder new.file (Stays file) × (waiting_in new ≡ []))

-- True if this is the result of adding a chunk. If blocks wait, the status is 246, and all is as
-- before.
abbrev pub AddsChunk : (old new : Packing) → (chunk : List ℕ) → (status : ℕ) → Type 0
AddsChunk old new chunk status =
    ((has_waiting old ≡ true) × (status ≡ 246) × (new ≡ old)) ⊎ ((has_waiting old ≡ false) × AddsTo old.file old new chunk status)

-- True if this is the result for what a handle holds.
abbrev pub AddsFrom : (old new : Option Held) → (chunk : List ℕ) → (status : ℕ) → Type 0
AddsFrom None new chunk status = (status ≡ 193) × (new ≡ None)
AddsFrom (Some (holding.File walk)) new chunk status = (status ≡ 193) × (new ≡ Some (holding.File walk))
AddsFrom (Some (holding.Folder walk)) new chunk status = (status ≡ 193) × (new ≡ Some (holding.Folder walk))
AddsFrom (Some (holding.Packing packing)) new chunk status = HoldsPacking new (λ next. AddsChunk packing next chunk status)

-- True if a file is complete, and its last blocks wait, which end in the root of its chunks. Or it
-- can't be completed for an error, and no block waits. In both cases no file is left. Or there was
-- none, and all is as before.
abbrev pub EndsOf : Option FileBuilder → (old new : Packing) → Attributes → (chunk : List ℕ) → (status : ℕ) → Type 0
EndsOf None old new attributes chunk status = (status ≡ 193) × (new ≡ old)
EndsOf (Some file) old new attributes chunk status =
    ((status ≡ 0) × (new.file ≡ None) × (waiting_in new ≡ finished_blocks file attributes chunk)
    × ((chunks : List (List ℕ)) → HasChunks chunks file → EndsInFile file.layout attributes (chunks ++ chunk ∷ []) (waiting_in new)))
    ⊎ ((error : BuildError) × FinishFault file attributes chunk error × (status ≡ pack_status error) × (new.file ≡ None) × (waiting_in new ≡ []))

-- True if this is the result of adding the last chunk. If blocks wait, the status is 246, and all is
-- as before.
abbrev pub EndsFile : (old new : Packing) → Attributes → (chunk : List ℕ) → (status : ℕ) → Type 0
EndsFile old new attributes chunk status =
    ((has_waiting old ≡ true) × (status ≡ 246) × (new ≡ old)) ⊎ ((has_waiting old ≡ false) × EndsOf old.file old new attributes chunk status)

-- True if this is the result for what a handle holds.
abbrev pub EndsFrom : (old new : Option Held) → Attributes → (chunk : List ℕ) → (status : ℕ) → Type 0
EndsFrom None new attributes chunk status = (status ≡ 193) × (new ≡ None)
EndsFrom (Some (holding.File walk)) new attributes chunk status = (status ≡ 193) × (new ≡ Some (holding.File walk))
EndsFrom (Some (holding.Folder walk)) new attributes chunk status = (status ≡ 193) × (new ≡ Some (holding.Folder walk))
EndsFrom (Some (holding.Packing packing)) new attributes chunk status = HoldsPacking new (λ next. EndsFile packing next attributes chunk status)

-- ---- symbolic links and folders

-- True if there is no file, and the blocks of these nodes wait.
abbrev pub HasNodes : List MadeNode → Packing → Type 0
HasNodes nodes packing = (packing.file ≡ None) × (waiting_in packing ≡ map block_of_node nodes)

-- True if the block of the symbolic link waits, and the status is 0. Or the link isn't packed for an
-- error, or an allocation failed, and the handle is as before.
abbrev pub PacksSymlink : Version → Attributes → (target : List ℕ) → (status : ℕ) → (old new : Option Held) → Type 0
PacksSymlink version attributes target status old new =
    ((status ≡ 0) × HoldsPacking new (HasNodes (symlink_node version attributes target ∷ [])))
    ⊎ ((error : BuildError) × IsNodeFault attributes (symlink_node version attributes target) error × (status ≡ pack_status error) × (new ≡ old))
    ⊎ ((status ≡ 1) × (new ≡ old))

-- True if the blocks of the folder of these entries wait, the root first, and the status is 0. Or the
-- folder isn't packed for an error, the handle is as before, and the place is that of the error. Or
-- an allocation failed, and all is as before.
abbrev pub PacksFolder : Version → Attributes → (above : ℕ) → List EntryParts → (status : ℕ) → (old new : Option Held) → (place : Variable ℕ) → Type 0
PacksFolder version attributes above entries status old new place =
    ((status ≡ 0) × HoldsPacking new (HasNodes (folder_nodes version attributes above entries)) × AreEntries None entries × (place.after ≡ place.before))
    ⊎ ((error : BuildError) × IsFolderFault version attributes above entries error × (status ≡ pack_status error) × (place.after ≡ pack_place error) × (new ≡ old))
    ⊎ ((status ≡ 1) × (place.after ≡ place.before) × (new ≡ old))

-- True if this is the result for the entries in these rows. If one of them is of no entry, the place
-- is its number, and the handle is as before. If an allocation for them failed, all is as before.
abbrev pub ReadsFolder : Version → Attributes → (above : ℕ) → (names : List ℕ) → List EntryRow → (status : ℕ) → (old new : Option Held) → (place : Variable ℕ) → Type 0
ReadsFolder version attributes above names rows status old new place =
    ((entries : List EntryParts) × AreEach (IsEntry names) rows entries × PacksFolder version attributes above entries status old new place)
    ⊎ (FirstFault (IsEntry names) (IsNoEntry names) rows place.after status × (new ≡ old))
    ⊎ ((status ≡ 1) × (place.after ≡ place.before) × (new ≡ old))

-- ---- the blocks

-- True if the first of the waiting blocks is taken, its row is written, and it is at the beginning of
-- the buffer. Or the buffer is too short for it, and nothing is written but the needed length.
abbrev pub TakesNext : BuiltBlock → List BuiltBlock → (old new : Packing) → (status : ℕ) → Variable BlockRow → Type 0
TakesNext block rest old new status row =
    ((status ≡ 0) × (row.after ≡ block_row block) × (waiting_in new ≡ rest) × (new.file ≡ old.file))
    ⊎ ((status ≡ 2) × (row.after ≡ row.before) × (new ≡ old))

-- True if this is the result for the blocks that wait. If none waits, the status is 192.
abbrev pub HandsFrom : List BuiltBlock → (old new : Packing) → (status : ℕ) → Variable BlockRow → Variable (List ℕ) → (needed : Variable ℕ) → Type 0
HandsFrom [] old new status row bytes needed =
    (status ≡ 192) × (new ≡ old) × (row.after ≡ row.before) × IsUntouched bytes.before bytes.after needed.before needed.after
HandsFrom (block ∷ rest) old new status row bytes needed =
    Fills block.bytes status bytes.before bytes.after needed.after × TakesNext block rest old new status row

-- True if this is the result for what is packed.
abbrev pub HandsOut : (old new : Packing) → (status : ℕ) → Variable BlockRow → Variable (List ℕ) → (needed : Variable ℕ) → Type 0
HandsOut old new status row bytes needed = HandsFrom (waiting_in old) old new status row bytes needed

-- True if the handle holds nothing that is packed: the status is 193, and nothing is written.
abbrev pub IsClosed : (old new : Option Held) → (status : ℕ) → Variable BlockRow → Variable (List ℕ) → (needed : Variable ℕ) → Type 0
IsClosed old new status row bytes needed =
    (status ≡ 193) × (new ≡ old) × (row.after ≡ row.before) × IsUntouched bytes.before bytes.after needed.before needed.after

-- True if this is the result for what a handle holds.
abbrev pub TakesFrom : (old new : Option Held) → (status : ℕ) → Variable BlockRow → Variable (List ℕ) → (needed : Variable ℕ) → Type 0
TakesFrom None new status row bytes needed = IsClosed None new status row bytes needed
TakesFrom (Some (holding.File walk)) new status row bytes needed = IsClosed (Some (holding.File walk)) new status row bytes needed
TakesFrom (Some (holding.Folder walk)) new status row bytes needed = IsClosed (Some (holding.Folder walk)) new status row bytes needed
TakesFrom (Some (holding.Packing packing)) new status row bytes needed = HoldsPacking new (λ next. HandsOut packing next status row bytes needed)
