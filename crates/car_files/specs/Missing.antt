-- The blocks that CARs link to and don't have.
use Rattle.std.specs.Prelude.{◌≡◌, ◌≢◌, ◌+◌, ◌&&◌, ◌||◌, ℕ, Bool, false, not, if◌then◌else◌, List, [], ◌∷◌, ◌++◌, length, map}
use Rattle.std.specs.Bool.{Decides}
use Rattle.std.specs.List.{IsDistinct}
use Rattle.std.specs.Option.{is_some}
use Rattle.std.specs.declared.io.ErrorKind.TheVariants.{OutOfMemory as NoMemory}
use Rattle.ipld_cid.specs.Cid.{Link}
use Rattle.ipld_cid.specs.LinkOf.{link_of}
use Rattle.ipld_cid.specs.Order.{link_eq}
use Rattle.ipld_car.specs.Section.{Block}
use Rattle.car_files.specs.Blocks.{links_in}
use Rattle.car_files.specs.Complaints.{Says}
use Rattle.car_files.specs.Has.{has}
use Rattle.car_files.specs.Index.{Search}
use Rattle.car_files.specs.Reached.{is_identity, Reaches}
use Rattle.car_files.specs.declared.missing.Missing.{Missing}
use Rattle.car_files.specs.declared.missing.Seen.{Seen}
use Rattle.ipld_block.specs.Codes.{codec_of_code}
use Rattle.car_files.specs.declared.error.CarFileError.{CarFileError}
use Rattle.car_files.specs.declared.error.CarFileError.TheVariants.{Memory, Write, Car}
use Rattle.car_files.specs.Reading.{ReadsAll, NoSection}
use Rattle.car_files.specs.Streams.{Progress, Complaints}

-- The links of a block, by the codec of its CID.
abbrev pub links_of_block : Block → List Link
links_of_block block = links_in block.cid.codec block.bytes

-- The links of the blocks, in the order of the blocks.
abbrev pub links_of_blocks : List Block → List Link
links_of_blocks [] = []
links_of_blocks (block ∷ blocks) = links_of_block block ++ links_of_blocks blocks

-- The CIDs of the blocks.
abbrev pub cids_of : List Block → List Link
cids_of blocks = map (λ block. block.cid) blocks

-- Returns whether the links of the block are known, by the codec of its CID.
abbrev pub is_known : Block → Bool
is_known block = is_some (codec_of_code block.cid.codec)

-- the number of blocks of codecs whose links aren't known
abbrev pub unknown_in : List Block → ℕ
unknown_in [] = 0
unknown_in (block ∷ blocks) = (if is_known block then 0 else 1) + unknown_in blocks

-- True if `added` has exactly the links that are reached from `from` and don't carry a block.
abbrev pub Exactly : List Link → List Link → Type 0
Exactly added from = (l : Link) → Decides (has l added) (Reaches from l × (is_identity l ≡ false))

-- True if the link is reached from the roots and the links of the blocks, doesn't carry a block,
-- and is not the CID of one of the blocks.
abbrev pub IsMissing : List Link → List Block → Link → Type 0
IsMissing roots blocks l = Reaches (roots ++ links_of_blocks blocks) l × (is_identity l ≡ false) × (has l (cids_of blocks) ≡ false)

-- True if the block came, and exactly the links were added that are reached from its links and
-- don't carry a block. A link is missing afterwards if it was missing before and is not the CID of
-- the block, or if it was added and its block has not come. `unknown` is whether the links of the
-- block are unknown.
pub record AddsBlock (block : Block) (old new : Search) (unknown : Bool) : Type 0 where
  pub added : List Link
  pub exactly : Exactly added (links_of_block block)
  pub came : (l : Link) → has l new.came ≡ (link_eq l block.cid || has l old.came)
  pub missing : (l : Link) → has l new.missing
      ≡ ((has l old.missing && not (link_eq l block.cid)) || (has l added && not (has l new.came)))
  pub is_unknown : unknown ≡ not (is_known block)

-- True if the blocks came, and exactly the links were added that are reached from the roots and the
-- links of the blocks and don't carry a block. A link is missing afterwards if it was missing
-- before and its block is not one of these, or if it was added and its block has not come.
pub record AddsBlocks (roots : List Link) (blocks : List Block) (old new : Search) : Type 0 where
  pub added : List Link
  pub exactly : Exactly added (roots ++ links_of_blocks blocks)
  pub came : (l : Link) → has l new.came ≡ (has l (cids_of blocks) || has l old.came)
  pub missing : (l : Link) → has l new.missing
      ≡ ((has l old.missing && not (has l (cids_of blocks))) || (has l added && not (has l new.came)))

-- True if all blocks were read and added with the roots to the search (`AddsBlocks`), and the lines
-- about the faults were written (`Says`). `seen` counts the blocks, the blocks of codecs whose
-- links aren't known, and the faults.
pub record AddsCar {R : Type 0} (read : Progress R) (errors : Complaints) (first last : Search) (seen : Seen) : Type 0 where
  pub blocks : List Block
  pub reads : ReadsAll read blocks
  pub adds : AddsBlocks (map link_of read.old.roots.items) blocks first last
  pub says : Says errors read.old blocks seen.invalid
  pub counted : seen.blocks ≡ length blocks
  pub unread : seen.unknown ≡ unknown_in blocks

-- True if the error reports a failed allocation, a failed writer, or that the next section wasn't
-- read (`NoSection`). In the last case the blocks before it were added, and the lines about their
-- faults were written.
abbrev pub AddingFault : {R : Type 0} → Progress R → Complaints → (first last : Search) → CarFileError → Type 0
AddingFault read errors first last Memory = Unit {0}
AddingFault read errors first last (Write kind) = kind ≢ NoMemory
AddingFault read errors first last (Car error) =
    (stops : NoSection read error) × AddsBlocks (map link_of read.old.roots.items) stops.blocks first last
    × (invalid : ℕ) × Says errors read.old stops.blocks invalid

-- True if all blocks were read, the lines about the faults were written, and `found` has exactly
-- the missing links, without repeats. Its counts are those of `AddsCar`.
pub record Finds {R : Type 0} (read : Progress R) (errors : Complaints) (found : Missing) : Type 0 where
  pub blocks : List Block
  pub reads : ReadsAll read blocks
  pub exactly : (l : Link) → Decides (has l (map link_of found.missing.items)) (IsMissing (map link_of read.old.roots.items) blocks l)
  pub once : IsDistinct link_eq (map link_of found.missing.items)
  pub says : Says errors read.old blocks found.seen.invalid
  pub counted : found.seen.blocks ≡ length blocks
  pub unread : found.seen.unknown ≡ unknown_in blocks

-- True if the error reports a failed allocation, a failed writer, or that the next section wasn't
-- read (`NoSection`). In the last case the lines about the faults before it were written.
abbrev pub FindingFault : {R : Type 0} → Progress R → Complaints → CarFileError → Type 0
FindingFault read errors Memory = Unit {0}
FindingFault read errors (Write kind) = kind ≢ NoMemory
FindingFault read errors (Car error) =
    (stops : NoSection read error) × (invalid : ℕ) × Says errors read.old stops.blocks invalid
