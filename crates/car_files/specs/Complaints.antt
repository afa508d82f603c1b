-- The lines about the faults in a CAR.
use Rattle.std.specs.Prelude.{◌≡◌, ◌⊎◌, ◌+◌, ◌==◌, ℕ, Bool, true, not, List, [], ◌∷◌, ◌++◌, length, map}
use Rattle.std.specs.Int.{from_bool}
use Rattle.std.specs.Io.KnownBytes.{Appends}
use Rattle.ipld_cid.specs.Cid.{Link}
use Rattle.ipld_cid.specs.LinkOf.{link_of}
use Rattle.ipld_block.specs.declared.error.InvalidBlock.{InvalidBlock}
use Rattle.ipld_car.specs.declared.reader.CarReader.{CarReader}
use Rattle.ipld_car.specs.Section.{Block}
use Rattle.car_files.specs.Blocks.{BlockFault, IsBlockOf, links_in}
use Rattle.car_files.specs.Carried.{carrier, CarriesFaults}
use Rattle.car_files.specs.declared.adding.CarriedFault.{CarriedFault}
use Rattle.car_files.specs.Streams.{Complaints}
use Rattle.car_files.specs.Written.{IsComplaint, sections_len}

-- True if a line about this CID was written (`IsComplaint`).
pub record Complains (errors : Complaints) (begin : ℕ) (cid : Link) : Type 0 where
  pub line : List ℕ
  pub is_line : IsComplaint errors.label begin cid line
  pub complained : Appends errors.before errors.after line

-- True if `lines` has one line about each of these CIDs, in their order.
abbrev pub AreComplaints : List ℕ → ℕ → List Link → List ℕ → Type 0
AreComplaints label begin [] lines = lines ≡ []
AreComplaints label begin (cid ∷ cids) lines = (line rest : List ℕ) × (lines ≡ line ++ rest) × IsComplaint label begin cid line × AreComplaints label begin cids rest

-- True if one line about each of these CIDs was written, in their order.
pub record ComplainsOfEach (errors : Complaints) (begin : ℕ) (cids : List Link) : Type 0 where
  pub lines : List ℕ
  pub are_lines : AreComplaints errors.label begin cids lines
  pub complained : Appends errors.before errors.after lines

-- True if `lines` are the lines about the CIDs that are reached from the links `from` and carry
-- bytes that are not a block. `invalid` is whether there are such CIDs. The lines have the offset
-- `begin`.
pub record SaidOfLinks (label : List ℕ) (begin : ℕ) (from : List Link) (lines : List ℕ) (invalid : Bool) : Type 0 where
  pub faults : List CarriedFault
  pub carried : CarriesFaults from faults
  pub are_lines : AreComplaints label begin (map carrier faults) lines
  pub is_invalid : invalid ≡ not (length faults == 0)

-- True if `lines` are the lines about a block whose section begins at `begin`. If the block is
-- invalid for its codec, it is one line about the block. Otherwise they are the lines about its
-- links (`SaidOfLinks`). `invalid` is whether anything is at fault.
abbrev pub SaidOfBlock : List ℕ → ℕ → Block → List ℕ → Bool → Type 0
SaidOfBlock label begin block lines invalid =
    (((why : InvalidBlock) × BlockFault block.cid.codec block.bytes why) × IsComplaint label begin block.cid lines × (invalid ≡ true))
    ⊎ (IsBlockOf block.cid.codec block.bytes × SaidOfLinks label begin (links_in block.cid.codec block.bytes) lines invalid)

-- True if these are the lines about the faults, first those of the roots and then those of the
-- blocks, in order. Every block that is invalid for its codec has a line. So has every CID that is
-- reached from the roots or a block's links and carries bytes that are not a block. The number
-- counts the blocks at fault, and one more if the roots are at fault. The first section begins at
-- the byte `begin`.
pub data IsSaidOf (label : List ℕ) (roots : List Link) (begin : ℕ) : List Block → List ℕ → ℕ → Type 0 where
  of_roots : (lines : List ℕ) (invalid : Bool) → SaidOfLinks label 0 roots lines invalid → IsSaidOf label roots begin [] lines (from_bool invalid)
  of_block : (blocks : List Block) (block : Block) (text lines : List ℕ) (count : ℕ) (invalid : Bool) → IsSaidOf label roots begin blocks text count
      → SaidOfBlock label (begin + sections_len blocks) block lines invalid
      → IsSaidOf label roots begin (blocks ++ block ∷ []) (text ++ lines) (count + from_bool invalid)

-- True if the lines about these links were written (`SaidOfLinks`).
pub record SaysOfLinks (errors : Complaints) (begin : ℕ) (from : List Link) (invalid : Bool) : Type 0 where
  pub lines : List ℕ
  pub said : SaidOfLinks errors.label begin from lines invalid
  pub complained : Appends errors.before errors.after lines

-- True if the lines about the block were written (`SaidOfBlock`).
pub record SaysOfBlock (errors : Complaints) (begin : ℕ) (block : Block) (invalid : Bool) : Type 0 where
  pub lines : List ℕ
  pub said : SaidOfBlock errors.label begin block lines invalid
  pub complained : Appends errors.before errors.after lines

-- True if the lines about the faults in the roots and the blocks were written (`IsSaidOf`).
pub record Says {R : Type 0} (errors : Complaints) (car : CarReader R) (blocks : List Block) (invalid : ℕ) : Type 0 where
  pub lines : List ℕ
  pub said : IsSaidOf errors.label (map link_of car.roots.items) car.offset blocks lines invalid
  pub complained : Appends errors.before errors.after lines
