-- The results of looking for a block of a CAR.
use Rattle.std.specs.Prelude.{◌≡◌, Bool, true, false, List, [], ◌∷◌, ◌++◌, Result, Ok, Err}
use Rattle.ipld_cid.specs.Cid.{Link}
use Rattle.ipld_car.specs.Section.{Block}
use Rattle.car_files.specs.Has.{has}
use Rattle.car_files.specs.declared.error.CarFileError.{CarFileError}
use Rattle.car_files.specs.Missing.{cids_of}
use Rattle.car_files.specs.Reading.{Reads, ReadsAll, StopsAt}
use Rattle.car_files.specs.Streams.{Progress}

-- True if `block` has this CID and was read, with the blocks before it, which have other CIDs.
pub record FindsBlock {R : Type 0} (read : Progress R) (cid : Link) (block : Block) : Type 0 where
  pub others : List Block
  pub reads : Reads read (others ++ block ∷ [])
  pub found : block.cid ≡ cid
  pub first : has cid (cids_of others) ≡ false

-- True if all blocks were read, and their CIDs differ from this one.
pub record FindsNone {R : Type 0} (read : Progress R) (cid : Link) : Type 0 where
  pub blocks : List Block
  pub reads : ReadsAll read blocks
  pub none : has cid (cids_of blocks) ≡ false

-- True if the result is that of the search. `true`: `block` is the first block with the CID.
-- `false`: all blocks were read, and their CIDs differ from it. An error: reading stopped
-- (`StopsAt`).
abbrev pub LooksFor : {R : Type 0} → Progress R → Link → Block → Result Bool CarFileError → Type 0
LooksFor read cid block (Ok true) = FindsBlock read cid block
LooksFor read cid block (Ok false) = FindsNone read cid
LooksFor read cid block (Err error) = StopsAt read error
