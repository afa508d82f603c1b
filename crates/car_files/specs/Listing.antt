-- The results of listing the blocks of a CAR.
use Rattle.std.specs.Prelude.{◌≡◌, ◌≢◌, ℕ, Bool, List, [], ◌++◌, length}
use Rattle.std.specs.declared.io.ErrorKind.TheVariants.{OutOfMemory as NoMemory}
use Rattle.std.specs.Io.KnownBytes.{Appends}
use Rattle.ipld_car.specs.declared.reader.CarReader.{CarReader}
use Rattle.ipld_car.specs.Section.{Block}
use Rattle.car_files.specs.declared.error.CarFileError.{CarFileError}
use Rattle.car_files.specs.declared.error.CarFileError.TheVariants.{Write, Memory, Car}
use Rattle.car_files.specs.declared.list.Form.{Form}
use Rattle.car_files.specs.declared.list.Listed.{Listed}
use Rattle.car_files.specs.Streams.{Progress, Output, Complaints}
use Rattle.car_files.specs.Reading.{ReadsAll, NoSection}
use Rattle.car_files.specs.Written.{Known, IsKnownOf, IsSaid, is_invalid, linked_text, AreListed, begun_text, end_text}

-- True if the list of these blocks was written, with the text before it and the bytes that follow
-- it. The lines about invalid blocks were written too, except for `Json` (`IsSaid`). `wrong` counts
-- the blocks that are invalid for their codec.
pub record ListsBlocks {R : Type 0} (form : Form) (output : Output) (errors : Complaints) (car : CarReader R) (blocks : List Block)
    (wrong : ℕ) (behind : List ℕ) : Type 0 where
  pub text : List ℕ
  pub lines : List ℕ
  pub listed : AreListed form errors.label car.offset blocks text lines wrong
  pub written : Appends output.before output.after (begun_text form car ++ text ++ behind)
  pub complained : Appends errors.before errors.after lines

-- True if all blocks were read, and exactly their list in this form and the lines about invalid
-- blocks (`IsSaid`) were written. `listed` counts the blocks and the invalid ones.
pub record Lists {R : Type 0} (form : Form) (read : Progress R) (output : Output) (errors : Complaints) (listed : Listed) : Type 0 where
  pub blocks : List Block
  pub reads : ReadsAll read blocks
  pub counted : listed.blocks ≡ length blocks
  pub lists : ListsBlocks form output errors read.old blocks listed.invalid (end_text form)

-- True if the error reports a failed allocation, a failed writer, or that the next section wasn't
-- read (`NoSection`). In the last case the blocks before it were listed, without the end of the
-- list.
abbrev pub ListingFault : {R : Type 0} → Form → Progress R → Output → Complaints → CarFileError → Type 0
ListingFault form read output errors Memory = Unit {0}
ListingFault form read output errors (Write kind) = kind ≢ NoMemory
ListingFault form read output errors (Car error) =
    (stops : NoSection read error) × (wrong : ℕ) × ListsBlocks form output errors read.old stops.blocks wrong []

-- True if the block was listed in this form, with the line about it (`IsSaid`). `wrong` is whether
-- the block is invalid for its codec.
pub record ListsBlock (form : Form) (output : Output) (errors : Complaints) (begin : ℕ) (block : Block) (wrong : Bool) : Type 0 where
  pub links : Known
  pub is_known : IsKnownOf block links
  pub written : Appends output.before output.after (linked_text form begin block links)
  pub line : List ℕ
  pub is_said : IsSaid form errors.label begin block.cid links line
  pub complained : Appends errors.before errors.after line
  pub is_wrong : wrong ≡ is_invalid links
