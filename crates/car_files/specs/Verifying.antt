-- Verification that the blocks of a CAR match their CIDs.
use Rattle.std.specs.Prelude.{◌≡◌, ◌≢◌, ◌+◌, ℕ, List, [], ◌∷◌, ◌++◌, Some, None}
use Rattle.std.specs.declared.io.ErrorKind.TheVariants.{OutOfMemory as NoMemory}
use Rattle.std.specs.Io.KnownBytes.{Appends}
use Rattle.ipld_block.specs.Digest.{digest_by, IsVerifyError}
use Rattle.ipld_block.specs.declared.block_cid.error.VerifyError.TheVariants.{WrongDigest}
use Rattle.ipld_car.specs.Section.{Block}
use Rattle.car_files.specs.declared.error.CarFileError.{CarFileError}
use Rattle.car_files.specs.declared.error.CarFileError.TheVariants.{Memory, Write, Car}
use Rattle.car_files.specs.declared.places.SectionPlaces.{SectionPlaces}
use Rattle.car_files.specs.declared.verify.VerdictForm.{VerdictForm}
use Rattle.car_files.specs.declared.verify.Verified.{Verified}
use Rattle.car_files.specs.Places.{Adds, places_of}
use Rattle.car_files.specs.Streams.{Progress, Output}
use Rattle.car_files.specs.Reading.{ReadsAll, NoSection}
use Rattle.car_files.specs.Written.{Reports}

-- True if the numbers count the blocks with the digest of their CID, the blocks with another
-- digest, and the blocks whose hash function is not known (FIPS 180-4).
pub data Tallies : List Block → ℕ → ℕ → ℕ → Type 0 where
  nothing : Tallies [] 0 0 0
  right_one : (blocks : List Block) (block : Block) (right wrong unknown : ℕ) → Tallies blocks right wrong unknown
      → digest_by block.cid.code block.bytes ≡ Some block.cid.digest → Tallies (blocks ++ block ∷ []) (right + 1) wrong unknown
  wrong_one : (blocks : List Block) (block : Block) (right wrong unknown : ℕ) → Tallies blocks right wrong unknown
      → IsVerifyError block.cid block.bytes WrongDigest → Tallies (blocks ++ block ∷ []) right (wrong + 1) unknown
  unknown_one : (blocks : List Block) (block : Block) (right wrong unknown : ℕ) → Tallies blocks right wrong unknown
      → digest_by block.cid.code block.bytes ≡ None → Tallies (blocks ++ block ∷ []) right wrong (unknown + 1)

-- True if exactly the lines about these blocks were written in this form (`Reports`).
pub record Writes (form : VerdictForm) (begin : ℕ) (blocks : List Block) (output : Output) : Type 0 where
  pub text : List ℕ
  pub reports : Reports form begin blocks text
  pub appends : Appends output.before output.after text

-- True if all blocks were read, `seen` counts them by their digests (`Tallies`), the lines about
-- them were written (FIPS 180-4), and the places of their sections were added (`Adds`).
pub record Verifies {R : Type 0} (form : VerdictForm) (read : Progress R) (first last : SectionPlaces) (output : Output) (seen : Verified) : Type 0 where
  pub blocks : List Block
  pub reads : ReadsAll read blocks
  pub tallies : Tallies blocks seen.right seen.wrong seen.unknown
  pub adds : Adds first last (places_of read.old.offset blocks)
  pub writes : Writes form read.old.offset blocks output

-- True if the error reports a failed allocation, a failed writer, or that the next section wasn't
-- read (`NoSection`). In the last case the lines about the blocks before it were written.
abbrev pub VerifyingFault : {R : Type 0} → VerdictForm → Progress R → Output → CarFileError → Type 0
VerifyingFault form read output Memory = Unit {0}
VerifyingFault form read output (Write kind) = kind ≢ NoMemory
VerifyingFault form read output (Car error) =
    (stops : NoSection read error) × Writes form read.old.offset stops.blocks output
