-- The blocks of a CAR that were read, and the reasons why reading stopped.
use Rattle.std.specs.Prelude.{◌≡◌, ◌≢◌, ◌+◌, ◌-◌, ◌⊎◌, ℕ, Bool, true, false, List, [], ◌∷◌, ◌++◌, length, Result, Ok, Err}
use Rattle.std.specs.Io.KnownBytes.{Consumes}
use Rattle.std.specs.declared.io.ErrorKind.{ErrorKind}
use Rattle.std.specs.declared.io.ErrorKind.TheVariants.{OutOfMemory as NoMemory}
use Rattle.ipld_car.specs.declared.error.CarError.{CarError}
use Rattle.ipld_car.specs.declared.error.CarErrorKind.TheVariants.{Memory as OutOfMemory}
use Rattle.ipld_car.specs.Fails.{Fails}
use Rattle.ipld_car.specs.Padding.{IsPadded}
use Rattle.ipld_car.specs.Position.{Moves}
use Rattle.ipld_car.specs.Reading.{SectionFault}
use Rattle.ipld_car.specs.Section.{Block, AreSections}
use Rattle.ipld_car.specs.Taking.{Ends}
use Rattle.car_files.specs.Streams.{Progress}
use Rattle.car_files.specs.declared.error.CarFileError.{CarFileError}
use Rattle.car_files.specs.declared.error.CarFileError.TheVariants.{Memory, Write, Car}

-- True if exactly the sections of these blocks were taken, one after the other (CARv1, "Data").
pub record Reads {R : Type 0} (read : Progress R) (blocks : List Block) : Type 0 where
  pub bytes : List ℕ
  pub consumed : Consumes read.before read.after bytes
  pub sections : AreSections bytes blocks
  pub moves : Moves read.old read.new (length bytes)

-- True if the sections of these blocks were taken, and no section follows them: the reader is at its
-- end, or the payload is, or zeros that are allowed come next.
pub record ReadsAll {R : Type 0} (read : Progress R) (blocks : List Block) : Type 0 where
  pub reads : Reads read blocks
  pub ends : Ends (read.new.end - read.new.offset) read.before read.after [] ⊎ IsPadded read.old.zero_padding read.before read.after

-- True if the section after those of some blocks wasn't read because the bytes are not a section
-- or the reader failed. The error has the reason and the offset.
pub record NoSection {R : Type 0} (read : Progress R) (error : CarError) : Type 0 where
  pub blocks : List Block
  pub front : List ℕ
  pub taken : List ℕ
  pub consumed : Consumes read.before read.after (front ++ taken)
  pub sections : AreSections front blocks
  pub moves : Moves read.old read.new (length (front ++ taken))
  pub fails : Fails (read.old.offset + length front)
      (SectionFault read.old.limit (read.old.end - (read.old.offset + length front)) read.before read.after taken) error

-- True if the error reports a failed allocation, or that the next section wasn't read
-- (`NoSection`).
abbrev pub StopsAt : {R : Type 0} → Progress R → CarFileError → Type 0
StopsAt read Memory = Unit {0}
StopsAt read (Car error) = NoSection read error
StopsAt read _ = ⊥

-- True if the error reports a failed allocation, or that the next section wasn't read and that no
-- block was read before it.
abbrev pub StopsNext : {R : Type 0} → Progress R → CarFileError → Type 0
StopsNext read Memory = Unit {0}
StopsNext read (Car error) = (stops : NoSection read error) × (stops.blocks ≡ [])
StopsNext read _ = ⊥

-- True if the result is that of reading the next section: `true` with its block, `false` at the
-- end, or an error (`StopsNext`).
abbrev pub ReadsNext : {R : Type 0} → Progress R → Block → Result Bool CarFileError → Type 0
ReadsNext read block (Ok true) = Reads read (block ∷ [])
ReadsNext read block (Ok false) = ReadsAll read []
ReadsNext read block (Err error) = StopsNext read error

-- True if the error of the reader is returned: as `Memory` if it is a failed allocation, and
-- otherwise unchanged.
abbrev pub IsErrorOf : CarError → CarFileError → Type 0
IsErrorOf error Memory = error.kind ≡ OutOfMemory
IsErrorOf error (Car same) = (same ≡ error) × (error.kind ≢ OutOfMemory)
IsErrorOf error _ = ⊥

-- True if the writer or an allocation failed. A writer that is out of memory is a failed
-- allocation.
abbrev pub IsWritingError : CarFileError → Type 0
IsWritingError Memory = Unit {0}
IsWritingError (Write kind) = kind ≢ NoMemory
IsWritingError _ = ⊥

-- True if the error of a writer is returned: as `Memory` if the writer is out of memory, and
-- otherwise with its kind.
abbrev pub IsErrorOfWriter : ErrorKind → CarFileError → Type 0
IsErrorOfWriter kind Memory = kind ≡ NoMemory
IsErrorOfWriter kind (Write same) = (same ≡ kind) × (kind ≢ NoMemory)
IsErrorOfWriter kind _ = ⊥
