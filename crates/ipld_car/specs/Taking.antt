-- Bytes that are taken from a reader and put after those taken before. If the bytes of a reader are
-- not known (for example, those of a file), `Consumes` is always true.
use Rattle.std.specs.Prelude.{◌≡◌, ◌≢◌, ◌≤◌, ◌<◌, ◌⊎◌, ◌-◌, ℕ, Bool, MatchBool, MatchOption, MatchResult, List, [], ◌∷◌, ◌++◌, length, Option, Some, None, Result, Ok, Err}
use Rattle.std.specs.IoError.{error_kind}
use Rattle.std.specs.Io.KnownBytes.{Consumes}
use Rattle.std.specs.declared.io.Error.{Error}
use Rattle.std.specs.declared.io.ErrorKind.TheVariants.{Interrupted, OutOfMemory}
use Rattle.ipld_car.specs.declared.error.CarErrorKind.{CarErrorKind}
use Rattle.ipld_car.specs.declared.error.CarErrorKind.TheVariants.{Memory, Read}

-- The state of taking a section or a header. It begins at `begin`, in a file or a payload that ends
-- at `end`, and has at most `limit` bytes after its length. The record also has the bytes of the
-- reader before and after, if they are known, and the bytes taken.
pub record Take : Type 0 where
  pub limit : ℕ
  pub begin : ℕ
  pub end : ℕ
  pub before : Option (List ℕ)
  pub after : Option (List ℕ)
  pub taken : List ℕ

-- the number of bytes that may be taken
abbrev pub room_of : Take → ℕ
room_of take = take.end - take.begin

-- True if the kind of the error is neither `OutOfMemory` nor `Interrupted`. The first is reported
-- as a failed allocation, and after the second the read is tried again.
abbrev pub IsReadError : Error → Type 0
IsReadError error = (error_kind error ≢ OutOfMemory) × (error_kind error ≢ Interrupted)

-- True if the error is a failed allocation, or an error of the reader that fits `IsReadError`.
abbrev pub IsReaderError : CarErrorKind → Type 0
IsReaderError Memory = Unit {0}
IsReaderError (Read error) = IsReadError error
IsReaderError _ = ⊥

-- True if the error is a failed allocation or any error of a reader. The bytes do not cause it.
abbrev pub IsOfReader : CarErrorKind → Type 0
IsOfReader Memory = Unit {0}
IsOfReader (Read error) = Unit {0}
IsOfReader _ = ⊥

-- True if the bytes of the reader were taken to their end, or are not known.
abbrev pub IsReadOut : Option (List ℕ) → Option (List ℕ) → Type 0
IsReadOut None new = Unit {0}
IsReadOut (Some bytes) new = new ≡ Some []

-- True if the result is the number of bytes taken, at most `most`. It is nothing if the reader is
-- at its end. At the end and after an error no bytes were taken.
pub record TakesSome (old new : Option (List ℕ)) (before after : List ℕ) (most : ℕ) (result : Result (Option ℕ) CarErrorKind) : Type 0 where
  pub got : List ℕ
  pub behind : after ≡ before ++ got
  pub consumed : Consumes old new got
  pub outcome : MatchResult result
      (λ some. MatchOption some ((got ≡ []) × IsReadOut old new) (λ count. (length got ≡ count) × (count ≤ most)))
      (λ error. (got ≡ []) × IsReaderError error)

-- True if `count` bytes were taken (the result is true), or fewer because the reader is at its end
-- (false) or failed (an error).
pub record Fills (old new : Option (List ℕ)) (before after : List ℕ) (count : ℕ) (result : Result Bool CarErrorKind) : Type 0 where
  pub got : List ℕ
  pub behind : after ≡ before ++ got
  pub consumed : Consumes old new got
  pub outcome : MatchResult result
      (λ full. MatchBool full (length got ≡ count) ((length got < count) × IsReadOut old new))
      (λ error. (length got < count) × IsReaderError error)

-- True if the bytes taken fill the room, or the reader is at its end.
abbrev pub Ends : ℕ → Option (List ℕ) → Option (List ℕ) → List ℕ → Type 0
Ends room old new taken = (length taken ≡ room) ⊎ IsReadOut old new

-- True if one byte was taken, or no byte because the room is full, the reader is at its end, or it
-- failed. If the room is full, it did not fail.
abbrev pub TakesByte : ℕ → Option (List ℕ) → Option (List ℕ) → List ℕ → List ℕ → Result (Option ℕ) CarErrorKind → Type 0
TakesByte room old new before after (Ok (Some byte)) = (after ≡ before ++ byte ∷ []) × Consumes old new (byte ∷ []) × (byte < 256) × (length before ≢ room)
TakesByte room old new before after (Ok None) = (after ≡ before) × Consumes old new [] × Ends room old new before
TakesByte room old new before after (Err kind) = (after ≡ before) × Consumes old new [] × IsReaderError kind × (length before ≢ room)
