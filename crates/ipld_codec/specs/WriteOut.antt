-- This file specifies the writing of bytes, piece by piece, to a writer that may fail.
use Rattle.std.specs.Prelude.{◌≡◌, ◌≢◌, ℕ, List, [], ◌++◌, Option, Some, None}
use Rattle.std.specs.Io.KnownBytes.{Appends}
use Rattle.std.specs.declared.io.ErrorKind.{ErrorKind}
use Rattle.std.specs.declared.io.ErrorKind.TheVariants.{Interrupted, OutOfMemory}
use Rattle.ipld_codec.specs.declared.raw.RawError.{RawError}
use Rattle.ipld_codec.specs.declared.raw.RawError.TheVariants.{Memory, Write}

-- the front of the bytes, up to `rest`. If the bytes of the writer are known, exactly this front
-- was appended to them.
pub record WritesFront (old new : Option (List ℕ)) (bytes rest : List ℕ) : Type 0 where
  pub front : List ℕ
  pub splits : bytes ≡ front ++ rest
  pub appends : Appends old new front

-- True if zero or more of the bytes were written, from the first on, and not all.
abbrev pub WritesPart : Option (List ℕ) → Option (List ℕ) → List ℕ → Type 0
WritesPart old new bytes = (rest : List ℕ) × (rest ≢ []) × WritesFront old new bytes rest

-- the error that a writer's error is reported as. An interrupted write is not an error, and is
-- tried again.
abbrev pub write_error : ErrorKind → Option RawError
write_error Interrupted = None
write_error OutOfMemory = Some Memory
write_error _ = Some Write
