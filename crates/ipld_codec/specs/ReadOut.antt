-- This file specifies the reading of known bytes to their end, buffer by buffer.
use Rattle.std.specs.Prelude.{◌≡◌, ℕ, Bool, true, false, List, [], ◌++◌, Option, Some, None}
use Rattle.std.specs.Io.KnownBytes.{Consumes}
use Rattle.std.specs.declared.io.ErrorKind.{ErrorKind}
use Rattle.std.specs.declared.io.ErrorKind.TheVariants.{Interrupted, OutOfMemory}
use Rattle.ipld_codec.specs.declared.raw.RawError.{RawError}
use Rattle.ipld_codec.specs.declared.raw.RawError.TheVariants.{Memory, Read}

-- True if `got` are the bytes of the reader, read to their end, or the bytes were unknown.
abbrev pub IsRead : Option (List ℕ) → Option (List ℕ) → List ℕ → Type 0
IsRead None new got = Unit {0}
IsRead (Some bytes) new got = (got ≡ bytes) × (new ≡ Some [])

-- True if `at_end` is false and a buffer was moved from the reader's bytes to the end of `before`,
-- or `at_end` is true and no bytes were left. Always true if the bytes are unknown.
abbrev pub TakesBuffer : Bool → Option (List ℕ) → Option (List ℕ) → List ℕ → List ℕ → Type 0
TakesBuffer at_end None new before after = Unit {0}
TakesBuffer true (Some bytes) new before after = (bytes ≡ []) × (new ≡ Some []) × (after ≡ before)
TakesBuffer false (Some bytes) new before after =
    (buffer rest : List ℕ) × (bytes ≡ buffer ++ rest) × (new ≡ Some rest) × (after ≡ before ++ buffer)

-- True if zero or more bytes were read from the front of the known bytes, or these were unknown.
abbrev pub LosesFront : Option (List ℕ) → Option (List ℕ) → Type 0
LosesFront old new = (got : List ℕ) × Consumes old new got

-- the error that a reader's error is reported as. An interrupted read is not an error, and is tried
-- again.
abbrev pub read_error : ErrorKind → Option RawError
read_error Interrupted = None
read_error OutOfMemory = Some Memory
read_error _ = Some Read
