-- This file specifies the results of the calls of a codec. A codec converts a value of the IPLD
-- data model to a block of bytes and back (IPLD, "Codecs").
use Rattle.std.specs.Prelude.{◌≡◌, ◌⊎◌, ℕ, List, [], Option, Some, None}
use Rattle.std.specs.Io.KnownBytes.{Appends}

-- a cause of an error outside the value and the block: a failed allocation, reader or writer
pub data Failure : Type 0 where
  memory : Failure
  reading : Failure
  writing : Failure

-- True if the failure is a failed allocation or equals `end`.
abbrev pub MemoryOr : Failure → Failure → Type 0
MemoryOr end failure = (failure ≡ memory) ⊎ (failure ≡ end)

-- True if `written` is some bytes, and exactly these were appended to the bytes of the writer, if
-- those are known.
abbrev pub Writes : Option (List ℕ) → Option (List ℕ) → Option (List ℕ) → Type 0
Writes written old new = (bytes : List ℕ) × (written ≡ Some bytes) × Appends old new bytes

-- True if the bytes of the reader were read to their end, or were unknown.
abbrev pub IsReadOut : Option (List ℕ) → Option (List ℕ) → Type 0
IsReadOut None new = Unit {0}
IsReadOut (Some bytes) new = new ≡ Some []
