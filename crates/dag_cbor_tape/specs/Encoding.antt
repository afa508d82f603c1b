-- The encoding of a tape, with its pairs in the order of the tape, or the first invalid entry.
use Rattle.std.specs.Prelude.{◌≡◌, ◌⊎◌, ℕ, suc, Bool, true, List, [], ◌∷◌, ◌++◌, length, Option, Some, None, Result, Ok, Err}
use Rattle.dag_cbor_blocks.specs.declared.tape.TapeEntry.{TapeEntry}
use Rattle.dag_cbor_tape.specs.declared.error.EncodeErrorKind.TheVariants as wrong
use Rattle.dag_cbor_tape.specs.declared.error.EncodeError.{EncodeError}
use Rattle.dag_cbor_tape.specs.declared.error.Fault.{Fault}
use Rattle.dag_cbor_tape.specs.declared.entry.EntryKind.{EntryKind}
use Rattle.dag_cbor_tape.specs.Errors.{fault, ◌>>=◌, at, error_of}
use Rattle.dag_cbor_tape.specs.Entry.{kind_of, written_of}
use Rattle.dag_cbor_tape.specs.Memory.{IsMemoryFault}
use Rattle.dag_cbor_tape.specs.Structure.{values, spans, IsInTurn}

-- the encoding of an entry of this kind, if the entries after it are those that it spans
abbrev pub encoded_as : List ℕ → Option EntryKind → TapeEntry → List TapeEntry → Result (List ℕ) Fault
encoded_as bytes None e es = Err (fault wrong.Kind (suc (length es)))
encoded_as bytes (Some k) e es = spans bytes k e es >>= λ done. at (suc (length es)) (written_of bytes k e)

-- the encoding of an entry, if the entries after it are those that it spans
unfoldable pub encoded : List ℕ → TapeEntry → List TapeEntry → Result (List ℕ) Fault
encoded bytes e es = encoded_as bytes (kind_of e.kind) e es

-- the encodings of entries, one after another, or the first error
abbrev pub all_encoded : List ℕ → List TapeEntry → Result (List ℕ) Fault
all_encoded bytes [] = Ok []
all_encoded bytes (e ∷ es) = encoded bytes e es >>= λ b. all_encoded bytes es >>= λ more. Ok (b ++ more)

-- the result, with the error of a tape of `len` entries
abbrev pub in_tape : {A : Type 0} → ℕ → Result A Fault → Result A EncodeError
in_tape len (Ok x) = Ok x
in_tape len (Err f) = Err (error_of len f)

-- The block that the entries encode, with the pairs of every map in their order, or the first
-- invalid entry. First it is checked that the entries are one value. Then every entry is checked,
-- in order. The entries that it spans are checked before its own length, value and content.
unfoldable pub block_of : List ℕ → List TapeEntry → Result (List ℕ) EncodeError
block_of bytes es = in_tape (length es) (values 1 es >>= λ done. all_encoded bytes es)

-- ---- the steps of the encoder

-- True if the bytes of the expected result were appended, or the error is the expected one or that
-- of a failed allocation.
abbrev pub Adds : {E : Type 0} → (E → Type 0) → Result (List ℕ) E → List ℕ → Result (Unit {0}) E → List ℕ → Type 0
Adds memory said before (Ok done) after = (b : List ℕ) × (said ≡ Ok b) × (after ≡ before ++ b)
Adds memory said before (Err e) after = memory e ⊎ (said ≡ Err e)

-- True if the encoding of the entry was appended, and the pairs of a map are in order if the result
-- is `true`. For an error, true if it is the entry's or that of a failed allocation.
abbrev pub AddsEntry : List ℕ → TapeEntry → List TapeEntry → List ℕ → Result Bool Fault → List ℕ → Type 0
AddsEntry bytes e es before (Ok in_turn) after =
    (b : List ℕ) × (encoded bytes e es ≡ Ok b) × (after ≡ before ++ b) × (in_turn ≡ true → (k : EntryKind) → kind_of e.kind ≡ Some k → IsInTurn bytes k e es)
AddsEntry bytes e es before (Err f) after = IsMemoryFault f ⊎ (encoded bytes e es ≡ Err f)
