-- The errors of a codec that are not errors of a value or of bytes.
use Rattle.std.specs.Prelude.{◌≡◌, ◌⊎◌, ℕ, false, List, Option, Some, None, Result, Ok, Err, IfSome}
use Rattle.ipld_codec.specs.Codec.{Failure, memory, reading, writing}
use Rattle.ipld_tree.specs.declared.limits.Limits.{Limits}
use Rattle.dag_cbor_blocks.specs.Within.{StopsAt}
use Rattle.dag_cbor_blocks.specs.declared.block_error.BlockError.{BlockError}
use Rattle.dag_cbor_blocks.specs.declared.block_error.BlockErrorKind.TheVariants.{Cbor}
use Rattle.dag_cbor_format.specs.declared.error.CborError.{CborError}
use Rattle.dag_cbor_format.specs.declared.error.CborError.TheVariants.{Memory, Read, Write, End}
use Rattle.ipld_tokens.specs.declared.error.TokenError.{TokenError}
use Rattle.ipld_tokens.specs.declared.error.TokenError.TheVariants as read

-- the failure that an error reports, or nothing if the error is in the value or in the bytes
abbrev pub cbor_failure : CborError → Option Failure
cbor_failure Memory = Some memory
cbor_failure Read = Some reading
cbor_failure Write = Some writing
cbor_failure _ = None

-- True if the reader failed, reported at byte 0, or if reading the block that it returned stops
-- with this error. Also true if the reader did not return a block.
abbrev pub StopsAtOrFails : Limits → Option (List ℕ) → BlockError → Type 0
StopsAtOrFails limits block error = ((error.kind ≡ Cbor Read) × (error.offset ≡ 0)) ⊎ IfSome block (λ bytes. StopsAt false limits bytes error.kind error.offset)

-- the error of a codec over a source of tokens: the source's own error, or `Memory`. All others are
-- `End`, and a source over a block does not cause them.
abbrev pub error_of : TokenError CborError → CborError
error_of read.Memory = Memory
error_of (read.Source fault) = fault
error_of _ = End

-- True if two readers of one block return the same contents or the same error, or if an allocation
-- failed in one of them.
abbrev pub AnswersAlike : {A B : Type 0} → (A → B) → Result A CborError → Result A CborError → Type 0
AnswersAlike contents (Ok value) (Ok other) = contents value ≡ contents other
AnswersAlike contents (Ok value) (Err error) = error ≡ Memory
AnswersAlike contents (Err error) (Ok value) = error ≡ Memory
AnswersAlike contents (Err error) (Err other) = (error ≡ Memory) ⊎ ((other ≡ Memory) ⊎ (error ≡ other))
