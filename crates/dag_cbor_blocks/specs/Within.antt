-- The results of reading a block within limits.
use Rattle.std.specs.Prelude.{◌≡◌, ◌⊎◌, ◌≤◌, ◌-◌, ℕ, Bool, List, [], length, Option, Some, None, IfSome, Result, Ok, Err}
use Rattle.ipld_tree.specs.declared.limits.Limits.{Limits}
use Rattle.dag_cbor_format.specs.declared.error.CborError.TheVariants.{Memory, Read}
use Rattle.dag_cbor_format.specs.FirstError.{first_error}
use Rattle.dag_cbor_format.specs.Trace.{Event, trace_of, error_in, error_offset}
use Rattle.dag_cbor_blocks.specs.Counting.{too_deep, too_many, excess_of_block, limit_passed}
use Rattle.dag_cbor_blocks.specs.declared.block_error.BlockError.{BlockError}
use Rattle.dag_cbor_blocks.specs.declared.block_error.BlockErrorKind.{BlockErrorKind}
use Rattle.dag_cbor_blocks.specs.declared.block_error.BlockErrorKind.TheVariants.{Cbor, TooDeep, TooMany}
use Rattle.dag_cbor_blocks.specs.declared.options.ReadOptions.{ReadOptions}

-- True if reading stops for this reason: the limit that the bytes pass first, the first error of
-- the bytes if they pass no limit before it, or a failed allocation.
abbrev pub Stops : Limits → List ℕ → BlockErrorKind → Type 0
Stops limits block TooDeep = excess_of_block limits block ≡ Some too_deep
Stops limits block TooMany = excess_of_block limits block ≡ Some too_many
Stops limits block (Cbor error) = (error ≡ Memory) ⊎ ((first_error block ≡ Some error) × (excess_of_block limits block ≡ None))

-- True if reading stops for this reason at this offset, with floats or without. The reason is the
-- limit that the bytes pass first, their first error if they pass no limit before it, or a failed
-- allocation. The offset is that of the item that passes the limit, or that of the error. After a
-- failed allocation it is at most the length of the block.
abbrev pub StopsAt : Bool → Limits → List ℕ → BlockErrorKind → ℕ → Type 0
StopsAt floats limits block TooDeep offset = limit_passed floats limits block ≡ Some (too_deep, offset)
StopsAt floats limits block TooMany offset = limit_passed floats limits block ≡ Some (too_many, offset)
StopsAt floats limits block (Cbor error) offset =
    ((error ≡ Memory) × (offset ≤ length block))
    ⊎ ((error_in floats block ≡ Some error) × (limit_passed floats limits block ≡ None) × (offset ≡ error_offset floats block))

-- True if a visitor has taken all events of the block, and the bytes have no error and pass no
-- limit.
abbrev pub TakesWhole : {V A : Type 0} → Bool → (V → List Event → A) → V → Limits → List ℕ → V → Type 0
TakesWhole floats answer old limits block new =
    ((trace_of floats block).error ≡ None) × (answer new [] ≡ answer old (trace_of floats block).events) × (limit_passed floats limits block ≡ None)

-- True if a visitor has taken the whole block, or if the error is the reason why not, with `left`
-- bytes left at its offset.
abbrev pub VisitsParts : {V A : Type 0} → ReadOptions → (V → List Event → A) → V → List ℕ → Result (Unit {0}) BlockErrorKind → V → ℕ → Type 0
VisitsParts options answer old block (Ok done) new left = TakesWhole options.floats answer old options.limits block new
VisitsParts options answer old block (Err kind) new left = StopsAt options.floats options.limits block kind (length block - left)

-- True if a visitor has taken the whole block, or if the error is the reason why not, with its
-- offset.
abbrev pub EventsWithin : {V A : Type 0} → ReadOptions → (V → List Event → A) → V → List ℕ → Result (Unit {0}) BlockError → V → Type 0
EventsWithin options answer old block (Ok done) new = TakesWhole options.floats answer old options.limits block new
EventsWithin options answer old block (Err error) new = StopsAt options.floats options.limits block error.kind error.offset

-- True if the visitor that is returned has taken the whole block, or if the error is the reason why
-- not, with its offset.
abbrev pub ReturnsVisitor : {V A : Type 0} → Bool → (V → List Event → A) → V → Limits → List ℕ → Result V BlockError → Type 0
ReturnsVisitor floats answer old limits block (Ok new) = TakesWhole floats answer old limits block new
ReturnsVisitor floats answer old limits block (Err error) = StopsAt floats limits block error.kind error.offset

-- True if the value, seen by `view`, is the one found in the block, which passes no limit, or if
-- the error is the reason why the block is rejected, with its offset.
abbrev pub ReadsAs : {A B : Type 0} → Bool → Limits → List ℕ → Option B → (A → B) → Result A BlockError → Type 0
ReadsAs floats limits block found view (Ok x) = (found ≡ Some (view x)) × (limit_passed floats limits block ≡ None)
ReadsAs floats limits block found view (Err error) = StopsAt floats limits block error.kind error.offset

-- True if `P` is true of the value that is returned, or if an allocation failed.
abbrev pub UnlessOutOfMemory : {A : Type 0} → Result A BlockError → (A → Type 0) → Type 0
UnlessOutOfMemory (Ok x) P = P x
UnlessOutOfMemory (Err error) P = error.kind ≡ Cbor Memory

-- True if a limit was passed or an allocation failed.
abbrev pub IsLimit : BlockErrorKind → Type 0
IsLimit TooDeep = Unit {0}
IsLimit TooMany = Unit {0}
IsLimit (Cbor error) = error ≡ Memory

-- True if an allocation or the reader failed, or if this is the error of the block that the reader
-- returned. Also true if the reader did not return a block.
abbrev pub StopsOrFails : Limits → Option (List ℕ) → BlockErrorKind → Type 0
StopsOrFails limits block kind = (kind ≡ Cbor Memory) ⊎ ((kind ≡ Cbor Read) ⊎ IfSome block (λ bytes. Stops limits bytes kind))
