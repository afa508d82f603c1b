-- The reading of a type from the tree that a block encodes, and the errors of reading it.
use Rattle.std.specs.Prelude.{◌≡◌, ◌≢◌, ◌≤◌, ◌-◌, ◌^◌, ℕ, false, List, length, Option, None, IsSomeAnd, option_and_then}
use Rattle.ipld_tree.specs.Tree.{Tree}
use Rattle.ipld_tree.specs.Limits.{Within}
use Rattle.ipld_tree.specs.declared.limits.Limits.{Limits}
use Rattle.dag_cbor_format.specs.Block.{tree_of_block}
use Rattle.dag_cbor_format.specs.declared.error.CborError.TheVariants as cbor
use Rattle.dag_cbor_blocks.specs.Within.{Stops, StopsAt}
use Rattle.dag_cbor_blocks.specs.declared.block_error.BlockErrorKind.TheVariants.{Cbor}
use Rattle.ipld_ser.specs.declared.error.SerdeError.{SerdeError}
use Rattle.ipld_ser.specs.declared.error.SerdeError.TheVariants as serde
use Rattle.dag_cbor_serde.specs.declared.error.DecodeError.{DecodeError}
use Rattle.dag_cbor_serde.specs.declared.error.DecodeError.TheVariants.{Memory, Read, Block, Value}

-- The reading of a type from the tree that a block encodes, or nothing if the bytes are not a block
-- or the type doesn't read its tree.
abbrev pub reads_block : {C : Type 0} → (Tree → Option C) → List ℕ → Option C
reads_block reads block = option_and_then reads (tree_of_block block)

-- True if the bytes are a block whose tree is within the limits.
abbrev pub BlockWithin : Limits → List ℕ → Type 0
BlockWithin limits block = IsSomeAnd (tree_of_block block) (Within limits)

-- The limits of 1,024 levels, and 2^64 - 1 values.
abbrev pub default_limits : Limits
default_limits = record { levels = 1024; values = 2 ^ 64 - 1 }

-- True if the error is right about the block. `Block`: the bytes are not a block or not within the
-- limits, and this is the first error and its byte. `Value`: they are a block within the limits,
-- the type doesn't read its tree, and the error is one that the type states, other than `Memory`.
-- `Memory` and `Read` state nothing about the block.
abbrev pub NotRead : {C : Type 0} → (Tree → Option C) → (Tree → SerdeError → Type 0) → Limits → List ℕ → DecodeError → Type 0
NotRead reads why limits block Memory = Unit {0}
NotRead reads why limits block Read = Unit {0}
NotRead reads why limits block (Block error) =
    (BlockWithin limits block → ⊥) × Stops limits block error.kind × StopsAt false limits block error.kind error.offset × (error.kind ≢ Cbor cbor.Memory) × (error.offset ≤ length block)
NotRead reads why limits block (Value error) = IsSomeAnd (tree_of_block block) (λ t. Within limits t × (reads t ≡ None) × why t error) × (error ≢ serde.Memory)
