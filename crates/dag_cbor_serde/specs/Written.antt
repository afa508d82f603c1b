-- The block that a value is written as, the canonical DAG-CBOR encoding of its image, and the
-- errors of writing it.
use Rattle.std.specs.Prelude.{◌≡◌, ◌≢◌, ℕ, List, false, Option, None, IsSomeAnd, option_and_then}
use Rattle.ipld_tree.specs.Tree.{Tree}
use Rattle.dag_cbor_format.specs.Canonical.{canonical}
use Rattle.dag_cbor_format.specs.Range.{in_range}
use Rattle.ipld_ser.specs.declared.error.SerdeError.{SerdeError}
use Rattle.ipld_ser.specs.declared.error.SerdeError.TheVariants as serde
use Rattle.dag_cbor_serde.specs.declared.error.EncodeError.{EncodeError}
use Rattle.dag_cbor_serde.specs.declared.error.EncodeError.TheVariants.{Memory, Value, IntegerRange, Write}

-- The canonical encoding of a value's image, or nothing if the value has no image or the image has
-- no encoding (RFC 8949, section 4.2.3; the DAG-CBOR specification, "Strictness").
abbrev pub block_of_image : Option Tree → Option (List ℕ)
block_of_image image = option_and_then canonical image

-- True if the error is right about the image. `Value`: the value has no image, and the error is one
-- that the type states, other than `Memory`. `IntegerRange`: an integer in the image is below -2^64
-- or above 2^64 - 1. `Memory` and `Write` state nothing about the image.
abbrev pub NotWritten : Option Tree → (SerdeError → Type 0) → EncodeError → Type 0
NotWritten image why Memory = Unit {0}
NotWritten image why (Value error) = (image ≡ None) × why error × (error ≢ serde.Memory)
NotWritten image why IntegerRange = IsSomeAnd image (λ t. in_range t ≡ false)
NotWritten image why Write = Unit {0}
