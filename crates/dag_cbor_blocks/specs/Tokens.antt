-- The tokens that a source over a block has left, and the results that it may return.
use Rattle.std.specs.Prelude.{◌≡◌, ◌⊎◌, ℕ, true, List, Option, Some, None, if◌then◌else◌}
use Rattle.ipld_tree.specs.Tree.{Tree}
use Rattle.dag_cbor_format.specs.declared.error.CborError.{CborError}
use Rattle.dag_cbor_format.specs.declared.error.CborError.TheVariants.{Memory}
use Rattle.dag_cbor_blocks.specs.declared.reader.Reader.{Reader}
use Rattle.dag_cbor_format.specs.ErrorKinds.{lies_in_bytes}
use Rattle.dag_cbor_format.specs.Encoding.{EncodesTree}
use Rattle.dag_cbor_format.specs.Reading.{Ran, stopped, ahead}
use Rattle.dag_cbor_format.specs.FirstError.{first_error}
use Rattle.dag_cbor_blocks.specs.Reader.{frames_of}

-- True if the bytes encode a tree, so that a source over them may end.
abbrev pub MayEnd : List ℕ → Type 0
MayEnd bytes = (t : Tree) × EncodesTree t bytes

-- True if the error is a failed allocation or the first error of the bytes.
abbrev pub MayFail : List ℕ → CborError → Type 0
MayFail bytes error = (error ≡ Memory) ⊎ ((lies_in_bytes error ≡ true) × (first_error bytes ≡ Some error))

-- the run that a reader has left, or only its error if it was rejected for the bytes
abbrev pub ran_of : Option CborError → Reader → Ran
ran_of None reader = ahead (frames_of reader) reader.position.rest.now
ran_of (Some error) reader = if lies_in_bytes error then stopped error else ahead (frames_of reader) reader.position.rest.now
