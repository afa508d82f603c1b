-- The names and the sentences of the errors of a block that is read within limits.
use Rattle.std.specs.Prelude.{ℕ, List, ◌++◌, codes}
use Rattle.std.specs.Fmt.{decimal}
use Rattle.dag_cbor_format.specs.ErrorKinds as cbor
use Rattle.dag_cbor_blocks.specs.declared.block_error.BlockError.{BlockError}
use Rattle.dag_cbor_blocks.specs.declared.block_error.BlockErrorKind.{BlockErrorKind}
use Rattle.dag_cbor_blocks.specs.declared.block_error.BlockErrorKind.TheVariants.{Cbor, TooDeep, TooMany}

-- the name of a kind of error
abbrev pub kind_name : BlockErrorKind → List ℕ
kind_name (Cbor error) = cbor.name_of error
kind_name TooDeep = codes "TooDeep"
kind_name TooMany = codes "TooMany"

-- the sentence that describes a kind of error
abbrev pub kind_sentence : BlockErrorKind → List ℕ
kind_sentence (Cbor error) = cbor.sentence_of error
kind_sentence TooDeep = codes "lists and maps nest deeper than the limit"
kind_sentence TooMany = codes "more values than the limit"

-- the sentence that describes an error, with the offset at which reading stopped
abbrev pub sentence_of : BlockError → List ℕ
sentence_of error = kind_sentence error.kind ++ (codes " at byte " ++ decimal error.offset)
