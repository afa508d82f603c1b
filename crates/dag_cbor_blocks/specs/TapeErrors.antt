-- The names and the sentences of the errors of listing a block's values.
use Rattle.std.specs.Prelude.{ℕ, List, codes}
use Rattle.dag_cbor_blocks.specs.declared.tape.TapeError.{TapeError}
use Rattle.dag_cbor_blocks.specs.declared.tape.TapeError.TheVariants.{Block, TooLong}
use Rattle.dag_cbor_blocks.specs.BlockErrors.{kind_name, sentence_of}

-- the name of an error
abbrev pub tape_name : TapeError → List ℕ
tape_name (Block error) = kind_name error.kind
tape_name TooLong = codes "TooLong"

-- the sentence that describes an error
abbrev pub tape_sentence : TapeError → List ℕ
tape_sentence (Block error) = sentence_of error
tape_sentence TooLong = codes "too long for a tape: a string of 2^32 bytes, or a list or a map of 2^32 entries"
