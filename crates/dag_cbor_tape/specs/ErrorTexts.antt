-- The names and the sentences of the errors.
use Rattle.std.specs.Prelude.{ℕ, List, ◌++◌, codes}
use Rattle.std.specs.Fmt.{decimal}
use Rattle.ipld_cid.specs.Error as cid
use Rattle.dag_cbor_tape.specs.declared.error.EncodeError.{EncodeError}
use Rattle.dag_cbor_tape.specs.declared.error.EncodeErrorKind.{EncodeErrorKind}
use Rattle.dag_cbor_tape.specs.declared.error.EncodeErrorKind.TheVariants.{Memory, Missing, LeftOver, Kind, Span, Fields, Content, Utf8, Cid, Float, DuplicateKey}

-- the name of a kind
abbrev pub kind_name : EncodeErrorKind → List ℕ
kind_name Memory = codes "Memory"
kind_name Missing = codes "Missing"
kind_name LeftOver = codes "LeftOver"
kind_name Kind = codes "Kind"
kind_name Span = codes "Span"
kind_name Fields = codes "Fields"
kind_name Content = codes "Content"
kind_name Utf8 = codes "Utf8"
kind_name (Cid error) = codes "Cid"
kind_name Float = codes "Float"
kind_name DuplicateKey = codes "DuplicateKey"

-- the sentence of a kind
abbrev pub kind_sentence : EncodeErrorKind → List ℕ
kind_sentence Memory = codes "out of memory"
kind_sentence Missing = codes "an entry is missing"
kind_sentence LeftOver = codes "an entry is left over"
kind_sentence Kind = codes "unexpected kind of entry"
kind_sentence Span = codes "the span of a list or a map is zero, or exceeds the tape"
kind_sentence Fields = codes "the entry's length or value is invalid for its kind"
kind_sentence Content = codes "the entry's content is not within the data"
kind_sentence Utf8 = codes "a string or a key is not UTF-8"
kind_sentence (Cid error) = codes "invalid link: not a CID: " ++ cid.sentence_of error
kind_sentence Float = codes "a float is NaN or an infinity"
kind_sentence DuplicateKey = codes "duplicate map key"

-- the sentence of an error, with the invalid entry
abbrev pub sentence_of : EncodeError → List ℕ
sentence_of error = kind_sentence error.kind ++ (codes " at entry " ++ decimal error.entry)
