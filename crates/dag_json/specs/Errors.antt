-- The names and the sentences of the errors.
use Rattle.std.specs.Prelude.{ℕ, List, ◌++◌, codes}
use Rattle.std.specs.Fmt.{decimal}
use Rattle.dag_json.specs.declared.error.DagJsonError.{DagJsonError}
use Rattle.dag_json.specs.declared.error.DagJsonError.TheVariants as tree
use Rattle.dag_json.specs.declared.read_error.ReadError.{ReadError}
use Rattle.dag_json.specs.declared.read_error.ReadErrorKind.{ReadErrorKind}
use Rattle.dag_json.specs.declared.tape.JsonTapeError.{JsonTapeError}
use Rattle.dag_json.specs.declared.tape.JsonTapeError.TheVariants as tape
use Rattle.dag_json.specs.declared.read_error.ReadErrorKind.TheVariants.{Memory, Utf8, Syntax, End, Float, IntegerRange, DuplicateKey, Link, Bytes, Reserved, TooDeep, TooMany, NotCanonical}

-- the name of a kind
abbrev pub kind_name : ReadErrorKind → List ℕ
kind_name Memory = codes "Memory"
kind_name Utf8 = codes "Utf8"
kind_name Syntax = codes "Syntax"
kind_name End = codes "End"
kind_name Float = codes "Float"
kind_name IntegerRange = codes "IntegerRange"
kind_name DuplicateKey = codes "DuplicateKey"
kind_name Link = codes "Link"
kind_name Bytes = codes "Bytes"
kind_name Reserved = codes "Reserved"
kind_name TooDeep = codes "TooDeep"
kind_name TooMany = codes "TooMany"
kind_name NotCanonical = codes "NotCanonical"

-- the sentence of a kind
abbrev pub kind_sentence : ReadErrorKind → List ℕ
kind_sentence Memory = codes "out of memory"
kind_sentence Utf8 = codes "the text is not valid UTF-8"
kind_sentence Syntax = codes "not valid JSON"
kind_sentence End = codes "unexpected end of the text"
kind_sentence Float = codes "a float, which trees cannot hold"
kind_sentence IntegerRange = codes "the integer is below -2^127 or above 2^127 - 1"
kind_sentence DuplicateKey = codes "duplicate key"
kind_sentence Link = codes "invalid link: not a CID in base32 (version 1) or base58btc (version 0)"
kind_sentence Bytes = codes "invalid bytes: not base64 without padding"
kind_sentence Reserved = codes "DAG-JSON reserves this object: it must be {\"/\":\"CID\"} or {\"/\":{\"bytes\":\"..\"}}"
kind_sentence TooDeep = codes "arrays and objects nest deeper than the limit"
kind_sentence TooMany = codes "more values than the limit"
kind_sentence NotCanonical = codes "not canonical DAG-JSON"

-- the sentence of a kind, for a text that may have floats
abbrev pub float_sentence : ReadErrorKind → List ℕ
float_sentence Float = codes "the number is too large for a 64-bit float"
float_sentence IntegerRange = codes "the integer is below -2^64 or above 2^64 - 1"
float_sentence kind = kind_sentence kind

-- the sentence of an error of reading, with the byte at which reading stopped
abbrev pub sentence_of : ReadError → List ℕ
sentence_of error = kind_sentence error.kind ++ (codes " at byte " ++ decimal error.offset)

-- the name of an error of writing or of the codec
abbrev pub write_name : DagJsonError → List ℕ
write_name tree.Memory = codes "Memory"
write_name tree.Read = codes "Read"
write_name tree.Write = codes "Write"
write_name (tree.Text error) = kind_name error.kind
write_name (tree.Reserved place) = codes "Reserved"

-- the sentence of such an error
abbrev pub write_sentence : DagJsonError → List ℕ
write_sentence tree.Memory = codes "out of memory"
write_sentence tree.Read = codes "the reader failed"
write_sentence tree.Write = codes "the writer failed"
write_sentence (tree.Text error) = sentence_of error
write_sentence (tree.Reserved place) = codes "DAG-JSON would read a link or bytes in place of the map that is value " ++ decimal place

-- the name of an error of reading a text as a tape
abbrev pub tape_name : JsonTapeError → List ℕ
tape_name (tape.Text error) = kind_name error.kind
tape_name tape.TooLong = codes "TooLong"

-- the sentence of such an error
abbrev pub tape_sentence : JsonTapeError → List ℕ
tape_sentence (tape.Text error) = float_sentence error.kind ++ (codes " at byte " ++ decimal error.offset)
tape_sentence tape.TooLong = codes "too long for a tape: a string of 2^32 bytes, or a list or a map of 2^32 entries"
