-- The name and the sentence of every error, and whether it reports that the bytes are not a block.
use Rattle.std.specs.Prelude.{ℕ, Bool, true, false, List, ◌++◌, codes, if◌then◌else◌}
use Rattle.ipld_cid.specs.Error as cid
use Rattle.dag_cbor_format.specs.declared.error.CborError.{CborError}
use Rattle.dag_cbor_format.specs.declared.error.CborError.TheVariants.{Memory, Read, Write, End, NotShortest, Float, Unsupported, Utf8, KeyNotText, DuplicateKey, LinkBytes, Cid, TrailingBytes, IntegerRange}

-- the printed name of an error
abbrev pub name_of : CborError → List ℕ
name_of Memory = codes "Memory"
name_of Read = codes "Read"
name_of Write = codes "Write"
name_of End = codes "End"
name_of NotShortest = codes "NotShortest"
name_of Float = codes "Float"
name_of Unsupported = codes "Unsupported"
name_of Utf8 = codes "Utf8"
name_of KeyNotText = codes "KeyNotText"
name_of DuplicateKey = codes "DuplicateKey"
name_of LinkBytes = codes "LinkBytes"
name_of (Cid error) = codes "Cid"
name_of TrailingBytes = codes "TrailingBytes"
name_of IntegerRange = codes "IntegerRange"

-- the sentence that describes an error
abbrev pub sentence_of : CborError → List ℕ
sentence_of Memory = codes "out of memory"
sentence_of Read = codes "the reader failed"
sentence_of Write = codes "the writer failed"
sentence_of End = codes "the bytes end before the item does"
sentence_of NotShortest = codes "an argument is not in its shortest form"
sentence_of Float = codes "a float that cannot be read: trees hold none, and tapes hold finite 64-bit floats"
sentence_of Unsupported = codes "a simple value, a tag or an indefinite length that DAG-CBOR does not allow"
sentence_of Utf8 = codes "a text string is not UTF-8"
sentence_of KeyNotText = codes "a map key is not a text string"
sentence_of DuplicateKey = codes "duplicate map key"
sentence_of LinkBytes = codes "invalid link: a byte string that starts with 0x00 must follow tag 42"
sentence_of (Cid error) = codes "invalid link: not a CID: " ++ cid.sentence_of error
sentence_of TrailingBytes = codes "trailing bytes"
sentence_of IntegerRange = codes "an integer is below -2^64 or above 2^64 - 1"

-- the printed form of an error: its sentence if `#` is among the options (`{error:#}`), and its
-- name otherwise
abbrev pub printed : Bool → CborError → List ℕ
printed alternate error = if alternate then sentence_of error else name_of error

-- Whether the error reports that the bytes are not a block.
abbrev pub lies_in_bytes : CborError → Bool
lies_in_bytes Memory = false
lies_in_bytes Read = false
lies_in_bytes Write = false
lies_in_bytes End = true
lies_in_bytes NotShortest = true
lies_in_bytes Float = true
lies_in_bytes Unsupported = true
lies_in_bytes Utf8 = true
lies_in_bytes KeyNotText = true
lies_in_bytes DuplicateKey = true
lies_in_bytes LinkBytes = true
lies_in_bytes (Cid error) = true
lies_in_bytes TrailingBytes = true
lies_in_bytes IntegerRange = false
