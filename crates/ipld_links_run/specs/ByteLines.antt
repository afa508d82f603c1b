-- The meaning of a line for the words `cid` and `cbor`: hexadecimal digits whose bytes encode a CID
-- or a block of DAG-CBOR.
use Rattle.std.specs.Prelude.{ℕ, List, [], ◌∷◌, map, Option, Some, None, Result, Ok, Err}
use Rattle.std.specs.Result.{result_ok}
use Rattle.hex.specs.Hex.{decode_of}
use Rattle.ipld_cid.specs.declared.error.CidError.{CidError}
use Rattle.ipld_cid.specs.Cid.{Link}
use Rattle.ipld_cid.specs.Bytes.{read_cid}
use Rattle.ipld_cid.specs.Error as cid
use Rattle.dag_cbor_format.specs.declared.error.CborError.{CborError}
use Rattle.dag_cbor_format.specs.ErrorKinds as cbor
use Rattle.dag_cbor_format.specs.FirstError.{first_error}
use Rattle.dag_cbor_format.specs.Found.{links_found}
use Rattle.ipld_links_run.specs.Lines.{lines_of}

-- the reading of a line: the links of its bytes, the name of the error of invalid bytes, or a line
-- that is not understood
pub data LineReading : Type 0 where
  links : List Link → LineReading
  rejected : List ℕ → LineReading
  not_understood : LineReading

-- The bytes whose digits a line is, or nothing. A line is understood if it is an even number of
-- hexadecimal digits of either case, at least two.
unfoldable pub bytes_of_line : List ℕ → Option (List ℕ)
bytes_of_line [] = None
bytes_of_line (digit ∷ rest) = result_ok (decode_of (digit ∷ rest))

-- the reading of a CID, which is its own link, or of its error
abbrev pub of_cid : Result Link CidError → LineReading
of_cid (Ok link) = links (link ∷ [])
of_cid (Err error) = rejected (cid.name_of error)

abbrev pub cid_reading : List ℕ → LineReading
cid_reading bytes = of_cid (read_cid 64 bytes)

-- the links of a block, or the name of the first error of invalid bytes
abbrev pub of_block : Option (List Link) → Option CborError → LineReading
of_block (Some found) error = links found
of_block None (Some error) = rejected (cbor.name_of error)
of_block None None = rejected []

abbrev pub block_reading : List ℕ → LineReading
block_reading bytes = of_block (links_found bytes) (first_error bytes)

abbrev pub of_bytes : (List ℕ → LineReading) → Option (List ℕ) → LineReading
of_bytes reading (Some bytes) = reading bytes
of_bytes reading None = not_understood

-- The reading of every line of an input. A line of hexadecimal digits, an even number of them and
-- at least two, is read by `reading` from its bytes, as links or an error. Any other line is not
-- understood.
abbrev pub readings : (List ℕ → LineReading) → List ℕ → List LineReading
readings reading input = map (λ line. of_bytes reading (bytes_of_line line)) (lines_of input)
