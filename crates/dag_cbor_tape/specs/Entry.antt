-- The entries of a tape by themselves, and their encodings.
use Rattle.std.specs.Prelude.{ℕ, suc, ◌+◌, ◌==◌, ◌&&◌, nat_lt, if◌then◌else◌, List, ◌∷◌, ◌++◌, length, take, drop, Option, Some, None, Result, Ok, Err}
use Rattle.std.specs.Str.{is_utf8}
use Rattle.ipld_cid.specs.declared.error.CidError.{CidError}
use Rattle.ipld_cid.specs.Cid.{Link}
use Rattle.ipld_cid.specs.Bytes.{read_cid}
use Rattle.dag_cbor_format.specs.declared.major.Major.{Major}
use Rattle.dag_cbor_format.specs.declared.major.Major.TheVariants as major
use Rattle.dag_cbor_format.specs.Head.{head}
use Rattle.dag_cbor_format.specs.Floats.{is_finite}
use Rattle.dag_cbor_blocks.specs.declared.tape.TapeEntry.{TapeEntry}
use Rattle.dag_cbor_tape.specs.declared.error.EncodeErrorKind.{EncodeErrorKind}
use Rattle.dag_cbor_tape.specs.declared.error.EncodeErrorKind.TheVariants as wrong
use Rattle.dag_cbor_tape.specs.declared.entry.EntryKind.{EntryKind}
use Rattle.dag_cbor_tape.specs.declared.entry.EntryKind.TheVariants as kind

-- the kind with this number, if there is one
unfoldable pub kind_of : ℕ → Option EntryKind
kind_of n =
    if n == 0 then Some kind.Null
    else if n == 1 then Some kind.False
    else if n == 2 then Some kind.True
    else if n == 3 then Some kind.Unsigned
    else if n == 4 then Some kind.Negative
    else if n == 5 then Some kind.Float
    else if n == 6 then Some kind.Text
    else if n == 7 then Some kind.Bytes
    else if n == 8 then Some kind.Link
    else if n == 9 then Some kind.List
    else if n == 10 then Some kind.Map
    else if n == 11 then Some kind.Key
    else None

-- the bytes of the data to which an entry refers, if they are within the data
unfoldable pub content_of : List ℕ → TapeEntry → Option (List ℕ)
content_of bytes e = if nat_lt (length bytes) (e.value + e.len) then None else Some (take e.len (drop e.value bytes))

-- ---- the encoding of an entry

-- the encoding of null or a bool, if the entry's length and value are 0
abbrev pub simple_of : ℕ → TapeEntry → Result (List ℕ) EncodeErrorKind
simple_of n e = if e.len == 0 && e.value == 0 then Ok (head major.Simple n) else Err wrong.Fields

-- the encoding of an integer, if the entry's length is 0
abbrev pub number_of : Major → TapeEntry → Result (List ℕ) EncodeErrorKind
number_of m e = if e.len == 0 then Ok (head m e.value) else Err wrong.Fields

-- the encoding of a float with these bytes, if it is finite
abbrev pub float_of : Option (List ℕ) → Result (List ℕ) EncodeErrorKind
float_of None = Err wrong.Content
float_of (Some b) = if is_finite b then Ok (251 ∷ b) else Err wrong.Float

-- the encoding of a string or a key with these bytes, if they are UTF-8
abbrev pub text_of : Option (List ℕ) → Result (List ℕ) EncodeErrorKind
text_of None = Err wrong.Content
text_of (Some s) = if is_utf8 s then Ok (head major.Text (length s) ++ s) else Err wrong.Utf8

-- the encoding of a byte string
abbrev pub bytes_of : Option (List ℕ) → Result (List ℕ) EncodeErrorKind
bytes_of None = Err wrong.Content
bytes_of (Some b) = Ok (head major.Bytes (length b) ++ b)

-- the encoding of a link with these bytes, if they are a CID
abbrev pub cid_of : List ℕ → Result Link CidError → Result (List ℕ) EncodeErrorKind
cid_of b (Ok cid) = Ok (head major.Tag 42 ++ (head major.Bytes (suc (length b)) ++ 0 ∷ b))
cid_of b (Err error) = Err (wrong.Cid error)

-- the encoding of a link, if its content is a CID
abbrev pub link_of : Option (List ℕ) → Result (List ℕ) EncodeErrorKind
link_of None = Err wrong.Content
link_of (Some b) = cid_of b (read_cid 64 b)

-- the encoding of an entry of this kind, and for a list or a map only its head
unfoldable pub written_of : List ℕ → EntryKind → TapeEntry → Result (List ℕ) EncodeErrorKind
written_of bytes kind.Null e = simple_of 22 e
written_of bytes kind.False e = simple_of 20 e
written_of bytes kind.True e = simple_of 21 e
written_of bytes kind.Unsigned e = number_of major.Unsigned e
written_of bytes kind.Negative e = number_of major.Negative e
written_of bytes kind.Float e = if e.len == 8 then float_of (content_of bytes e) else Err wrong.Fields
written_of bytes kind.Text e = text_of (content_of bytes e)
written_of bytes kind.Bytes e = bytes_of (content_of bytes e)
written_of bytes kind.Link e = link_of (content_of bytes e)
written_of bytes kind.List e = Ok (head major.List e.value)
written_of bytes kind.Map e = Ok (head major.Map e.value)
written_of bytes kind.Key e = text_of (content_of bytes e)
