-- The errors of a head, the beginning of an item, a key or a link that cannot be read. They have a
-- meaning only for bytes from which it cannot be read.
--
-- The head comes before the content that it announces. In a head the form of the argument comes
-- first, then missing bytes, and then an argument that has a shorter form. In content missing bytes
-- come first.
use Rattle.std.specs.Prelude.{ℕ, zero, suc, ◌/◌, ◌%◌, ◌==◌, nat_lt, if◌then◌else◌, List, [], ◌∷◌, length, Option, Some, None, Result, Ok, Err}
use Rattle.std.specs.Int.{Width, w16, w32, w64, byte_len}
use Rattle.ipld_cid.specs.Cid.{Link}
use Rattle.ipld_cid.specs.Bytes.{read_cid}
use Rattle.ipld_cid.specs.declared.error.CidError.{CidError}
use Rattle.dag_cbor_format.specs.declared.error.CborError.{CborError}
use Rattle.dag_cbor_format.specs.declared.error.CborError.TheVariants.{End, NotShortest, Float, Unsupported, Utf8, KeyNotText, LinkBytes, Cid}
use Rattle.dag_cbor_format.specs.declared.major.Major.{Major}
use Rattle.dag_cbor_format.specs.declared.major.Major.TheVariants.{Bytes, Text, Simple}
use Rattle.dag_cbor_format.specs.HeadReading.{major_at, head_at}
use Rattle.dag_cbor_format.specs.ItemHeader.{front}

-- ---- heads

-- the error of an argument in one byte
abbrev pub byte_error : List ℕ → CborError
byte_error [] = End
byte_error (b ∷ rest) = NotShortest

-- the error of an argument in several bytes
abbrev pub wide_error : Width → List ℕ → CborError
wide_error w bytes = if nat_lt (length bytes) (byte_len w) then End else NotShortest

-- the error of an argument with these additional bits in the first byte
unfoldable pub argument_error : ℕ → List ℕ → CborError
argument_error additional bytes =
    if additional == 24 then byte_error bytes
    else if additional == 25 then wide_error w16 bytes
    else if additional == 26 then wide_error w32 bytes
    else if additional == 27 then wide_error w64 bytes
    else Unsupported

-- the error of major type 7: additional bits from 25 to 27 announce a float
abbrev pub simple_error : ℕ → CborError
simple_error additional = if nat_lt additional 25 then Unsupported else if nat_lt additional 28 then Float else Unsupported

abbrev pub error_of_argument : Major → ℕ → List ℕ → CborError
error_of_argument Simple additional bytes = simple_error additional
error_of_argument _ additional bytes = argument_error additional bytes

-- the error of bytes that do not begin with a head
unfoldable pub head_error : List ℕ → CborError
head_error [] = End
head_error (first ∷ bytes) = error_of_argument (major_at (first / 32)) (first % 32) bytes

-- ---- after a head

-- the error of a text string: the bytes that its head announces are missing, or are not UTF-8
abbrev pub text_error : Option (List ℕ × List ℕ) → CborError
text_error None = End
text_error (Some cut) = Utf8

-- the error after the head of an item: other tags and other simple values are not supported
abbrev pub item_error : Major → ℕ → List ℕ → CborError
item_error Bytes n rest = End
item_error Text n rest = text_error (front n rest)
item_error _ n rest = Unsupported

abbrev pub item_header_error_of : List ℕ → Option (Major × ℕ × List ℕ) → CborError
item_header_error_of bytes None = head_error bytes
item_header_error_of bytes (Some h) = item_error h.0 h.1 h.2

-- the error of the beginning of an item
unfoldable pub item_header_error : List ℕ → CborError
item_header_error bytes = item_header_error_of bytes (head_at bytes)

-- the error after the head of a key
abbrev pub text_key_error : Major → ℕ → List ℕ → CborError
text_key_error Text n rest = text_error (front n rest)
text_key_error _ n rest = KeyNotText

abbrev pub key_error_of : List ℕ → Option (Major × ℕ × List ℕ) → CborError
key_error_of bytes None = head_error bytes
key_error_of bytes (Some h) = text_key_error h.0 h.1 h.2

-- the error of a key
unfoldable pub key_error : List ℕ → CborError
key_error bytes = key_error_of bytes (head_at bytes)

-- the error of the bytes after the zero byte
abbrev pub cid_error : Result Link CidError → CborError
cid_error (Ok cid) = LinkBytes
cid_error (Err error) = Cid error

-- the error of the byte string of a link
abbrev pub content_error : Option (List ℕ × List ℕ) → CborError
content_error None = End
content_error (Some ([], rest)) = LinkBytes
content_error (Some (zero ∷ encoded, rest)) = cid_error (read_cid 64 encoded)
content_error (Some (suc b ∷ encoded, rest)) = LinkBytes

-- the error after the head that follows the tag of a link
abbrev pub bytes_error : Major → ℕ → List ℕ → CborError
bytes_error Bytes n rest = content_error (front n rest)
bytes_error _ n rest = LinkBytes

abbrev pub link_error_of : List ℕ → Option (Major × ℕ × List ℕ) → CborError
link_error_of bytes None = head_error bytes
link_error_of bytes (Some h) = bytes_error h.0 h.1 h.2

-- the error of a link, after its tag
unfoldable pub link_error : List ℕ → CborError
link_error bytes = link_error_of bytes (head_at bytes)
