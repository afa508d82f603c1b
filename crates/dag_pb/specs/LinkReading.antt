-- The result of reading a link: the link, or the error of the first invalid field.
use Rattle.std.specs.Prelude.{ℕ, ◌==◌, ◌||◌, if◌then◌else◌, List, [], ◌∷◌, length, Option, Some, None, Result, Ok, Err}
use Rattle.std.specs.Str.{is_utf8}
use Rattle.ipld_cid.specs.declared.error.CidError.{CidError}
use Rattle.ipld_cid.specs.Cid.{Link}
use Rattle.ipld_cid.specs.Bytes.{read_cid}
use Rattle.dag_pb.specs.declared.error.PbErrorKind.{PbErrorKind}
use Rattle.dag_pb.specs.declared.error.PbErrorKind.TheVariants.{UnknownField, FieldOrder, NoHash, Cid, Utf8}
use Rattle.dag_pb.specs.declared.error.Fault.{Fault}
use Rattle.pb_wire.specs.Steps.{◌>>=◌}
use Rattle.pb_wire.specs.Reading.{read_varint, number_field, content_field}
use Rattle.dag_pb.specs.Errors.{at, of_wire}
use Rattle.dag_pb.specs.Node.{LinkParts}

-- the CID of a hash, with the bytes after it
abbrev pub hash_in : Result Link CidError → List ℕ → Result (Link × List ℕ) PbErrorKind
hash_in (Ok link) rest = Ok (link, rest)
hash_in (Err error) rest = Err (Cid error)

-- the CID of a field Hash, with the bytes after it, or an error without the field
abbrev pub hash_of : Option (List ℕ) → List ℕ → Result (Link × List ℕ) PbErrorKind
hash_of None rest = Err NoHash
hash_of (Some content) rest = hash_in (read_cid 64 content) rest

-- the hash, and the bytes after it
unfoldable pub read_hash : List ℕ → Result (Link × List ℕ) PbErrorKind
read_hash bytes = of_wire (content_field 10 bytes) >>= λ found. hash_of found.0 found.1

-- the name in these bytes, if they are UTF-8
unfoldable pub text_in : List ℕ → Result (List ℕ) PbErrorKind
text_in content = if is_utf8 content then Ok content else Err Utf8

-- the name of a field Name, if there is one, with the bytes after it
abbrev pub name_of : Option (List ℕ) → List ℕ → Result (Option (List ℕ) × List ℕ) PbErrorKind
name_of None rest = Ok (None, rest)
name_of (Some content) rest = text_in content >>= λ name. Ok (Some name, rest)

-- the name, if there is one, and the bytes after it
unfoldable pub read_name : List ℕ → Result (Option (List ℕ) × List ℕ) PbErrorKind
read_name bytes = of_wire (content_field 18 bytes) >>= λ found. name_of found.0 found.1

-- the error of a field after those of a link
abbrev pub misplaced : ℕ → PbErrorKind
misplaced key = if key == 10 || key == 18 || key == 24 then FieldOrder else UnknownField key

-- the error of a field that follows, if the bytes aren't empty
unfoldable pub read_end : List ℕ → Result (Unit {0}) PbErrorKind
read_end [] = Ok tt
read_end (b ∷ bytes) = of_wire (read_varint (b ∷ bytes)) >>= λ found. Err (misplaced found.0)

-- the link whose message the bytes are, or the first error
unfoldable pub read_link : List ℕ → Result LinkParts Fault
read_link bytes =
    at (length bytes) (read_hash bytes) >>= λ hash.
    at (length hash.1) (read_name hash.1) >>= λ name.
    at (length name.1) (of_wire (number_field 24 name.1)) >>= λ tsize.
    at (length tsize.1) (read_end tsize.1) >>= λ end.
    Ok (record { hash = hash.0; name = name.0; tsize = tsize.0 })
