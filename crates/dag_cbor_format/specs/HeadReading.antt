-- A head that is read from the front of bytes.
use Rattle.std.specs.Prelude.{ℕ, ◌/◌, ◌%◌, ◌^◌, ◌==◌, nat_lt, if◌then◌else◌, List, [], ◌∷◌, length, take, drop, Option, Some, None, ◌++◌, ◌&&◌}
use Rattle.std.specs.Str.{bytes_eq}
use Rattle.std.specs.Int.{Width, w16, w32, w64, byte_len, from_be_bytes}
use Rattle.dag_cbor_format.specs.declared.major.Major.{Major}
use Rattle.dag_cbor_format.specs.declared.major.Major.TheVariants.{Unsigned, Negative, Bytes, Text, List as Array, Map, Tag, Simple}
use Rattle.dag_cbor_format.specs.Head.{head, limit_of}

-- the major type with this number
abbrev pub major_at : ℕ → Major
major_at k =
    if k == 0 then Unsigned
    else if k == 1 then Negative
    else if k == 2 then Bytes
    else if k == 3 then Text
    else if k == 4 then Array
    else if k == 5 then Map
    else if k == 6 then Tag
    else Simple

-- the argument `n`, or nothing if it is below `least` and so not in its shortest form
abbrev pub at_least : ℕ → ℕ → List ℕ → Option (ℕ × List ℕ)
at_least least n rest = if nat_lt n least then None else Some (n, rest)

-- an argument in one byte, and the bytes that follow it
abbrev pub read_byte : List ℕ → Option (ℕ × List ℕ)
read_byte [] = None
read_byte (b ∷ rest) = at_least 24 b rest

-- an argument in several bytes, and the bytes that follow it
abbrev pub read_wide : Width → ℕ → List ℕ → Option (ℕ × List ℕ)
read_wide w least bytes =
    if nat_lt (length bytes) (byte_len w) then None
    else at_least least (from_be_bytes w (take (byte_len w) bytes)) (drop (byte_len w) bytes)

-- the argument for these additional bits of the first byte, and the bytes that follow it
unfoldable pub read_argument : ℕ → List ℕ → Option (ℕ × List ℕ)
read_argument additional bytes =
    if nat_lt additional 24 then Some (additional, bytes)
    else if additional == 24 then read_byte bytes
    else if additional == 25 then read_wide w16 (2 ^ 8) bytes
    else if additional == 26 then read_wide w32 (2 ^ 16) bytes
    else if additional == 27 then read_wide w64 (2 ^ 32) bytes
    else None

-- the same for a major type: the argument of a simple value is in the first byte
abbrev pub argument_of : Major → ℕ → List ℕ → Option (ℕ × List ℕ)
argument_of Simple additional bytes = if nat_lt additional 24 then Some (additional, bytes) else None
argument_of _ additional bytes = read_argument additional bytes

abbrev pub with_major : Major → Option (ℕ × List ℕ) → Option (Major × ℕ × List ℕ)
with_major major None = None
with_major major (Some (n, rest)) = Some (major, n, rest)

-- the major type, the argument and the bytes that follow
unfoldable pub read_head : List ℕ → Option (Major × ℕ × List ℕ)
read_head [] = None
read_head (first ∷ bytes) = with_major (major_at (first / 32)) (argument_of (major_at (first / 32)) (first % 32) bytes)

abbrev pub if_encoded : List ℕ → Option (Major × ℕ × List ℕ) → Option (Major × ℕ × List ℕ)
if_encoded bytes None = None
if_encoded bytes (Some h) = if nat_lt h.1 (limit_of h.0) && bytes_eq bytes (head h.0 h.1 ++ h.2) then Some h else None

-- the head that is read and the bytes that follow it, if they encode to the bytes, which they do if
-- every number is a byte
unfoldable pub head_at : List ℕ → Option (Major × ℕ × List ℕ)
head_at bytes = if_encoded bytes (read_head bytes)
