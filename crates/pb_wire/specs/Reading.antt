-- The results of reading the wire format of Protocol Buffers.
use Rattle.std.specs.Prelude.{ℕ, suc, ◌+◌, ◌-◌, ◌*◌, ◌==◌, ◌&&◌, Bool, nat_lt, if◌then◌else◌, List, [], ◌∷◌, length, take, drop, Option, Some, None, Result, Ok, Err}
use Rattle.std.specs.Int.{w32, from_le_bytes}
use Rattle.pb_wire.specs.declared.error.WireError.{WireError}
use Rattle.pb_wire.specs.declared.error.WireError.TheVariants.{End, VarintTooLarge}
use Rattle.pb_wire.specs.Steps.{◌>>=◌}

-- Returns true if a byte after `place` bytes of a varint is too large: ten bytes hold 64 bits.
abbrev pub exceeds : ℕ → ℕ → Bool
exceeds place byte = place == 9 && nat_lt 1 byte

-- the number that the bytes after `place` bytes of a varint encode, and the bytes after it
abbrev pub read_from : ℕ → List ℕ → Result (ℕ × List ℕ) WireError
read_from place [] = Err End
read_from place (b ∷ bytes) =
    if exceeds place b then Err VarintTooLarge
    else if nat_lt b 128 then Ok (b, bytes)
    else (read_from (suc place) bytes >>= λ high. Ok ((b - 128) + 128 * high.0, high.1))

-- the number of the varint at the front, and the bytes after it
unfoldable pub read_varint : List ℕ → Result (ℕ × List ℕ) WireError
read_varint bytes = read_from 0 bytes

-- the first `size` bytes, and the bytes after them
abbrev pub split : ℕ → List ℕ → Result (List ℕ × List ℕ) WireError
split size bytes = if nat_lt (length bytes) size then Err End else Ok (take size bytes, drop size bytes)

-- the content after its length, and the bytes after it
unfoldable pub read_content : List ℕ → Result (List ℕ × List ℕ) WireError
read_content bytes = read_varint bytes >>= λ size. split size.0 size.1

-- the number of the first four bytes, the low one first, and the bytes after them
unfoldable pub read_fixed32 : List ℕ → Result (ℕ × List ℕ) WireError
read_fixed32 bytes = split 4 bytes >>= λ found. Ok (from_le_bytes w32 found.0, found.1)

-- the bytes after this key, or nothing if the bytes begin with another key or are empty
unfoldable pub after_key : ℕ → List ℕ → Result (Option (List ℕ)) WireError
after_key key [] = Ok None
after_key key (b ∷ bytes) = read_varint (b ∷ bytes) >>= λ found. Ok (if found.0 == key then Some found.1 else None)

-- the value that `read` returns after a key, if there is one, and the bytes after it
abbrev pub value_after : {A : Type 0} → (List ℕ → Result (A × List ℕ) WireError) → List ℕ → Option (List ℕ) → Result (Option A × List ℕ) WireError
value_after read bytes None = Ok (None, bytes)
value_after read bytes (Some after) = read after >>= λ found. Ok (Some found.0, found.1)

-- the number of the field with this key, if it comes, and the bytes after it
unfoldable pub number_field : ℕ → List ℕ → Result (Option ℕ × List ℕ) WireError
number_field key bytes = after_key key bytes >>= value_after read_varint bytes

-- the content of the field with this key, if it comes, and the bytes after it
unfoldable pub content_field : ℕ → List ℕ → Result (Option (List ℕ) × List ℕ) WireError
content_field key bytes = after_key key bytes >>= value_after read_content bytes

-- the number of four bytes of the field with this key, if it comes, and the bytes after it
unfoldable pub fixed32_field : ℕ → List ℕ → Result (Option ℕ × List ℕ) WireError
fixed32_field key bytes = after_key key bytes >>= value_after read_fixed32 bytes
