-- The wire format of Protocol Buffers (its documentation, "Encoding"). A message is a run of
-- fields, and a field is a key and a value. A key is the varint of the field's number times 8 and
-- its wire type.
use Rattle.std.specs.Prelude.{◌≡◌, ◌≤◌, ◌<◌, ◌+◌, ◌*◌, ◌^◌, ℕ, List, [], ◌++◌, length, Option, Some, None}
use Rattle.std.specs.Int.{w32, to_le_bytes}
use Rattle.ipld_cid.specs.Varint.{IsLeb128}

-- True if the bytes are a varint of the number: seven bits per byte, the low ones first, of a
-- number below 2^64, in at most ten bytes. It need not be the shortest.
pub record IsVarint (n : ℕ) (bytes : List ℕ) : Type 0 where
  pub below : n < 2 ^ 64
  pub short : length bytes ≤ 10
  pub encoded : IsLeb128 n bytes

-- True if the bytes are a field of wire type 0, whose value is a varint of this number.
pub record IsNumber (field n : ℕ) (bytes : List ℕ) : Type 0 where
  pub key : List ℕ
  pub value : List ℕ
  pub key_encoded : IsVarint (8 * field + 0) key
  pub value_encoded : IsVarint n value
  pub encoded : bytes ≡ key ++ value

-- True if the bytes are a field of wire type 2, whose value is a length and this content.
pub record IsContent (field : ℕ) (content bytes : List ℕ) : Type 0 where
  pub key : List ℕ
  pub size : List ℕ
  pub key_encoded : IsVarint (8 * field + 2) key
  pub size_encoded : IsVarint (length content) size
  pub encoded : bytes ≡ key ++ (size ++ content)

-- True if the bytes are a field of wire type 5, whose value is this number in four bytes, the low
-- one first.
pub record IsFixed32 (field n : ℕ) (bytes : List ℕ) : Type 0 where
  pub key : List ℕ
  pub below : n < 2 ^ 32
  pub key_encoded : IsVarint (8 * field + 5) key
  pub encoded : bytes ≡ key ++ to_le_bytes w32 n

-- True if the bytes are the field of this number, or are empty without a number.
abbrev pub IsNumberOf : ℕ → Option ℕ → List ℕ → Type 0
IsNumberOf field None bytes = bytes ≡ []
IsNumberOf field (Some n) bytes = IsNumber field n bytes

-- True if the bytes are the field of this content, or are empty without a content.
abbrev pub IsContentOf : ℕ → Option (List ℕ) → List ℕ → Type 0
IsContentOf field None bytes = bytes ≡ []
IsContentOf field (Some content) bytes = IsContent field content bytes

-- True if the bytes are the field of this number of four bytes, or are empty without a number.
abbrev pub IsFixed32Of : ℕ → Option ℕ → List ℕ → Type 0
IsFixed32Of field None bytes = bytes ≡ []
IsFixed32Of field (Some n) bytes = IsFixed32 field n bytes
