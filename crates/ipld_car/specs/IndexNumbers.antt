-- Numbers in the header and the index of a CAR of version 2, in little-endian order (CARv2).
use Rattle.std.specs.Prelude.{ℕ, List}
use Rattle.std.specs.Int.{w32, w64, to_le_bytes}

-- the four bytes of a number of 32 bits
unfoldable pub le32 : ℕ → List ℕ
le32 n = to_le_bytes w32 n

-- the eight bytes of a number of 64 bits
unfoldable pub le64 : ℕ → List ℕ
le64 n = to_le_bytes w64 n
