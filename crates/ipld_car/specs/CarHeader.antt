-- The pragma and the header of a CAR of version 2 (CARv2, "Pragma" and "Header"). The pragma has
-- eleven bytes, and the header 40. The header has 16 bytes of characteristics, whose first bit is
-- set if every section has an entry in the index. Then it has three numbers of 64 bits, in
-- little-endian order: the offset of the payload, its length, and the offset of the index.
use Rattle.std.specs.Prelude.{◌≡◌, ℕ, nat_lt, Bool, true, false, List, ◌∷◌, ◌++◌, replicate, take, slice_index_or, slice_range}
use Rattle.std.specs.Int.{w64, from_le_bytes}
use Rattle.ipld_car.specs.Version2.{pragma}
use Rattle.ipld_car.specs.IndexNumbers.{le64}
use Rattle.ipld_car.specs.declared.index.header.CarHeader.{CarHeader}

unfoldable pub characteristics : Bool → List ℕ
characteristics true = 0x80 ∷ replicate 15 0
characteristics false = replicate 16 0

-- the last 24 bytes of a header: the offset of the payload, its length, and the offset of the index
abbrev pub places : CarHeader → List ℕ
places header = le64 header.payload ++ le64 header.size ++ le64 header.index

-- the eleven bytes at the front of a CAR of version 2
unfoldable pub pragma_bytes : List ℕ
pragma_bytes = pragma

-- The first 51 bytes of a CAR of version 2: the pragma, the characteristics, the offset of the
-- payload, its length, and the offset of the index (CARv2, "Pragma", "Header").
abbrev pub header_bytes : CarHeader → List ℕ
header_bytes header = pragma_bytes ++ characteristics header.is_fully_indexed ++ places header

-- True if the bytes begin with the pragma, and the first bit of the characteristics and the three
-- numbers after it are those of the header.
pub record HasHeader (bytes : List ℕ) (header : CarHeader) : Type 0 where
  pub behind_pragma : take 11 bytes ≡ pragma_bytes
  pub full : header.is_fully_indexed ≡ nat_lt 127 (slice_index_or bytes 11 0)
  pub payload : header.payload ≡ from_le_bytes w64 (slice_range bytes 27 35)
  pub size : header.size ≡ from_le_bytes w64 (slice_range bytes 35 43)
  pub index : header.index ≡ from_le_bytes w64 (slice_range bytes 43 51)
