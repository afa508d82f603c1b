-- A CAR of version 2 that has the payload of another CAR.
use Rattle.std.specs.Prelude.{◌≡◌, ◌-◌, ◌^◌, min, ℕ, List, ◌++◌, length, Option}
use Rattle.std.specs.Io.KnownBytes.{Appends}
use Rattle.ipld_car.specs.CarHeader.{header_bytes}
use Rattle.ipld_car.specs.Index.{index_bytes}
use Rattle.ipld_cli.specs.declared.indexed_copy.IndexedCopy.{IndexedCopy}

-- True if the header, a payload of the size in the header, and the index were written, and nothing
-- else (CARv2). The bytes of the payload are those of a file, which are not known.
abbrev pub WritesCopy : IndexedCopy → (old new : Option (List ℕ)) → Type 0
WritesCopy copy old new =
    (payload : List ℕ) × (copy.header.size ≡ min (length payload) (2 ^ 64 - 1))
    × Appends old new (header_bytes copy.header ++ (payload ++ index_bytes copy.index))
