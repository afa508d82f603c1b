-- The position of a reader in a CAR.
use Rattle.std.specs.Prelude.{◌≡◌, ◌+◌, ◌-◌, ◌^◌, max, ℕ, List, map, Option, Some, None}
use Rattle.ipld_cid.specs.Cid.{Link}
use Rattle.ipld_cid.specs.LinkOf.{link_of}
use Rattle.ipld_car.specs.declared.error.CarError.{CarError}
use Rattle.ipld_car.specs.declared.reader.CarReader.{CarReader}
use Rattle.ipld_car.specs.declared.version.CarVersion.{CarVersion}
use Rattle.ipld_car.specs.declared.version.CarVersion.TheVariants.{V1, V2}
use Rattle.ipld_car.specs.Opening.{Opens, OpenFault}

-- True if `new` is the reader `old`, moved on by `count` bytes in the CAR. Nothing else of it has
-- changed, except its inner reader.
pub record Moves {R : Type 0} (old new : CarReader R) (count : ℕ) : Type 0 where
  pub offset : new.offset ≡ old.offset + count
  pub start : new.start ≡ old.start
  pub end : new.end ≡ old.end
  pub limit : new.limit ≡ old.limit
  pub version : new.version ≡ old.version
  pub roots : new.roots ≡ old.roots
  pub zero_padding : new.zero_padding ≡ old.zero_padding

-- True if the part before the sections was taken, and the reader is after it and has this limit
-- (CARv1, "Header"; CARv2).
abbrev pub IsOpened : {R : Type 0} → (limit : ℕ) → (before after : Option (List ℕ)) → CarReader R → Type 0
IsOpened limit before after car =
    Opens limit before after car.version (map link_of car.roots.items) car.start car.offset car.end × (car.limit ≡ limit)

-- True if the reader has this version and these roots, and is at `offset` in a CAR that begins at
-- `start` and ends at `end`.
pub record HasOpened {R : Type 0} (car : CarReader R) (version : CarVersion) (roots : List Link) (start offset end : ℕ) : Type 0 where
  pub version_is : car.version ≡ version
  pub roots_are : map link_of car.roots.items ≡ roots
  pub starts : car.start ≡ start
  pub stands : car.offset ≡ offset
  pub ends : car.end ≡ end

-- The end of the sections, if the header of the CAR states it: `end` in version 2, and nothing in
-- version 1.
abbrev pub stated_end : CarVersion → ℕ → Option ℕ
stated_end V1 end = None
stated_end V2 end = Some end

-- the version of a CAR whose header states this end of its sections, or none
abbrev pub version_ending : Option ℕ → CarVersion
version_ending None = V1
version_ending (Some end) = V2

-- the end of the sections from `offset` on, if the header of the CAR states this end or none
abbrev pub end_from : ℕ → Option ℕ → ℕ
end_from offset None = 2 ^ 64 - 1
end_from offset (Some end) = max end offset

-- True if the part before the sections cannot be read because of this error, by `OpenFault`. The
-- bytes that are then left in the reader are not stated.
abbrev pub FaultOf : ℕ → Option (List ℕ) → CarError → Type 0
FaultOf limit old error = (new : Option (List ℕ)) × OpenFault limit old new error
