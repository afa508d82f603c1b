-- The results of reading the part of a CAR of version 2 that follows its pragma.
use Rattle.std.specs.Prelude.{◌≡◌, ◌+◌, ◌≤◌, ℕ, List, ◌++◌, length, map, Option, Result, Ok, Err}
use Rattle.std.specs.Io.KnownBytes.{Consumes}
use Rattle.ipld_cid.specs.LinkOf.{link_of}
use Rattle.ipld_car.specs.declared.error.CarError.{CarError}
use Rattle.ipld_car.specs.declared.opening.Opening.{Opening}
use Rattle.ipld_car.specs.declared.version.CarVersion.TheVariants.{V2}
use Rattle.ipld_car.specs.Fails.{Fails}
use Rattle.ipld_car.specs.Opening.{IsHeaderWithin, Opens, PayloadFault}
use Rattle.ipld_car.specs.Version2.{Version2Fault, pragma, IsBeforePayload}

-- True if the part before the sections was taken, with the results in `opening`.
abbrev pub OpensFront : (limit : ℕ) (old new : Option (List ℕ)) → Opening → Type 0
OpensFront limit old new opening =
    Opens limit old new opening.version (map link_of opening.roots.items) opening.start opening.offset opening.end

-- True if the header, the padding and the header of the payload were taken, with the results in
-- `opening`.
pub record OpensBehindPragma (limit : ℕ) (old new : Option (List ℕ)) (opening : Opening) : Type 0 where
  pub before : List ℕ
  pub header : List ℕ
  pub size : ℕ
  pub consumed : Consumes old new (before ++ header)
  pub before_payload : IsBeforePayload (pragma ++ before) size
  pub is_header : IsHeaderWithin limit header (map link_of opening.roots.items)
  pub version : opening.version ≡ V2
  pub start : opening.start ≡ length (pragma ++ before)
  pub position : opening.offset ≡ length (pragma ++ before ++ header)
  pub ends : opening.end ≡ length (pragma ++ before) + size
  pub within : opening.offset ≤ opening.end

-- True if the error is why they were not taken: it is before the payload, or in its header.
pub data FaultBehindPragma (limit : ℕ) (old new : Option (List ℕ)) (error : CarError) : Type 0 where
  before_payload : (got : List ℕ) → Consumes old new got → Fails 11 (Version2Fault old new got) error → FaultBehindPragma limit old new error
  in_payload : (before taken : List ℕ) (size : ℕ) → IsBeforePayload (pragma ++ before) size → length taken ≤ size → Consumes old new (before ++ taken)
      → Fails (length (pragma ++ before)) (PayloadFault limit size old new taken) error → FaultBehindPragma limit old new error

abbrev pub OpensVersion2 : ℕ → Option (List ℕ) → Option (List ℕ) → Result Opening CarError → Type 0
OpensVersion2 limit old new (Ok opening) = OpensBehindPragma limit old new opening
OpensVersion2 limit old new (Err error) = FaultBehindPragma limit old new error
