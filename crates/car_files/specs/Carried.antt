-- CIDs that carry bytes that are not a block.
use Rattle.std.specs.Prelude.{◌≡◌, ◌⊎◌, true, List, [], ◌∷◌, map}
use Rattle.ipld_cid.specs.Cid.{Link}
use Rattle.ipld_cid.specs.LinkOf.{link_of}
use Rattle.car_files.specs.Blocks.{BlockFault, IsBlockOf}
use Rattle.car_files.specs.Has.{has}
use Rattle.car_files.specs.Reached.{is_identity, Reaches}
use Rattle.car_files.specs.declared.adding.CarriedFault.{CarriedFault}

-- the CID that carries the invalid bytes
abbrev pub carrier : CarriedFault → Link
carrier fault = link_of fault.cid

-- True if the CID of `fault` is reached from these links and carries bytes that are invalid for its
-- codec, with the error `fault.why`.
abbrev pub IsCarried : List Link → CarriedFault → Type 0
IsCarried from fault = Reaches from (carrier fault) × (is_identity (carrier fault) ≡ true) × BlockFault (carrier fault).codec (carrier fault).digest fault.why

-- True if the CID of every fault is reached and carries such bytes.
abbrev pub AreCarried : List Link → List CarriedFault → Type 0
AreCarried from [] = Unit {0}
AreCarried from (fault ∷ faults) = IsCarried from fault × AreCarried from faults

-- True if every fault is of a CID that is reached from `from` and carries bytes that are not a
-- block, with their error. Every other CID that is reached and carries bytes carries a block, or
-- blocks of its codec aren't read.
pub record CarriesFaults (from : List Link) (faults : List CarriedFault) : Type 0 where
  pub only : AreCarried from faults
  pub each : (l : Link) → Reaches from l → is_identity l ≡ true → IsBlockOf l.codec l.digest ⊎ (has l (map carrier faults) ≡ true)
