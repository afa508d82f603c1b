-- The effect of the next pending link.
use Rattle.std.specs.Prelude.{◌≡◌, ◌⊎◌, MatchBool, List, [], ◌∷◌, ◌++◌}
use Rattle.ipld_cid.specs.Cid.{Link}
use Rattle.car_files.specs.Blocks.{BlockFault, IsBlockOf, links_in}
use Rattle.car_files.specs.Carried.{carrier}
use Rattle.car_files.specs.Index.{Search, AddsEach}
use Rattle.car_files.specs.Reached.{is_identity}
use Rattle.car_files.specs.declared.adding.CarriedFault.{CarriedFault}

-- The state while links are added: the pending links, the search, and the faults so far, of CIDs
-- that carry bytes that are not a block.
pub record Adding : Type 0 where
  pub pending : List Link
  pub search : Search
  pub faults : List CarriedFault

-- True if the link carries a block and the faults stay the same, or it carries bytes that are not a
-- block and its fault is appended. Bytes of a codec that isn't read count as a block.
abbrev pub TakesFault : Link → (old new : List CarriedFault) → Type 0
TakesFault link old new =
    (IsBlockOf link.codec link.digest × (new ≡ old))
    ⊎ ((fault : CarriedFault) × (new ≡ old ++ fault ∷ []) × (carrier fault ≡ link)
    × BlockFault link.codec link.digest fault.why)

-- True if the links of the block that the link carries became pending, the search stayed the same,
-- and the fault of an invalid block was appended.
pub record TakesCarrier (link : Link) (old new : Adding) : Type 0 where
  pub pending : new.pending ≡ old.pending ++ links_in link.codec link.digest
  pub search : new.search ≡ old.search
  pub faults : TakesFault link old.faults new.faults

-- True if the link was added to the search, and nothing else changed.
pub record TakesPlain (link : Link) (old new : Adding) : Type 0 where
  pub pending : new.pending ≡ old.pending
  pub search : AddsEach (link ∷ []) old.search new.search
  pub faults : new.faults ≡ old.faults

-- True if `TakesCarrier` holds for a link that carries its block, and `TakesPlain` for any other.
abbrev pub TakesLink : Link → (old new : Adding) → Type 0
TakesLink link old new = MatchBool (is_identity link) (TakesCarrier link old new) (TakesPlain link old new)
