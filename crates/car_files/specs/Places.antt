-- The places of the sections of a CAR.
use Rattle.std.specs.Prelude.{◌≡◌, ◌+◌, ℕ, Bool, true, false, List, [], ◌∷◌, ◌++◌, map}
use Rattle.ipld_cid.specs.Cid.{Link}
use Rattle.ipld_cid.specs.LinkOf.{link_of}
use Rattle.ipld_car.specs.Section.{Block}
use Rattle.car_files.specs.Written.{section_len}
use Rattle.car_files.specs.declared.places.SectionPlace.{SectionPlace}
use Rattle.car_files.specs.declared.places.SectionPlaces.{SectionPlaces}

-- the CID and the offset of a section
abbrev pub place_of : SectionPlace → Link × ℕ
place_of place = (link_of place.cid, place.offset)

-- the CIDs and the offsets in a list
abbrev pub places_in : SectionPlaces → List (Link × ℕ)
places_in places = map place_of places.places.items

-- the CIDs and the offsets of the sections of these blocks, of which the first begins at `begin`
abbrev pub places_of : (begin : ℕ) → List Block → List (Link × ℕ)
places_of begin [] = []
places_of begin (block ∷ blocks) = (block.cid, begin) ∷ places_of (begin + section_len block) blocks

-- the places that are kept of some
abbrev pub kept : Bool → List (Link × ℕ) → List (Link × ℕ)
kept true places = places
kept false places = []

-- True if these places were added, or none if places aren't kept.
pub record Adds (old new : SectionPlaces) (more : List (Link × ℕ)) : Type 0 where
  pub same : new.is_kept ≡ old.is_kept
  pub added : places_in new ≡ places_in old ++ kept old.is_kept more
