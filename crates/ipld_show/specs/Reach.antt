-- The place of the value to which a path leads in the bytes of an item. A path that continues after
-- a link leads to the link, and has a rest.
use Rattle.std.specs.Prelude.{◌≡◌, ◌⊎◌, ℕ, List, ◌∷◌, ◌++◌, length, drop, Option, Some, None, Result, Ok, Err}
use Rattle.ipld_cid.specs.Cid.{Link}
use Rattle.ipld_tree.specs.Path.{segments}
use Rattle.ipld_show.specs.AfterPath.{after_segments}
use Rattle.ipld_show.specs.AtPath.{found, at_segments}
use Rattle.ipld_show.specs.DataItem.{DataItem, encoding}
use Rattle.ipld_show.specs.OnPath.{link_in, IsLinkOnPath}
use Rattle.ipld_show.specs.declared.error.ShowError.{ShowError}
use Rattle.ipld_show.specs.declared.at_path.ValuePlace.{ValuePlace}

-- True if the rest of a path begins with a segment.
abbrev pub BeginsWithSegment : List ℕ → Type 0
BeginsWithSegment rest = (c : ℕ) × (cs : List ℕ) × (rest ≡ c ∷ cs) × (c ≡ 47 → ⊥)

-- True if the first segments of the path lead from the item `d` to the item `value`, at this place
-- of the bytes, which begin with `d`. Either these are all segments, and the rest is empty. Or
-- `value` is a link, and the rest begins with the segment after them.
pub record Reaches (d : DataItem) (path bytes behind : List ℕ) (place : ValuePlace) : Type 0 where
  pub value : DataItem
  pub followed : List (List ℕ)
  pub split : segments path ≡ followed ++ segments (drop place.rest path)
  pub leads : at_segments 0 followed d ≡ found value
  pub front : List ℕ
  pub encoded : bytes ≡ front ++ (encoding value ++ (after_segments 0 followed d ++ behind))
  pub begins : place.offset ≡ length front
  pub size : place.len ≡ length (encoding value)
  pub ends : (place.rest ≡ length path)
      ⊎ (BeginsWithSegment (drop place.rest path) × (l : Link) × (link_in value ≡ Some l))

-- True if the result is the place to which the path leads. If it leads to none, true if it leads
-- through no link, and to nothing at the segment in the error.
abbrev pub IsReached : DataItem → (path bytes behind : List ℕ) → Result ValuePlace ShowError → Type 0
IsReached d path bytes behind (Ok place) = Reaches d path bytes behind place
IsReached d path bytes behind (Err error) = IsLinkOnPath d path (Err error)

-- True if the result is this place of a link, or the error without a link.
abbrev pub IsLinkPlaceOr : Option Link → ValuePlace → ShowError → Result ValuePlace ShowError → Type 0
IsLinkPlaceOr (Some l) place error (Ok given) = given ≡ place
IsLinkPlaceOr None place error (Err given) = given ≡ error
IsLinkPlaceOr _ _ _ _ = ⊥
