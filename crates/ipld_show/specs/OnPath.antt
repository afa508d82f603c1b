-- The first link that a path leads through in a data item. After a link, a path continues only in
-- the block that the link names.
use Rattle.std.specs.Prelude.{◌≡◌, ℕ, suc, List, [], ◌∷◌, Option, Some, None, Result, Ok, Err}
use Rattle.ipld_cid.specs.Cid.{Link}
use Rattle.ipld_cid.specs.LinkOf.{link_of}
use Rattle.ipld_tree.specs.Path.{segments}
use Rattle.ipld_show.specs.AtPath.{AtPath, found, no_segment, not_a_container, at_segment, at_segments, LeadsTo}
use Rattle.ipld_show.specs.DataItem.{DataItem, link}
use Rattle.ipld_show.specs.declared.error.ShowError.{ShowError}
use Rattle.ipld_show.specs.declared.path.LinkOnPath.{LinkOnPath}

-- the link of an item, if the item is a link
abbrev pub link_in : DataItem → Option Link
link_in (link encoded cid) = Some cid
link_in _ = None

-- the result of `next` for an item that is found
abbrev pub if_reached : (DataItem → Option (Link × ℕ)) → AtPath → Option (Link × ℕ)
if_reached next (found d) = next d
if_reached next (no_segment number) = None
if_reached next (not_a_container number) = None

-- this link with the number of segments before it, or `other` without a link
abbrev pub link_first : Option Link → ℕ → Option (Link × ℕ) → Option (Link × ℕ)
link_first (Some l) before other = Some (l, before)
link_first None before other = other

-- the first link that is followed by one of the segments, and the number of segments that lead to
-- it, if `before` others came before these
abbrev pub link_along : ℕ → List (List ℕ) → DataItem → Option (Link × ℕ)
link_along before [] d = None
link_along before (s ∷ ss) d = link_first (link_in d) before (if_reached (link_along (suc before) ss) (at_segment (suc before) s d))

-- True if the result is this link and the number of segments before it, or the error without a
-- link.
abbrev pub IsLinkOr : Option Link → ℕ → ShowError → Result (Option LinkOnPath) ShowError → Type 0
IsLinkOr (Some l) before error (Ok (Some on)) = (link_of on.cid ≡ l) × (on.segments ≡ before)
IsLinkOr None before error (Err given) = given ≡ error
IsLinkOr _ _ _ _ = ⊥

-- True if the result is the first link that the path leads through. If the path leads through no
-- link, true if it leads to an item, or to nothing at the segment in the error.
abbrev pub IsLinkOnPath : DataItem → List ℕ → Result (Option LinkOnPath) ShowError → Type 0
IsLinkOnPath d path (Ok (Some on)) = link_along 0 (segments path) d ≡ Some (link_of on.cid, on.segments)
IsLinkOnPath d path (Ok None) = (link_along 0 (segments path) d ≡ None) × (e : DataItem) × (at_segments 0 (segments path) d ≡ found e)
IsLinkOnPath d path (Err error) = (link_along 0 (segments path) d ≡ None) × LeadsTo (at_segments 0 (segments path) d) (Err error)
