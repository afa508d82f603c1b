-- The state of a search for missing blocks: the blocks that came, and the links without a block.
use Rattle.std.specs.Prelude.{◌≡◌, ◌||◌, not, Bool, if◌then◌else◌, filter, List, [], ◌∷◌, ◌++◌}
use Rattle.std.specs.List.{list_any}
use Rattle.ipld_cid.specs.Cid.{Link, hash_of}
use Rattle.ipld_cid.specs.LinkOf.{link_of}
use Rattle.ipld_cid.specs.Order.{hash_eq, link_eq}
use Rattle.ipld_cid.specs.declared.cid.CidGeneric.{CidGeneric}
use Rattle.car_files.specs.Has.{has}

-- The state of a search: the CIDs of the blocks that came, and the links whose block has not come.
pub record Search : Type 0 where
  pub came : List Link
  pub missing : List Link

-- the CIDs whose block came, from CIDs with whether their block came
abbrev pub came_in : List (CidGeneric 64 × Bool) → List Link
came_in [] = []
came_in (e ∷ es) = if e.1 then link_of e.0 ∷ came_in es else came_in es

-- the CIDs whose block did not come
abbrev pub missing_in : List (CidGeneric 64 × Bool) → List Link
missing_in [] = []
missing_in (e ∷ es) = if e.1 then missing_in es else link_of e.0 ∷ missing_in es

-- whether a link of the list has the same hash function and the same digest
abbrev pub has_hash : Link → List Link → Bool
has_hash l ls = list_any (λ m. hash_eq (hash_of l) (hash_of m)) ls

-- the links of the list whose hash is that of no link that came
abbrev pub unlike_those : List Link → List Link → List Link
unlike_those came links = filter (λ l. not (has_hash l came)) links

-- True if the block of the CID came: the CID is among those that came, and the missing links are
-- the same without it, in the same order.
pub record Comes (cid : Link) (old new : Search) : Type 0 where
  pub came : (l : Link) → has l new.came ≡ (link_eq l cid || has l old.came)
  pub missing : new.missing ≡ filter (λ l. not (link_eq cid l)) old.missing

-- The missing links after `link` is added, if the blocks of `came` came. A new link is appended. A
-- link whose block came or that is already missing changes nothing.
abbrev pub with_link : (link : Link) (came missing : List Link) → List Link
with_link link came missing = if has link came || has link missing then missing else missing ++ link ∷ []

-- The missing links after several links are added, one after the other.
abbrev pub with_links : (links came missing : List Link) → List Link
with_links [] came missing = missing
with_links (link ∷ links) came missing = with_links links came (with_link link came missing)

-- True if the links were added, one after the other, and no block came.
pub record AddsEach (links : List Link) (old new : Search) : Type 0 where
  pub came : new.came ≡ old.came
  pub missing : new.missing ≡ with_links links old.came old.missing
