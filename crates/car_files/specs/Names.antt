-- Links that were added to a search for missing blocks.
use Rattle.std.specs.Prelude.{◌≡◌, true, false, List}
use Rattle.std.specs.Bool.{Decides}
use Rattle.ipld_cid.specs.Cid.{Link}
use Rattle.car_files.specs.Has.{has}
use Rattle.car_files.specs.Index.{Search, AddsEach}
use Rattle.car_files.specs.Reached.{is_identity, Reaches}

-- True if exactly the links were added that are reached from `from` and don't carry a block.
pub record Names (from : List Link) (old new : Search) : Type 0 where
  pub added : List Link
  pub adds : AddsEach added old new
  pub exactly : (l : Link) → Decides (has l added) (Reaches from l × (is_identity l ≡ false))

-- True if all links that were added are reached from `from` and don't carry a block. Other such
-- links may not have been added.
pub record NamesSome (from : List Link) (old new : Search) : Type 0 where
  pub added : List Link
  pub adds : AddsEach added old new
  pub only : (l : Link) → has l added ≡ true → Reaches from l × (is_identity l ≡ false)
