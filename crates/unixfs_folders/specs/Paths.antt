-- The model of the slots that lead to a shard.
use Rattle.std.specs.Prelude.{ℕ, List, take}
use Rattle.unixfs_folders.specs.declared.path.SlotPath.{SlotPath}

-- the slots
abbrev pub path_of : SlotPath → List ℕ
path_of p = take p.len p.slots
