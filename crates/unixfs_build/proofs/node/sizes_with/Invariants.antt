use Rattle.std.proofs.Common.{◌≡◌, map, take}
use Rattle.unixfs_build.specs.Blocks.{sizes_of}
use Rattle.unixfs_build.specs.Views.{built}
use Rattle.unixfs_build.proofs.node.sizes_with.Given as goal

-- the sizes so far
abbrev pub invariant-loop-part : goal.invariant-loop-part
invariant-loop-part l = l.sizes.items ≡ sizes_of (map built (take l.part-index l.parts))
