use Rattle.std.proofs.Common.{◌≡◌, map, take}
use Rattle.dag_pb.specs.Views.{parts_of_link}
use Rattle.unixfs_build.specs.Blocks.{link_to}
use Rattle.unixfs_build.specs.Views.{built}
use Rattle.unixfs_build.proofs.node.links_to.Given as goal

-- the links so far
abbrev pub invariant-loop-part : goal.invariant-loop-part
invariant-loop-part l = map parts_of_link l.links.items ≡ map link_to (map built (take l.part-index l.parts))
