use Rattle.std.proofs.Common.{length, map}
use Rattle.dag_pb.specs.Views.{parts_of_link}
use Rattle.unixfs.specs.Files.{children_of}
use Rattle.unixfs_files.proofs.Children.{Reversed}
use Rattle.unixfs_files.proofs.walk.reversed_children.Given as goal

abbrev pub invariant-loop-link : goal.invariant-loop-link
invariant-loop-link l = Reversed l.fn.level l.links.items l.sizes.items l.parts.items (children_of (map parts_of_link l.fn.links.items) l.fn.sizes.items)

abbrev pub decreases-loop-link : goal.decreases-loop-link
decreases-loop-link l = length l.links.items
