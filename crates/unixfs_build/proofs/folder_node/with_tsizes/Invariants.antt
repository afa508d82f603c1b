use Rattle.std.proofs.Common.{◌≡◌, ◌+◌, map, take}
use Rattle.dag_pb.specs.Views.{parts_of_link}
use Rattle.unixfs_build.specs.Nodes.{tsizes_of}
use Rattle.unixfs_build.proofs.folder_node.with_tsizes.Given as goal

-- the sum so far
abbrev pub invariant-loop-link : goal.invariant-loop-link
invariant-loop-link l = l.total ≡ l.len + tsizes_of (map parts_of_link (take l.link-index l.links))
