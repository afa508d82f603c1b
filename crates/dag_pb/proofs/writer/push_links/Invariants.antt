use Rattle.std.proofs.Common.{◌≡◌, ◌++◌, map, take}
use Rattle.dag_pb.specs.Views.{parts_of_link}
use Rattle.dag_pb.specs.Writing.{links_bytes}
use Rattle.dag_pb.proofs.writer.push_links.Given as goal

-- the links so far are written
abbrev pub invariant-loop-link : goal.invariant-loop-link
invariant-loop-link l = l.bytes.items ≡ l.initial.bytes.items ++ links_bytes (map parts_of_link (take l.link-index l.links))
