use Rattle.std.proofs.Common.{◌≤◌, length, map, take}
use Rattle.dag_pb.specs.Node.{IsLinks}
use Rattle.dag_pb.specs.Views.{parts_of_link}
use Rattle.dag_pb.specs.Writing.{links_bytes}
use Rattle.dag_pb.proofs.writer.links_len.Given as goal

-- the links so far are encoded
abbrev pub invariant-loop-link : goal.invariant-loop-link
invariant-loop-link l = record {
  short : l.total ≤ length (links_bytes (map parts_of_link (take l.link-index l.links)));
  encoded : IsLinks (map parts_of_link (take l.link-index l.links)) (links_bytes (map parts_of_link (take l.link-index l.links)));
}
