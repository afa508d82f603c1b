use Rattle.std.proofs.Common.{◌≡◌, map, take}
use Rattle.dag_pb.specs.Views.{parts_of_link, parts_of_link_buf}
use Rattle.dag_pb.proofs.owned.lend_links.Given as goal

-- the links so far are lent
abbrev pub invariant-loop-link : goal.invariant-loop-link
invariant-loop-link l = map parts_of_link l.lent.items ≡ map parts_of_link_buf (take l.link-index l.links)
