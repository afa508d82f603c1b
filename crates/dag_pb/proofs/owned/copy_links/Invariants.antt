use Rattle.std.proofs.Common.{◌≡◌, map, take}
use Rattle.dag_pb.specs.Views.{parts_of_link, parts_of_link_buf}
use Rattle.dag_pb.proofs.owned.copy_links.Given as goal

-- the links so far are copied
abbrev pub invariant-loop-link : goal.invariant-loop-link
invariant-loop-link l = map parts_of_link_buf l.copies.items ≡ map parts_of_link (take l.link-index l.links)
