use Rattle.std.proofs.Common.{map, take}
use Rattle.dag_cbor_format.specs.Writing.{Adds}
use Rattle.dag_cbor_format.specs.Canonical.{canonical_items}
use Rattle.dag_pb.specs.Views.{parts_of_link}
use Rattle.ipld_show.specs.Node.{link_trees}
use Rattle.ipld_show.proofs.as_cbor.write_pb_links.Given as goal

-- the links so far are written
abbrev pub invariant-loop-link : goal.invariant-loop-link
invariant-loop-link l =
    Adds (canonical_items (link_trees (map parts_of_link (take l.link-index l.links)))) l.initial.block.items l.block.items
