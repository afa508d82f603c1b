use Rattle.std.proofs.Common.{map, take}
use Rattle.std.specs.Io.KnownBytes.{Appends}
use Rattle.ipld_cid.specs.LinkOf.{link_of}
use Rattle.car_files.specs.Written.{edges_text}
use Rattle.car_files.proofs.list.write_edges.Given as goal

-- the links so far are written
abbrev pub invariant-loop-link : goal.invariant-loop-link
invariant-loop-link g l =
    Appends (g.W.Write.contents l.initial.writer) (g.W.Write.contents l.writer)
    (edges_text l.before l.between l.after (link_of l.block) (map link_of (take l.link-index l.links)))
