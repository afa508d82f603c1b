use Rattle.std.proofs.Common.{map, take}
use Rattle.std.specs.Io.KnownBytes.{Appends}
use Rattle.ipld_cid.specs.LinkOf.{link_of}
use Rattle.ipld_block.specs.Texts.{lines_of}
use Rattle.ipld_block.proofs.text.write_links.Given as goal

-- the lines so far are written
abbrev pub invariant-loop-link : goal.invariant-loop-link
invariant-loop-link g l =
    Appends (g.W.Write.contents l.initial.writer) (g.W.Write.contents l.writer) (lines_of (map link_of (take l.link-index l.links)))
