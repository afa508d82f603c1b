use Rattle.std.proofs.Common.{map, take}
use Rattle.std.specs.Io.KnownBytes.{Appends}
use Rattle.ipld_cid.specs.LinkOf.{link_of}
use Rattle.ipld_cid.specs.Text.{text_of}
use Rattle.ipld_links_run.specs.Output.{written}
use Rattle.ipld_links_run.proofs.lines.write_texts.Given as goal

-- the texts so far are written
abbrev pub invariant-loop-cid : goal.invariant-loop-cid
invariant-loop-cid g l =
    Appends (g.W.Write.contents l.initial.writer) (g.W.Write.contents l.writer) (written (map text_of (map link_of (take l.cid-index l.cids))))
