use Rattle.std.proofs.Common.{map, take}
use Rattle.std.specs.Io.KnownBytes.{Appends}
use Rattle.ipld_cid.specs.LinkOf.{link_of}
use Rattle.car_files.specs.Written.{texts_between}
use Rattle.car_files.proofs.list.write_each.Given as goal

-- the texts so far are written
abbrev pub invariant-loop-cid : goal.invariant-loop-cid
invariant-loop-cid g l =
    Appends (g.W.Write.contents l.initial.writer) (g.W.Write.contents l.writer) (texts_between l.before l.after (map link_of (take l.cid-index l.cids)))
