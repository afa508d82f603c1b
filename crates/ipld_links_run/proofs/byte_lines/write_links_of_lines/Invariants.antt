use Rattle.ipld_links_run.specs.Said.{reading_of}
use Rattle.ipld_links_run.proofs.ByteLineLemmas.{Progress}
use Rattle.ipld_links_run.proofs.byte_lines.write_links_of_lines.Given as goal

-- the texts of each line so far were written
abbrev pub invariant-loop-count : goal.invariant-loop-count
invariant-loop-count g l =
    Progress (reading_of l.fn.content) (g.R.Read.remaining l.initial.reader) (g.R.Read.remaining l.reader) (g.W.Write.contents l.initial.writer)
    (g.W.Write.contents l.writer) l.texts l.count
