use Rattle.std.proofs.Common.{rules}
use Rattle.ipld_links_run.proofs.LineLemmas.{reads_more, line_taken, last_taken}
use Rattle.ipld_links_run.proofs.lines.read_line.Goals as goal

pub loop-preserved : goal.loop-preserved
loop-preserved g c = reads_more _ _ _ _ _ c.loop.invariant (rw c.in-Open.is at c.in_ok-read_part.ensures)

pub returns-in-Ended : goal.returns-in-Ended
returns-in-Ended g c = line_taken _ _ _ _ _ c.loop.invariant (rw c.in-Ended.is at c.in_ok-read_part.ensures)

pub returns-in-Last : goal.returns-in-Last
returns-in-Last g c = last_taken _ _ _ _ _ _ c.loop.invariant (rw c.in-Last.is at c.in_ok-read_part.ensures) (search rules)
