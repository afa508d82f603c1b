use Rattle.std.proofs.Common.{rules}
use Rattle.ipld_car.proofs.index.Blaming.{row_blames}
use Rattle.ipld_car.proofs.index.Only.{row_read}
use Rattle.ipld_car.proofs.index.Taking.{row_taken}
use Rattle.ipld_car.proofs.index.read.read_row.Goals as goal

pub returns-clause-takes : goal.returns-clause-takes
returns-clause-takes g c =
    row_taken _ _ _ _ _ _ _ _ _ _ _ c.in_ok-read_exact.ensures.takes c.in_ok-offset.ensures.takes (search rules) (search rules) (search rules) c.add_entry.ensures.behind c.add_entry.ensures.sorted

pub returns-clause-only : goal.returns-clause-only
returns-clause-only g c =
    row_read _ _ _ _ _ _ _ _ _ _ _ c.in_ok-read_exact.ensures.takes c.in_ok-offset.ensures.takes (search rules) (search rules) (search rules) c.add_entry.ensures.behind c.add_entry.ensures.fails

pub returns-clause-wrong : goal.returns-clause-wrong
returns-clause-wrong g c =
    row_blames _ _ _ _ _ _ _ _ _ _ c.in_ok-read_exact.ensures.takes c.in_ok-offset.ensures.takes (search rules) (search rules) (search rules) c.add_entry.ensures.fails
