use Rattle.std.proofs.Common.{rules}
use Rattle.std.proofs.lemmas.Result.{err_from_is_err_and}
use Rattle.ipld_car.proofs.index.Blaming.{count_cut_short}
use Rattle.ipld_car.proofs.index.Only.{index_read, index_wrong, index_no_count}
use Rattle.ipld_car.proofs.index.read.read_index.Goals as goal

pub returns-clause-only : goal.returns-clause-only
returns-clause-only g c format bytes rest entries known i s =
    index_read _ _ _ _ _ _ _ _ c.in_ok-format.ensures.takes c.in_ok-count.ensures.takes (search rules) c.new-entries.ensures.items c.in_ok-read_parts.ensures.only
    format bytes rest entries known i s

pub returns-in_err-read_parts-clause-only : goal.returns-in_err-read_parts-clause-only
returns-in_err-read_parts-clause-only g c format bytes rest entries known i s =
    let error = err_from_is_err_and c.from_residual-in_err-read_parts.result c.from_residual-in_err-read_parts.ensures.1 in
    rw (error.1, error.2) (
    index_wrong _ _ _ _ _ _ _ _ c.in_ok-format.ensures.takes c.in_ok-count.ensures.takes (search rules) c.new-entries.ensures.items c.in_err-read_parts.field-0.0
    c.in_err-read_parts.ensures.only format bytes rest entries known i s
    )

pub returns-in_err-count-clause-only : goal.returns-in_err-count-clause-only
returns-in_err-count-clause-only g c format bytes rest entries known i s =
    let error = err_from_is_err_and c.from_residual-in_err-count.result c.from_residual-in_err-count.ensures.1 in
    rw (error.1, error.2) (index_no_count c.in_err-count.field-0.0 _ _ _ format bytes rest entries c.in_ok-format.ensures.takes c.in_err-count.ensures.fails known i)

pub returns-in_err-count-clause-wrong : goal.returns-in_err-count-clause-wrong
returns-in_err-count-clause-wrong g c =
    let error = err_from_is_err_and c.from_residual-in_err-count.result c.from_residual-in_err-count.ensures.1 in
    rw (error.1, error.2) (count_cut_short _ _ _ c.in_err-count.field-0.0 c.in_ok-format.ensures.takes c.in_err-count.ensures.fails)
