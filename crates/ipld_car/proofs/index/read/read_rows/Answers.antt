use Rattle.std.proofs.Common.{rules, refl, subst, ◌≤◌, ◌-◌, arith}
use Rattle.std.proofs.lemmas.Result.{err_from_is_err_and}
use Rattle.ipld_car.specs.IndexReading.{TakesRow}
use Rattle.ipld_car.proofs.index.Blaming.{rows_blame}
use Rattle.ipld_car.proofs.index.Only.{rows_go_on, rows_wrong}
use Rattle.ipld_car.proofs.index.Taking.{rows_more}
use Rattle.ipld_car.proofs.index.read.read_rows.Goals as goal
use Rattle.ipld_car.proofs.index.Taking.{state_of}

pub loop-left-preserved : goal.loop-left-preserved
loop-left-preserved g c =
    let few : c.loop-left.left ≤ c.args.count = c.loop-left.invariant.1 in (
      rows_more c.args.code c.args.digest_len c.args.count c.loop-left.left (c.loop-left.left - 1) _ _ _ _ _ _ c.loop-left.invariant.0 few (search rules) refl
          (subst (λ n. TakesRow c.args.code n (state_of (g.R.Read.remaining c.loop-left.reader) c.loop-left.entries.items) (state_of (g.R.Read.remaining c.read_row.new.reader) c.read_row.new.entries.items))
          (search rules) c.in_ok-read_row.ensures.takes),
      omega arith,
      rows_go_on c.args.code c.args.digest_len c.args.count _ c.loop-left.left (search rules) _ _ _ _ _ _ c.loop-left.invariant.2 (search rules) c.in_ok-read_row.ensures.only,
    )

pub returns-in_err-read_row-clause-only : goal.returns-in_err-read_row-clause-only
returns-in_err-read_row-clause-only g c =
    let error = err_from_is_err_and c.from_residual.result c.from_residual.ensures.1 in
    rw (error.1, error.2) (
    rows_wrong c.args.code c.args.digest_len c.args.count _ c.loop-left.left (search rules) _ _ _ _ _ _ c.loop-left.invariant.2 (search rules) c.in_err-read_row.field-0.0
    c.in_err-read_row.ensures.only
    )

pub returns-in_err-read_row-clause-wrong : goal.returns-in_err-read_row-clause-wrong
returns-in_err-read_row-clause-wrong g c =
    let error = err_from_is_err_and c.from_residual.result c.from_residual.ensures.1 in
    rw (error.1, error.2) (
    rows_blame c.args.code c.args.digest_len c.args.count c.loop-left.left _ _ _ _ _ c.in_err-read_row.field-0.0 (search rules) c.loop-left.invariant.0 (search rules) (search rules)
    c.in_err-read_row.ensures.wrong
    )
