use Rattle.std.proofs.Common.{rules}
use Rattle.std.proofs.lemmas.Result.{err_from_is_err_and}
use Rattle.ipld_car.proofs.index.Blaming.{length_cut, length_uneven, bucket_blames}
use Rattle.ipld_car.proofs.index.read.read_bucket.Goals as goal

pub returns-in_err-length-clause-wrong : goal.returns-in_err-length-clause-wrong
returns-in_err-length-clause-wrong g c =
    let error = err_from_is_err_and c.from_residual-in_err-length.result c.from_residual-in_err-length.ensures.1 in
    rw (error.1, error.2) (λ ordered.
    length_cut c.args.code _ c.in_ok-width.width c.in-Some.digest_len _ _ c.in_err-length.field-0.0 c.in_ok-width.ensures.takes (search rules) (search rules) c.in_err-length.ensures.fails)

pub returns-then-length-width-ne0-clause-wrong : goal.returns-then-length-width-ne0-clause-wrong
returns-then-length-width-ne0-clause-wrong g c ordered =
    length_uneven c.args.code _ c.from-width.result c.in_ok-length.length c.in-Some.digest_len _ _ _ (search rules) c.in_ok-length.ensures.takes (search rules) (search rules) (search rules)
    c.if-length-width-ne0.true

pub returns-clause-wrong : goal.returns-clause-wrong
returns-clause-wrong g c =
    bucket_blames c.args.code _ c.from-width.result c.in_ok-length.length c.in-Some.digest_len _ _ _ _ _ (search rules) c.in_ok-length.ensures.takes (search rules) (search rules)
    c.if-length-width-ne0.false (search rules) (search rules) c.read_rows.ensures.wrong
