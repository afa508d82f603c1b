use Rattle.std.proofs.Common.{List, ℕ, ◌≡◌, Some, IfSome, sym, subst}
use Rattle.dag_cbor_serde.specs.Read.{reads_block, BlockWithin, NotRead}
use Rattle.dag_cbor_serde.proofs.Reading.{given_ok, given_err}
use Rattle.dag_cbor_serde.proofs.de.from_reader_within.Goals as goal

pub returns-clause-ok : goal.returns-clause-ok
returns-clause-ok g c =
    let known = subst (λ (xs : List ℕ). IfSome (g.R.Read.remaining c.args.reader.now) (λ b. b ≡ xs)) (sym c.deref.ensures.value) c.in_ok-block.ensures.ok in
    given_ok c.from_slice_within.result (g.R.Read.remaining c.args.reader.now) c.deref.result.now (λ v block. reads_block g.T.Deserialize.reads block ≡ Some (g.T.Deserialize.contents v)) known c.from_slice_within.ensures.ok

pub returns-clause-within : goal.returns-clause-within
returns-clause-within g c =
    let known = subst (λ (xs : List ℕ). IfSome (g.R.Read.remaining c.args.reader.now) (λ b. b ≡ xs)) (sym c.deref.ensures.value) c.in_ok-block.ensures.ok in
    given_ok c.from_slice_within.result (g.R.Read.remaining c.args.reader.now) c.deref.result.now (λ v block. BlockWithin c.args.limits.now block) known c.from_slice_within.ensures.within

pub returns-clause-err : goal.returns-clause-err
returns-clause-err g c =
    let known = subst (λ (xs : List ℕ). IfSome (g.R.Read.remaining c.args.reader.now) (λ b. b ≡ xs)) (sym c.deref.ensures.value) c.in_ok-block.ensures.ok in
    given_err c.from_slice_within.result (g.R.Read.remaining c.args.reader.now) c.deref.result.now (λ e block. NotRead g.T.Deserialize.reads g.T.Deserialize.read_error c.args.limits.now block e) known c.from_slice_within.ensures.err
