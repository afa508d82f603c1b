use Rattle.std.proofs.Common.{List, ℕ, ◌≡◌, IfSome, sym, subst}
use Rattle.dag_cbor.proofs.Returning.{reader_decoded, reader_rejected}
use Rattle.dag_cbor.proofs.codec.DagCborCodecCodecIpld.decode.Goals as goal

pub returns-clause-ok : goal.returns-clause-ok
returns-clause-ok g c =
    let known = subst (λ (xs : List ℕ). IfSome (g.R.Read.remaining c.args.reader.now) (λ b. b ≡ xs)) (sym c.deref.ensures.value) c.in_ok-block.ensures.ok in
    reader_decoded c.decode_slice.result (g.R.Read.remaining c.args.reader.now) c.deref.result.now known c.decode_slice.ensures.found

pub returns-clause-err : goal.returns-clause-err
returns-clause-err g c =
    let known = subst (λ (xs : List ℕ). IfSome (g.R.Read.remaining c.args.reader.now) (λ b. b ≡ xs)) (sym c.deref.ensures.value) c.in_ok-block.ensures.ok in
    reader_rejected c.decode_slice.result (g.R.Read.remaining c.args.reader.now) c.deref.result.now known c.decode_slice.ensures.errors c.decode_slice.ensures.only
