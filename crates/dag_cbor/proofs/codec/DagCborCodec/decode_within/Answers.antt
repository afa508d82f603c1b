use Rattle.std.proofs.Common.{List, ℕ, ◌≡◌, IfSome, sym, subst}
use Rattle.dag_cbor.proofs.Returning.{reader_decoded}
use Rattle.dag_cbor.proofs.codec.DagCborCodec.decode_within.Goals as goal

pub returns-in-Ok-clause-found : goal.returns-in-Ok-clause-found
returns-in-Ok-clause-found g c =
    let known = subst (λ (xs : List ℕ). IfSome (g.R.Read.remaining c.args.reader.now) (λ b. b ≡ xs)) (sym c.deref.ensures.value) c.in-Ok.ensures.ok in
    reader_decoded c.decode_slice_within.result (g.R.Read.remaining c.args.reader.now) c.deref.result.now known c.decode_slice_within.ensures.found
