use Rattle.std.proofs.Common.{◌≡◌, Some}
use Rattle.test_calls.proofs.Received.{received, not_rejected}
use Rattle.test_calls.proofs.codec.generic.sent_and_received.Goals as goal

pub returns-clause-same : goal.returns-clause-same
returns-clause-same g c =
    let back : g.C.Codec.decoded c.deref.result.now ≡ Some (g.C.Codec.contents c.args.value.now) =
    rw c.deref.ensures.value ((g.met.C.Codec.decodes_encoded _ _).1 (g.met.C.Codec.writes_encoded _ _ c.in-Ok.ensures.ok)) in
    received g.C.Codec.contents g.C.Codec.failure_of _ _ back _ c.decode_from_slice.ensures.ok

pub returns-clause-err : goal.returns-clause-err
returns-clause-err g c =
    let back : g.C.Codec.decoded c.deref.result.now ≡ Some (g.C.Codec.contents c.args.value.now) =
    rw c.deref.ensures.value ((g.met.C.Codec.decodes_encoded _ _).1 (g.met.C.Codec.writes_encoded _ _ c.in-Ok.ensures.ok)) in
    not_rejected g.C.Codec.contents g.C.Codec.failure_of _ _ back _ _ _ c.decode_from_slice.ensures.err
