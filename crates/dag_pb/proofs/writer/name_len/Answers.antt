use Rattle.std.proofs.Common.{ℕ, List, subst, arith}
use Rattle.std.specs.Prelude.{IsUtf8}
use Rattle.pb_wire.proofs.Written.{content_written}
use Rattle.dag_pb.proofs.writer.name_len.Goals as goal

pub returns-in-Some-clause-encoded : goal.returns-in-Some-clause-encoded
returns-in-Some-clause-encoded c =
    let utf8 = subst (λ (t : List ℕ). IsUtf8 t) c.as_bytes.ensures.value c.as_bytes.ensures.utf8 in
    let short = c.content_len.ensures.short.1 in
    rw c.in-Some.is (utf8, content_written 2 c.in-Some.name.now (omega arith) (omega (arith, c.as_bytes.ensures.len)))
