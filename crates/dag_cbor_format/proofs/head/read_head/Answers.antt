use Rattle.std.proofs.Common.{List, ℕ, Option, sym, subst, arith}
use Rattle.dag_cbor_format.specs.declared.major.Major.{Major}
use Rattle.dag_cbor_format.specs.Errors.{head_error}
use Rattle.dag_cbor_format.specs.Parts.{Returns}
use Rattle.dag_cbor_format.proofs.HeadLaws.{parts_at}
use Rattle.dag_cbor_format.proofs.head.read_head.Goals as goal

pub returns : goal.returns
returns c =
    subst (λ (o : Option (Major × ℕ × List ℕ)). Returns (λ x. (x.0, x.1, x.2.now)) (head_error c.args.bytes.now) c.read_any_head.result o)
    (sym (parts_at c.args.bytes.now (λ i. omega (arith, c.type_inv.bytes i)))) c.read_any_head.ensures
