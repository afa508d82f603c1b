use Rattle.std.proofs.Common.{rules, ◌≡◌, subst}
use Rattle.dag_json.specs.Canonical.{DifferFrom}
use Rattle.dag_json.proofs.Differing.{differ_from}
use Rattle.dag_json.proofs.decode.first_difference.Goals as goal

pub returns-in-Ok-2 : goal.returns-in-Ok-2
returns-in-Ok-2 c =
    let apart : c.deref.result.now ≡ c.args.bytes.now → ⊥ = search rules in (
      c.in-Ok.text.items,
      c.in-Ok.ensures.ok,
      subst (λ text. DifferFrom text c.args.bytes.now c.common_len.result) c.deref.ensures.value
          (differ_from c.common_len.result c.deref.result.now c.args.bytes.now c.common_len.ensures.within.0 c.common_len.ensures.within.1 c.common_len.ensures.same c.common_len.ensures.differ apart),
    )
