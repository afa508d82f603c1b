use Rattle.std.proofs.Common.{◌≡◌, ◌++◌, length, sym, ◌∙◌, rules}
use Rattle.dag_cbor_format.proofs.ItemHeads.{float_cut, float_short}
use Rattle.dag_cbor_format.proofs.item.read_float.Goals as goal

pub returns-in_default-clause-rejected : goal.returns-in_default-clause-rejected
returns-in_default-clause-rejected c = float_short c.args.bytes.now c.in_default.ensures.cases

pub returns-then-not-is_finite-clause-rejected : goal.returns-then-not-is_finite-clause-rejected
returns-then-not-is_finite-clause-rejected c =
    let content = c.in-Some.content.now in
    let is : c.args.bytes.now ≡ content ++ c.in-Some.rest.now = search rules in
    let wide : length content ≡ 8 = search rules in
    float_cut c.args.bytes.now content c.in-Some.rest.now is wide (sym c.is_finite.ensures ∙ c.if-not-is_finite.true)
