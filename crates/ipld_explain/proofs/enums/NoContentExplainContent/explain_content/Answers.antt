use Rattle.std.proofs.Common.{Some, option_map, string_bytes, ap, sym, subst}
use Rattle.ipld_tree.specs.TreeOf.{tree_of}
use Rattle.ipld_tree.specs.Convert.{nothing_in}
use Rattle.ipld_de.specs.Reading.{OtherKind}
use Rattle.ipld_explain.specs.Failures.{failure_of, FailsHere, Explains}
use Rattle.ipld_explain.specs.Enums.{unit_reading, UnitFails, ExplainsContent}
use Rattle.ipld_explain.specs.declared.explanation.Expected.TheVariants.{Null}
use Rattle.ipld_explain.proofs.Units.{unit_fails}
use Rattle.ipld_explain.proofs.enums.NoContentExplainContent.explain_content.Goals as goal

pub returns-in_ok-within_segment-in-Some-2-clause-why : goal.returns-in_ok-within_segment-in-Some-2-clause-why
returns-in_ok-within_segment-in-Some-2-clause-why c =
    let t = tree_of c.in-Some.content in
    let f = failure_of c.in_ok-within_segment-in-Some-2.field-0 in
    subst (λ o. ExplainsContent unit_reading UnitFails (string_bytes c.args.name) o (Some f)) (sym (ap (option_map tree_of) c.in-Some.is))
    (unit_fails (string_bytes c.args.name) t (failure_of c.in-Some-2.explanation) f
    (subst (λ o. Explains nothing_in (λ u. FailsHere Null (OtherKind u)) t (option_map failure_of o)) c.in-Some-2.is c.in_ok-explain-in-Some.ensures.why) c.in_ok-within_segment-in-Some-2.ensures)
