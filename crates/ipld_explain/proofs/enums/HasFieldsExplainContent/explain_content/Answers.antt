use Rattle.std.proofs.Common.{false, Some, option_map, option_and_then, string_bytes, ap, sym, subst}
use Rattle.ipld_tree.specs.TreeOf.{tree_of}
use Rattle.ipld_de.specs.Fields.{strings, struct_reading}
use Rattle.ipld_explain.specs.Failures.{failure_of, Explains}
use Rattle.ipld_explain.specs.Fields.{StructFails}
use Rattle.ipld_explain.specs.Enums.{ContentFails, ExplainsContent}
use Rattle.ipld_explain.proofs.Variants.{content_fails}
use Rattle.ipld_explain.proofs.enums.HasFieldsExplainContent.explain_content.Goals as goal

pub returns-in_ok-within_segment-in-Some-2-clause-why : goal.returns-in_ok-within_segment-in-Some-2-clause-why
returns-in_ok-within_segment-in-Some-2-clause-why g c =
    let fields = strings c.args.fields.now in
    let reads = struct_reading (g.F.Fields.named_reads fields) in
    let fails = StructFails false g.F.ExplainFields.fields fields in
    let t = tree_of c.in-Some.content in
    let f = failure_of c.in_ok-within_segment-in-Some-2.field-0 in
    subst (λ o. ExplainsContent (option_and_then reads) (ContentFails fails) (string_bytes c.args.name) o (Some f)) (sym (ap (option_map tree_of) c.in-Some.is))
    (content_fails reads fails (string_bytes c.args.name) t (failure_of c.in-Some-2.explanation) f
    (subst (λ o. Explains reads fails t (option_map failure_of o)) c.in-Some-2.is c.in_ok-explain_struct-in-Some.ensures.why) c.in_ok-within_segment-in-Some-2.ensures)
