use Rattle.std.proofs.Common.{◌≡◌, inl, option_map, Some, sym, subst, ◌∙◌}
use Rattle.ipld_tree.specs.TreeOf.{tree_of}
use Rattle.ipld_tree.specs.Convert.{entries_in}
use Rattle.ipld_de.specs.Cursors.{entries_left}
use Rattle.ipld_de.specs.Fields.{strings, reads_fields}
use Rattle.ipld_de.proofs.FieldErrors.{strings_count}
use Rattle.ipld_explain.specs.Fields.{first_missing, MissingFails, FieldsFail, ExplainsEntries, RejectsEntries}
use Rattle.ipld_explain.specs.Failures.{failure_of}
use Rattle.ipld_explain.specs.declared.explanation.Expected.TheVariants.{Map}
use Rattle.ipld_explain.proofs.Naming.{struct_fails, struct_lacks, struct_read, struct_error}
use Rattle.ipld_explain.proofs.Taken.{map_there, no_map, other_kind}
use Rattle.ipld_explain.proofs.structs.explain_fields.Goals as goal

pub returns-in-Some-clause-why : goal.returns-in-Some-clause-why
returns-in-Some-clause-why g c =
    let names = strings c.args.names.now in
    let parts = g.F.ExplainFields.fields in
    let ms = entries_left c.in-Ok.map in
    struct_fails c.args.strict (g.F.Fields.named_reads names) parts names (tree_of c.args.value) ms (map_there (tree_of c.args.value) c.in-Ok.map c.in-Ok.ensures.content) (g.met.F.ExplainFields.decides names ms)
    (failure_of c.in-Some.explanation) (subst (λ o. ExplainsEntries c.args.strict parts names ms (option_map failure_of o)) c.in-Some.is c.in_ok-explanation-in-Ok.ensures.why)

pub returns-in_ok-missing_field-in-Some-missing-clause-why : goal.returns-in_ok-missing_field-in-Some-missing-clause-why
returns-in_ok-missing_field-in-Some-missing-clause-why g c =
    let names = strings c.args.names.now in
    let parts = g.F.ExplainFields.fields in
    let ms = entries_left c.in-Ok.map in
    let there = map_there (tree_of c.args.value) c.in-Ok.map c.in-Ok.ensures.content in
    let x = c.in_ok-missing_field-in-Some-missing in
    let name : Some c.in-Some-missing.name.now ≡ first_missing parts names ms = c.in-Some-missing.ensures ms there in
    struct_lacks c.args.strict (g.F.Fields.named_reads names) parts names (tree_of c.args.value) ms there (g.met.F.ExplainFields.decides names ms)
    (failure_of x.field-0) (subst (λ o. ExplainsEntries c.args.strict parts names ms (option_map failure_of o)) c.in-None.is c.in_ok-explanation-in-Ok.ensures.why)
    (subst (λ o. MissingFails o (failure_of x.field-0)) name (x.ensures.path, x.ensures.expected, x.ensures.error, x.ensures.wrong)) x.ensures.found

pub returns-in-None-missing-clause-why : goal.returns-in-None-missing-clause-why
returns-in-None-missing-clause-why g c =
    let names = strings c.args.names.now in
    let parts = g.F.ExplainFields.fields in
    let ms = entries_left c.in-Ok.map in
    let there = map_there (tree_of c.args.value) c.in-Ok.map c.in-Ok.ensures.content in
    struct_read c.args.strict (g.F.Fields.named_reads names) parts names (tree_of c.args.value) ms there (g.met.F.ExplainFields.decides names ms)
    c.requires.distinct (strings_count c.args.names.now ∙ c.requires.count)
    (subst (λ o. ExplainsEntries c.args.strict parts names ms (option_map failure_of o)) c.in-None.is c.in_ok-explanation-in-Ok.ensures.why)
    (sym (c.in-None-missing.ensures ms there))

pub returns-in-Err-clause-why : goal.returns-in-Err-clause-why
returns-in-Err-clause-why g c =
    let names = strings c.args.names.now in
    let parts = g.F.ExplainFields.fields in
    let t = tree_of c.args.value in
    let why = no_map t c.in-Err.error c.in-Err.ensures.content in
    other_kind Map entries_in (reads_fields c.args.strict names (g.F.Fields.named_reads names)) (λ ms. FieldsFail c.args.strict parts names (first_missing parts names ms) ms) t (failure_of c.at_value.result) (why.0, c.at_value.ensures.error ∙ why.1)
    c.at_value.ensures.path (sym (c.at_value.ensures.found ∙ c.kind-found.ensures)) c.at_value.ensures.expected c.at_value.ensures.wrong

pub returns-in-Some-clause-error : goal.returns-in-Some-clause-error
returns-in-Some-clause-error g c =
    let names = strings c.args.names.now in
    let ms = entries_left c.in-Ok.map in
    struct_error c.args.strict g.F.Fields.parts names (tree_of c.args.value) ms c.in-Some.explanation.error (map_there (tree_of c.args.value) c.in-Ok.map c.in-Ok.ensures.content)
    (subst (λ o. RejectsEntries c.args.strict g.F.Fields.parts names ms (option_map (λ x. x.error) o)) c.in-Some.is c.in_ok-explanation-in-Ok.ensures.error)

pub returns-in_ok-missing_field-in-Some-missing-clause-error : goal.returns-in_ok-missing_field-in-Some-missing-clause-error
returns-in_ok-missing_field-in-Some-missing-clause-error g c =
    let names = strings c.args.names.now in
    let ms = entries_left c.in-Ok.map in
    let x = c.in_ok-missing_field-in-Some-missing in
    struct_error c.args.strict g.F.Fields.parts names (tree_of c.args.value) ms x.field-0.error (map_there (tree_of c.args.value) c.in-Ok.map c.in-Ok.ensures.content)
    (subst (λ o. RejectsEntries c.args.strict g.F.Fields.parts names ms (option_map (λ x. x.error) o)) c.in-None.is c.in_ok-explanation-in-Ok.ensures.error x.field-0.error x.ensures.error)

pub returns-in-Err-clause-error : goal.returns-in-Err-clause-error
returns-in-Err-clause-error g c =
    let why = no_map (tree_of c.args.value) c.in-Err.error c.in-Err.ensures.content in
    inl (why.0, c.at_value.ensures.error ∙ why.1)
