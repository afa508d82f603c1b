use Rattle.std.proofs.Common.{IfOk, inl, option_map, ap, sym, subst, ◌∙◌}
use Rattle.ipld_tree.specs.TreeOf.{tree_of}
use Rattle.ipld_tree.specs.Convert.{entries_in}
use Rattle.ipld_ser.specs.Keys.{any_text}
use Rattle.ipld_ser.specs.Image.{NoError}
use Rattle.ipld_de.specs.Cursors.{entries_left}
use Rattle.ipld_de.specs.Composites.{read_entries, map_reading, EntriesError}
use Rattle.ipld_explain.specs.Composites.{EntriesFail, MapFails}
use Rattle.ipld_explain.specs.Failures.{failure_of, Explains}
use Rattle.ipld_explain.specs.declared.explanation.Expected.TheVariants.{Map}
use Rattle.ipld_explain.proofs.Taken.{map_there, no_map, other_kind, kind_error}
use Rattle.ipld_explain.proofs.containers.BTreeMapStringExplain.explain.Goals as goal

pub explain_values-requires : goal.explain_values-requires
explain_values-requires g c = c.in-Ok.ensures.ascends

pub returns-in-Ok-clause-why : goal.returns-in-Ok-clause-why
returns-in-Ok-clause-why g c =
    let reads = g.T.Deserialize.reads in
    let fails = g.T.Explain.fails in
    subst (λ t. IfOk c.explain_values.result (λ found. Explains (map_reading reads) (MapFails reads fails) t (option_map failure_of found)))
    (sym (map_there (tree_of c.args.value) c.in-Ok.map c.in-Ok.ensures.content)) c.explain_values.ensures.why

pub returns-in-Err-clause-why : goal.returns-in-Err-clause-why
returns-in-Err-clause-why g c =
    let reads = g.T.Deserialize.reads in
    let t = tree_of c.args.value in
    let why = no_map t c.in-Err.error c.in-Err.ensures.content in
    other_kind Map entries_in (read_entries any_text reads) (EntriesFail reads g.T.Explain.fails) t (failure_of c.at_value.result) (why.0, c.at_value.ensures.error ∙ why.1)
    c.at_value.ensures.path (sym (c.at_value.ensures.found ∙ c.kind-found.ensures)) c.at_value.ensures.expected c.at_value.ensures.wrong

pub returns-in-Ok-clause-error : goal.returns-in-Ok-clause-error
returns-in-Ok-clause-error g c =
    let map = c.in-Ok.map in
    kind_error entries_in (EntriesError any_text NoError g.T.Deserialize.reads g.T.Deserialize.read_error) (tree_of c.args.value) (entries_left map) c.explain_values.result
    (ap entries_in (map_there (tree_of c.args.value) map c.in-Ok.ensures.content)) c.explain_values.ensures.error

pub returns-in-Err-clause-error : goal.returns-in-Err-clause-error
returns-in-Err-clause-error g c =
    let why = no_map (tree_of c.args.value) c.in-Err.error c.in-Err.ensures.content in
    inl (why.0, c.at_value.ensures.error ∙ why.1)
