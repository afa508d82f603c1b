use Rattle.std.proofs.Common.{IfOk, inl, option_map, ap, sym, subst, ◌∙◌}
use Rattle.ipld_tree.specs.TreeOf.{tree_of}
use Rattle.ipld_tree.specs.Convert.{list_in}
use Rattle.ipld_de.specs.Cursors.{left}
use Rattle.ipld_de.specs.Composites.{read_all, list_reading, ItemsError}
use Rattle.ipld_explain.specs.Composites.{ItemsFail, ListFails}
use Rattle.ipld_explain.specs.Failures.{failure_of, Explains}
use Rattle.ipld_explain.specs.declared.explanation.Expected.TheVariants.{List}
use Rattle.ipld_explain.proofs.Taken.{list_there, no_list, other_kind, kind_error}
use Rattle.ipld_explain.proofs.containers.VecExplain.explain.Goals as goal

pub returns-in-Ok-clause-why : goal.returns-in-Ok-clause-why
returns-in-Ok-clause-why g c =
    let reads = g.T.Deserialize.reads in
    let fails = g.T.Explain.fails in
    subst (λ t. IfOk c.explain_items.result (λ found. Explains (list_reading reads) (ListFails reads fails) t (option_map failure_of found)))
    (sym (list_there (tree_of c.args.value) c.in-Ok.items c.in-Ok.ensures)) c.explain_items.ensures.why

pub returns-in-Err-clause-why : goal.returns-in-Err-clause-why
returns-in-Err-clause-why g c =
    let reads = g.T.Deserialize.reads in
    let t = tree_of c.args.value in
    let why = no_list t c.in-Err.error c.in-Err.ensures in
    other_kind List list_in (read_all reads) (ItemsFail reads g.T.Explain.fails 0) t (failure_of c.at_value.result) (why.0, c.at_value.ensures.error ∙ why.1)
    c.at_value.ensures.path (sym (c.at_value.ensures.found ∙ c.kind-found.ensures)) c.at_value.ensures.expected c.at_value.ensures.wrong

pub returns-in-Ok-clause-error : goal.returns-in-Ok-clause-error
returns-in-Ok-clause-error g c =
    let items = c.in-Ok.items in
    kind_error list_in (ItemsError g.T.Deserialize.reads g.T.Deserialize.read_error) (tree_of c.args.value) (left items) c.explain_items.result
    (ap list_in (list_there (tree_of c.args.value) items c.in-Ok.ensures)) c.explain_items.ensures.error

pub returns-in-Err-clause-error : goal.returns-in-Err-clause-error
returns-in-Err-clause-error g c =
    let why = no_list (tree_of c.args.value) c.in-Err.error c.in-Err.ensures in
    inl (why.0, c.at_value.ensures.error ∙ why.1)
