use Rattle.std.proofs.Common.{inl, length, sym, ◌∙◌}
use Rattle.ipld_tree.specs.TreeOf.{tree_of}
use Rattle.ipld_tree.specs.Convert.{list_in}
use Rattle.ipld_de.specs.Forms.{count_items}
use Rattle.ipld_explain.specs.Failures.{failure_of}
use Rattle.ipld_explain.specs.Tuples.{PartsFail}
use Rattle.ipld_explain.specs.declared.explanation.Expected.TheVariants.{List}
use Rattle.ipld_explain.proofs.Taken.{no_list, other_kind}
use Rattle.ipld_explain.proofs.tuples.explain_tuple.Goals as goal

pub returns-in-Err-clause-why : goal.returns-in-Err-clause-why
returns-in-Err-clause-why g c =
    let t = tree_of c.args.value in
    let why = no_list t c.in-Err.error c.in-Err.ensures in
    other_kind List list_in g.P.Parts.reads (λ ts. PartsFail (length g.P.Parts.parts) (count_items ts) g.P.Parts.parts 0 ts) t (failure_of c.at_value.result) (why.0, c.at_value.ensures.error ∙ why.1)
    c.at_value.ensures.path (sym (c.at_value.ensures.found ∙ c.kind-kind.ensures)) c.at_value.ensures.expected c.at_value.ensures.wrong

pub returns-in-Err-clause-error : goal.returns-in-Err-clause-error
returns-in-Err-clause-error g c =
    let why = no_list (tree_of c.args.value) c.in-Err.error c.in-Err.ensures in
    inl (why.0, c.at_value.ensures.error ∙ why.1)
