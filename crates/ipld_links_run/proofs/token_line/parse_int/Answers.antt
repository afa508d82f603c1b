use Rattle.std.proofs.Common.{Some, ap, sym, ◌∙◌}
use Rattle.std.specs.Int.{w128}
use Rattle.std.proofs.lemmas.Int.{to_z-of_z}
use Rattle.ipld_links_run.proofs.TokenLineLemmas.{int_parsed, int_fits, number_is, number_is_none}
use Rattle.ipld_links_run.proofs.token_line.parse_int.Goals as goal

pub returns-in-Ok : goal.returns-in-Ok
returns-in-Ok c =
    let parsed = c.parse.ensures.value.0 in
    number_is _ _ _ c.in-Ok.is (int_parsed c.args.field.now _ parsed) ∙ ap Some (sym (to_z-of_z w128 _ (int_fits c.args.field.now _ _ c.in-Ok.is parsed)))

pub returns-in-Err : goal.returns-in-Err
returns-in-Err c = number_is_none _ _ _ c.in-Err.is (int_parsed c.args.field.now _ c.parse.ensures.value.0)
