use Rattle.std.proofs.Common.{Ok, ap, sym, subst, ◌∙◌, true, false}
use Rattle.std.specs.Prelude.{FitsSigned}
use Rattle.std.specs.Int.{w128}
use Rattle.std.proofs.lemmas.Int.{to_z-of_z}
use Rattle.dag_json.proofs.Scalars.{number_found, number_none}
use Rattle.dag_json.proofs.scalar.read_number.Goals as goal

pub returns-in-Ok : goal.returns-in-Ok
returns-in-Ok c =
    let p = c.in-Ok.ensures.value.0 in
    ap Ok (to_z-of_z w128 c.in-Ok.number (subst (FitsSigned w128) (sym p.1) p.0.1)) ∙ number_found c.args.text.now c.in-Ok.number p.0 p.1

pub returns-in-Err : goal.returns-in-Err
returns-in-Err c = number_none c.args.text.now true c.in-Err.ensures.value.0 (sym c.is_integral.ensures ∙ c.if-is_integral.true)

pub returns-in-Err-2 : goal.returns-in-Err-2
returns-in-Err-2 c = number_none c.args.text.now false c.in-Err-2.ensures.value.0 (sym c.is_integral.ensures ∙ c.if-is_integral.false)
