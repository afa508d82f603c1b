use Rattle.std.proofs.Common.{◌≡◌, length, get_or, refl, sym, ◌∙◌, arith}
use Rattle.dag_json.proofs.Seeking.{seek_some, seek_none, seek_all}
use Rattle.dag_json.proofs.offset.token_offset.Goals as goal

pub returns-in-None-clause-value : goal.returns-in-None-clause-value
returns-in-None-clause-value c =
    sym (seek_none c.args.may_pass c.loop-i.walk c.args.text.now c.loop-i.i (get_or c.args.text.now c.loop-i.i 0) (sym c.pass.ensures ∙ c.in-None.is) (omega arith) refl) ∙ c.loop-i.invariant

pub loop-i-preserved : goal.loop-i-preserved
loop-i-preserved c =
    seek_some c.args.may_pass c.loop-i.walk c.in-Some.next c.args.text.now c.loop-i.i (get_or c.args.text.now c.loop-i.i 0) (sym c.pass.ensures ∙ c.in-Some.is) (omega arith) refl ∙ c.loop-i.invariant

pub returns-clause-value : goal.returns-clause-value
returns-clause-value c =
    let all : length c.args.text.now ≡ c.loop-i.i = omega arith in
    all ∙ sym (seek_all c.args.may_pass c.loop-i.walk c.args.text.now c.loop-i.i (omega arith)) ∙ c.loop-i.invariant
