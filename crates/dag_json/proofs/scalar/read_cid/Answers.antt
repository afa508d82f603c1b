use Rattle.std.proofs.Common.{IfOk, sym, ap, subst, ◌≡◌, ◌∙◌}
use Rattle.std.specs.Option.{option_map}
use Rattle.ipld_cid.specs.LinkOf.{link_of}
use Rattle.dag_json.specs.LinkRead.{begins_b}
use Rattle.dag_json.proofs.LinkReads.{v1_is, v1_none, v0_is}
use Rattle.dag_json.proofs.scalar.read_cid.Goals as goal

pub returns-in-Ok : goal.returns-in-Ok
returns-in-Ok c =
    v1_is c.args.text.now (link_of c.in-Ok.cid) (ap begins_b (sym c.as_bytes.ensures.value) ∙ sym c.begins_with_b.ensures ∙ c.if-begins_with_b.true) c.in-Ok.ensures.value.exact

pub returns-in-Err : goal.returns-in-Err
returns-in-Err c =
    v1_none c.args.text.now c.in-Err.field-0 (ap begins_b (sym c.as_bytes.ensures.value) ∙ sym c.begins_with_b.ensures ∙ c.if-begins_with_b.true) c.in-Err.ensures.value.exact

pub returns-else-begins_with_b : goal.returns-else-begins_with_b
returns-else-begins_with_b c =
    subst (λ o. IfOk c.read_v0.result (λ found. option_map link_of found ≡ o))
    (sym (v0_is c.args.text.now (ap begins_b (sym c.as_bytes.ensures.value) ∙ sym c.begins_with_b.ensures ∙ c.if-begins_with_b.false))) c.read_v0.ensures
