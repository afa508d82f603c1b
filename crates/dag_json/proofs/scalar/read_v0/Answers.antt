use Rattle.std.proofs.Common.{◌≡◌, sym, ap, ◌∙◌}
use Rattle.ipld_cid.specs.LinkOf.{link_of}
use Rattle.ipld_cid.specs.declared.cid.Version.{Version}
use Rattle.ipld_cid.specs.declared.cid.Version.TheVariants.{V0, V1}
use Rattle.ipld_cid_text.specs.UsualText.{usual_text}
use Rattle.dag_json.proofs.LinkReads.{no_v0, v0_read, same_text, other_text}
use Rattle.dag_json.proofs.scalar.read_v0.Goals as goal

pub returns-in_default : goal.returns-in_default
returns-in_default c = no_v0 c.args.text.now (λ l v e is. c.in_default.ensures.only l is)

pub returns-then-eq : goal.returns-then-eq
returns-then-eq c =
    let l = link_of c.in-Ok.cid in
    sym (v0_read l c.args.text.now (sym c.version.ensures ∙ c.in-V0.is) c.in-Ok.cid.valid
    (sym (same_text c.as_str.result.now c.args.text.now c.if-eq.ensures) ∙ c.as_str.ensures.value ∙ c.in_ok-written-in-V0.ensures.exact))

pub returns-in-V0 : goal.returns-in-V0
returns-in-V0 c =
    no_v0 c.args.text.now (λ l v e is.
    other_text c.as_str.result.now c.args.text.now c.if-eq.ensures
    (c.as_str.ensures.value ∙ c.in_ok-written-in-V0.ensures.exact ∙ ap usual_text (c.in-Ok.ensures.only l is) ∙ sym e))

pub returns : goal.returns
returns c =
    no_v0 c.args.text.now (λ l v e is.
    let clash : ◌≡◌ {A = Version} V1 V0 = sym c.in-V1.is ∙ c.version.ensures ∙ ap (λ k. k.version) (c.in-Ok.ensures.only l is) ∙ v in cc)
