use Rattle.std.proofs.Common.{sym, ap, subst}
use Rattle.dag_cbor_format.specs.declared.item.ItemHead.TheVariants as begin
use Rattle.ipld_show.specs.Heads.{IsHeadOf}
use Rattle.ipld_show.specs.JsonText.{is_text}
use Rattle.ipld_show.proofs.Items.{head_is, no_error}
use Rattle.ipld_show.proofs.Reached.{no_text}
use Rattle.ipld_show.proofs.places.is_text.Goals as goal

pub returns-in_default : goal.returns-in_default
returns-in_default c = λ d behind b. absurd (no_error d c.args.value.now behind c.in_default.field-0 b c.in_default.ensures.rejected)

pub returns-in-Str : goal.returns-in-Str
returns-in-Str c = λ d behind b.
    let i = head_is d c.args.value.now behind b c.in-Ok.head c.in-Ok.field-0-1.now c.in-Ok.ensures.found in
    let s : IsHeadOf (begin.Str c.in-Str.field-0) d c.in-Ok.field-0-1.now behind = subst (λ h. IsHeadOf h d c.in-Ok.field-0-1.now behind) c.in-Str.is i in
    sym (ap is_text s.0)

pub returns-in_default-head : goal.returns-in_default-head
returns-in_default-head c = λ d behind b.
    sym (no_text c.in-Ok.head d c.in-Ok.field-0-1.now behind (head_is d c.args.value.now behind b c.in-Ok.head c.in-Ok.field-0-1.now c.in-Ok.ensures.found) c.in_default-head.not-Str)
