use Rattle.std.proofs.Common.{Some, ap, subst, ◌∙◌, sym}
use Rattle.dag_cbor_format.specs.ItemHeads.{BeginsWith}
use Rattle.ipld_show.proofs.Items.{no_error}
use Rattle.ipld_show.proofs.Links.{no_link, link_head}
use Rattle.ipld_show.proofs.path.link_of_value.Goals as goal

pub returns-in_default : goal.returns-in_default
returns-in_default c = λ d behind b. absurd (no_error d c.args.value.now behind c.in_default.field-0 b c.in_default.ensures.rejected)

pub returns-in-Ok-try_from : goal.returns-in-Ok-try_from
returns-in-Ok-try_from c = λ d behind b.
    let l = link_head d c.args.value.now behind c.in-Link.bytes c.in-Ok.field-0-1.now b (subst (λ h. BeginsWith h c.args.value.now c.in-Ok.field-0-1.now) c.in-Link.is c.in-Ok.ensures.found) in
    ap Some (c.in-Ok-try_from.ensures.only l.0 l.2) ∙ sym l.1

pub returns-in-Err : goal.returns-in-Err
returns-in-Err c = λ d behind b.
    let l = link_head d c.args.value.now behind c.in-Link.bytes c.in-Ok.field-0-1.now b (subst (λ h. BeginsWith h c.args.value.now c.in-Ok.field-0-1.now) c.in-Link.is c.in-Ok.ensures.found) in
    c.in-Err.ensures.only l.0 l.2

pub returns-in_default-head : goal.returns-in_default-head
returns-in_default-head c = λ d behind b. sym (no_link d c.args.value.now behind c.in-Ok.head c.in-Ok.field-0-1.now b c.in-Ok.ensures.found c.in_default-head.not-Link)
