use Rattle.std.proofs.Common.{subst}
use Rattle.dag_cbor_format.specs.ItemHeads.{BeginsWith}
use Rattle.ipld_show.proofs.Items.{no_error}
use Rattle.ipld_show.proofs.Skips.{in_map, in_list, in_neither}
use Rattle.ipld_show.proofs.path.value_of_segment.Goals as goal

pub returns-in_default : goal.returns-in_default
returns-in_default c = λ d behind b.
    absurd (no_error d c.args.value.now behind c.in_default.field-0 b c.in_default.ensures.rejected)

pub returns-in-Map : goal.returns-in-Map
returns-in-Map c = λ d behind b.
    in_map d c.args.value.now c.in-Ok.rest.now behind c.args.segment.now c.args.number b c.in-Map.entries c.entry_at.result c.found_or_error.result
    (subst (λ h. BeginsWith h c.args.value.now c.in-Ok.rest.now) c.in-Map.is c.in-Ok.ensures.found) c.entry_at.ensures c.found_or_error.ensures

pub returns-in-List : goal.returns-in-List
returns-in-List c = λ d behind b.
    in_list d c.args.value.now c.in-Ok.rest.now behind c.args.segment.now c.args.number b c.in-List.items c.item_at.result c.found_or_error-in-List.result
    (subst (λ h. BeginsWith h c.args.value.now c.in-Ok.rest.now) c.in-List.is c.in-Ok.ensures.found) c.item_at.ensures c.found_or_error-in-List.ensures

pub returns-in_default-head : goal.returns-in_default-head
returns-in_default-head c = λ d behind b.
    in_neither d c.args.value.now c.in-Ok.rest.now behind c.args.segment.now c.args.number b c.in-Ok.head c.in-Ok.ensures.found c.in_default-head.not-Map c.in_default-head.not-List
