use Rattle.std.proofs.Common.{refl}
use Rattle.ipld_show.proofs.Items.{head_is, no_error}
use Rattle.ipld_show.proofs.Reached.{is_container, is_map_container, behind_scalar}
use Rattle.ipld_show.proofs.places.after_item.Goals as goal

pub returns-in_default : goal.returns-in_default
returns-in_default c = λ d mid post h. absurd (no_error d c.args.place.rest.now mid c.in_default.field-0 h.begins c.in_default.ensures.rejected)

pub returns-in-List : goal.returns-in-List
returns-in-List c = λ d mid post h.
    c.after_container.ensures d mid post h
    (is_container c.in-Ok.head d c.in-Ok.rest.now mid c.in-List.field-0 c.in-List.is (head_is d c.args.place.rest.now mid h.begins c.in-Ok.head c.in-Ok.rest.now c.in-Ok.ensures.found))

pub returns-in-Map : goal.returns-in-Map
returns-in-Map c = λ d mid post h.
    c.after_container-in-Map.ensures d mid post h
    (is_map_container c.in-Ok.head d c.in-Ok.rest.now mid c.in-Map.field-0 c.in-Map.is (head_is d c.args.place.rest.now mid h.begins c.in-Ok.head c.in-Ok.rest.now c.in-Ok.ensures.found))

pub returns-in_default-head : goal.returns-in_default-head
returns-in_default-head c = λ d mid post h.
    behind_scalar c.in-Ok.head d c.args.place (record { rest = c.in-Ok.rest; containers = c.args.place.containers }) mid post h c.in_default-head.not-List c.in_default-head.not-Map
    (head_is d c.args.place.rest.now mid h.begins c.in-Ok.head c.in-Ok.rest.now c.in-Ok.ensures.found) refl
