use Rattle.std.proofs.Common.{◌≤◌, length, ap, refl, ◌∙◌, length-append, arith, rules}
use Rattle.ipld_show.specs.DataItem.{encoding}
use Rattle.ipld_show.specs.Extents.{extents}
use Rattle.ipld_show.proofs.Items.{head_is, no_error}
use Rattle.ipld_show.proofs.Listing.{first_item, all_listed, item_follows}
use Rattle.ipld_show.proofs.containers.containers_of.Goals as goal

pub loop-head-init : goal.loop-head-init
loop-head-init c = λ d behind b. first_item d c.args.value.now behind c.new-opened.result.items c.new-containers.result.items c.new-opened.ensures.items c.new-containers.ensures.items b

pub returns-in_default : goal.returns-in_default
returns-in_default c = λ d behind b.
    let r = c.loop-head.invariant d behind b in
    absurd (no_error r.next c.loop-head.rest.now r.more c.in_default.field-0 r.begins c.in_default.ensures.rejected)

pub returns-then-is_empty : goal.returns-then-is_empty
returns-then-is_empty c = λ d behind b.
    let r = c.loop-head.invariant d behind b in
    let after = c.in-Ok.after.now in
    let w = head_is r.next c.loop-head.rest.now r.more r.begins c.in-Ok.head after c.in-Ok.ensures.found in
    let shorter = c.in-Ok.ensures.shorter in
    let small : length after ≤ length c.loop-head.rest.now = omega arith in
    let p = c.in_ok-begin_item.ensures r.next after r.more (extents d) w r.begins.is_item small (ap length r.begins.encoded ∙ length-append (encoding r.next) r.more) r.pending in
    let f = c.in_ok-end_finished.ensures (extents d) after refl p in
    all_listed c.end_finished.new.opened.items after c.end_finished.new.containers.items (extents d) (first_of (omega arith, search rules, grind arith)) f

pub loop-head-preserved : goal.loop-head-preserved
loop-head-preserved c = λ d behind b.
    let r = c.loop-head.invariant d behind b in
    let after = c.in-Ok.after.now in
    let w = head_is r.next c.loop-head.rest.now r.more r.begins c.in-Ok.head after c.in-Ok.ensures.found in
    let shorter = c.in-Ok.ensures.shorter in
    let small : length after ≤ length c.loop-head.rest.now = omega arith in
    let p = c.in_ok-begin_item.ensures r.next after r.more (extents d) w r.begins.is_item small (ap length r.begins.encoded ∙ length-append (encoding r.next) r.more) r.pending in
    let f = c.in_ok-end_finished.ensures (extents d) after refl p in
    item_follows c.end_finished.new.opened.items after c.end_finished.new.containers.items (extents d) (first_of (omega arith, search rules, grind arith)) f
