use Rattle.std.proofs.Common.{◌<◌, ◌^◌, length, arith, rules}
use Rattle.ipld_show.proofs.Skips.{inside}
use Rattle.ipld_show.proofs.Listing.{opens_either, container_begins, no_container, scalar_begins}
use Rattle.ipld_show.proofs.containers.begin_item.Goals as goal

pub returns-in_ok-push-in-List-2 : goal.returns-in_ok-push-in-List-2
returns-in_ok-push-in-List-2 c = λ d after more all i g small left p.
    let fits = c.ranges.left.fits in
    let few : length after < 2 ^ 64 = omega arith in
    container_begins c.args.head.now d after more c.args.opened.now.items c.args.containers.now.items all (inside c.args.head.now d after more i g) few p
    (record { index = c.len.result; start = c.args.left; items = c.items_in.result }) (record { size = 0; count = 0 }) c.push.new.self.items c.push-in-List.new.self.items (opens_either c.args.head.now c.in-List.is) (search rules) left c.items_in.ensures
    c.in_ok-push-in-List.ensures.items c.in_ok-push-in-List-2.ensures.items

pub returns-in_default : goal.returns-in_default
returns-in_default c = λ d after more all i g small left p.
    scalar_begins c.args.head.now d after more c.args.opened.now.items c.args.containers.now.items all i (no_container c.args.head.now c.in_default.not-List c.in_default.not-Map) p
