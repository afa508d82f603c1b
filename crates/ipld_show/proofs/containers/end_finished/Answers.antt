use Rattle.std.proofs.Common.{◌-◌, refl, arith, rules}
use Rattle.ipld_show.proofs.Listing.{container_ends, container_goes_on, all_ended}
use Rattle.ipld_show.proofs.containers.end_finished.Goals as goal

pub loop-innermost-init : goal.loop-innermost-init
loop-innermost-init c = λ all rest l p. p

pub returns-then-innermost-gt0 : goal.returns-then-innermost-gt0
returns-then-innermost-gt0 c = λ all rest l p.
    container_goes_on c.loop-innermost.opened.items c.pop.new.self.items c.in-Some.innermost rest c.loop-innermost.containers.items all c.in-Some.ensures.items (c.loop-innermost.invariant all rest l p)
    c.push.new.self.items (record { index = c.in-Some.innermost.index; start = c.in-Some.innermost.start; items = c.in-Some.innermost.items - 1 }) c.in_ok-push.ensures.items (omega arith) refl refl

pub loop-innermost-preserved : goal.loop-innermost-preserved
loop-innermost-preserved c = λ all rest l p.
    container_ends c.loop-innermost.opened.items c.pop.new.self.items c.in-Some.innermost rest c.loop-innermost.containers.items all c.in-Some.ensures.items (c.loop-innermost.invariant all rest l p)
    c.args.left c.end_container.new.containers.items l (omega arith) c.end_container.ensures

pub returns : goal.returns
returns c = λ all rest l p.
    all_ended c.loop-innermost.opened.items c.pop.new.self.items rest c.loop-innermost.containers.items all (search rules) (search rules) (c.loop-innermost.invariant all rest l p)
