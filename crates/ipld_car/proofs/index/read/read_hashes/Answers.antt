use Rattle.std.proofs.Common.{rules, refl, arith, ◌≤◌, ◌-◌}
use Rattle.ipld_car.specs.IndexLayout.{IsHash, Parts}
use Rattle.ipld_car.proofs.index.Only.{goes_more}
use Rattle.ipld_car.proofs.index.Taking.{parts_more}
use Rattle.ipld_car.proofs.index.read.read_hashes.Goals as goal

pub loop-left-preserved : goal.loop-left-preserved
loop-left-preserved g c =
    let few : c.loop-left.left ≤ c.args.count = c.loop-left.invariant.1 in (
      parts_more IsHash c.args.count c.loop-left.left (c.loop-left.left - 1) _ _ _ _ _ _ c.loop-left.invariant.0 few (search rules) refl c.in_ok-read_hash.ensures.takes,
      omega arith,
      goes_more IsHash (Parts IsHash c.args.count) c.loop-left.left (c.loop-left.left - 1) _ _ _ _ _ _ c.loop-left.invariant.2 (search rules) refl
          c.in_ok-read_hash.ensures.only,
    )
