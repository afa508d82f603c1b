use Rattle.std.proofs.Common.{◌≡◌, ◌-◌, ◌*◌, ◌^◌, ◌%◌, ◌≤◌, arith}
use Rattle.std.proofs.Math.Nat.{mod-eq_of_lt}
use Rattle.ipld_cid_text.proofs.Regrouping.{grouped_filled, last_fits}
use Rattle.ipld_cid_text.proofs.regroup.groups_of.Goals as goal

pub overflow_cast-rest : goal.overflow_cast-rest
overflow_cast-rest g c =
    let w = g.row.W in
    let count = c.regroup-groups.result.2 in
    let few : count ≤ w = omega (arith, c.regroup-groups.ensures.count) in
    let fits = last_fits w count c.regroup-groups.result.1 few c.requires.narrow c.regroup-groups.ensures.rest in
    let same : c.regroup-groups.result.1 * 2 ^ (w - count) % 4294967296 ≡ c.regroup-groups.result.1 * 2 ^ (w - count) = mod-eq_of_lt (omega (arith, fits)) in
    omega (arith, same, fits)

pub returns-then-count-gt0 : goal.returns-then-count-gt0
returns-then-count-gt0 g c =
    grouped_filled g.row.W c.args.bytes.now c.regroup-groups.result.0 c.push.new.self c.regroup-groups.result.1 c.regroup-groups.result.2 (λ i. omega (arith, c.type_inv.bytes i)) c.requires.narrow
    c.regroup-groups.ensures.below c.if-count-gt0.true c.regroup-groups.ensures.count c.regroup-groups.ensures.rest c.regroup-groups.ensures.bits c.push.ensures
