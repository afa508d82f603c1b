use Rattle.std.proofs.Common.{ap, sym, ◌∙◌}
use Rattle.ipld_tree.specs.TreeOf.{tree_of}
use Rattle.ipld_tree.proofs.Copying.{map_begun, list_begun, whole_work, list_work, map_work}
use Rattle.ipld_tree.proofs.clone.by_loop.Begun.new.Goals as goal

pub returns-in_ok-with_capacity-in-List-clause-work : goal.returns-in_ok-with_capacity-in-List-clause-work
returns-in_ok-with_capacity-in-List-clause-work c = list_work c.args.value.now c.in-List.items _ c.in-List.is (c.iter.ensures.rest ∙ c.deref-in-List.ensures.value)

pub returns-in-Map-clause-copy : goal.returns-in-Map-clause-copy
returns-in-Map-clause-copy c = map_begun c.args.value.now c.in-Map.members _ _ c.in-Map.is c.iter-in-Map.ensures.rest c.new.ensures.empty c.iter-in-Map.ensures.ordered

pub returns-in-Map-clause-work : goal.returns-in-Map-clause-work
returns-in-Map-clause-work c = map_work c.args.value.now c.in-Map.members _ c.in-Map.is c.iter-in-Map.ensures.rest

pub returns-in-Null-clause-work : goal.returns-in-Null-clause-work
returns-in-Null-clause-work c = whole_work c.args.value.now

pub returns-in-Bool-clause-work : goal.returns-in-Bool-clause-work
returns-in-Bool-clause-work c = whole_work c.args.value.now

pub returns-in-Integer-clause-work : goal.returns-in-Integer-clause-work
returns-in-Integer-clause-work c = whole_work c.args.value.now

pub returns-in_ok-from_str-in-String-clause-work : goal.returns-in_ok-from_str-in-String-clause-work
returns-in_ok-from_str-in-String-clause-work c = whole_work c.args.value.now

pub returns-in_ok-from_slice-in-Bytes-clause-work : goal.returns-in_ok-from_slice-in-Bytes-clause-work
returns-in_ok-from_slice-in-Bytes-clause-work c = whole_work c.args.value.now

pub returns-in-Link-clause-work : goal.returns-in-Link-clause-work
returns-in-Link-clause-work c = whole_work c.args.value.now

pub returns-in_ok-with_capacity-in-List-clause-copy : goal.returns-in_ok-with_capacity-in-List-clause-copy
returns-in_ok-with_capacity-in-List-clause-copy c =
    list_begun c.args.value.now c.in-List.items _ _ c.in-List.is (c.iter.ensures.rest ∙ c.deref-in-List.ensures.value) c.in_ok-with_capacity-in-List.ensures.items

pub returns-in-Null-clause-copy : goal.returns-in-Null-clause-copy
returns-in-Null-clause-copy c = ap tree_of (sym c.in-Null.is)

pub returns-in-Bool-clause-copy : goal.returns-in-Bool-clause-copy
returns-in-Bool-clause-copy c = ap tree_of (sym c.in-Bool.is)

pub returns-in-Link-clause-copy : goal.returns-in-Link-clause-copy
returns-in-Link-clause-copy c = ap tree_of (sym c.in-Link.is)
