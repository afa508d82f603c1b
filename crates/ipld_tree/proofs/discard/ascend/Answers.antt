use Rattle.std.proofs.Common.{arith}
use Rattle.ipld_tree.proofs.Sizes.{size_positive, taken_from_list, taken_from_map}
use Rattle.ipld_tree.specs.declared.ipld.Ipld.TheVariants.{Map}
use Rattle.ipld_tree.proofs.discard.ascend.Goals as goal

pub returns-then-not-is_empty : goal.returns-then-not-is_empty
returns-then-not-is_empty c = omega (arith, c.loop-container.invariant, taken_from_list c.loop-container.container c.in-List.items c.pop.new.self c.in-Some.value c.in-List.is c.in-Some.ensures.items)

pub returns-then-not-is_empty-2 : goal.returns-then-not-is_empty-2
returns-then-not-is_empty-2 c =
    omega (arith, c.loop-container.invariant, taken_from_map c.loop-container.container c.in-Map.members c.pop_last.new.self (c.in-Some-pop_last.field-0-0, c.in-Some-pop_last.value) c.in-Map.is c.in-Some-pop_last.ensures.removal)

pub loop-container-smaller : goal.loop-container-smaller
loop-container-smaller c =
    omega (arith, size_positive (Map c.pop_last.new.self), taken_from_map c.loop-container.container c.in-Map.members c.pop_last.new.self (c.in-Some-pop_last.field-0-0, c.in-Some-pop_last.value) c.in-Map.is c.in-Some-pop_last.ensures.removal)

pub loop-container-preserved : goal.loop-container-preserved
loop-container-preserved c =
    omega (arith, c.loop-container.invariant, taken_from_map c.loop-container.container c.in-Map.members c.pop_last.new.self (c.in-Some-pop_last.field-0-0, c.in-Some-pop_last.value) c.in-Map.is c.in-Some-pop_last.ensures.removal)
