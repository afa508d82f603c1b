use Rattle.unixfs_build.proofs.Entries.{order_fault, names_go_on}
use Rattle.unixfs_build.proofs.entry.check_names.Goals as goal

pub returns-then-not-comes_after-clause-fault : goal.returns-then-not-comes_after-clause-fault
returns-then-not-comes_after-clause-fault c =
    order_fault c.args.entries.now c.index-entries-index.result _ c.loop-index.index _ _ _ c.loop-index-test.true c.index-entries-index.is
    c.is_entry_name.ensures c.if-not-is_entry_name.false c.comes_after.ensures c.if-not-comes_after.true c.loop-index.invariant.1

pub loop-index-preserved : goal.loop-index-preserved
loop-index-preserved c =
    names_go_on c.args.entries.now c.index-entries-index.result _ c.loop-index.index _ _ _ c.loop-index-test.true c.index-entries-index.is
    c.is_entry_name.ensures c.if-not-is_entry_name.false c.comes_after.ensures c.if-not-comes_after.false c.loop-index.invariant
