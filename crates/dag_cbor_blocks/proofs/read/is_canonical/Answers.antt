use Rattle.std.proofs.Common.{◌≡◌, Some, subst}
use Rattle.dag_cbor_format.specs.KeysAscend.{is_sorted}
use Rattle.dag_cbor_blocks.proofs.EventReads.{checker_sorted, canonical_where}
use Rattle.dag_cbor_blocks.proofs.read.is_canonical.Goals as goal

pub returns-clause-exact : goal.returns-clause-exact
returns-clause-exact c =
    let r = c.in_ok-read_events_as.ensures in
    let new = c.new-checker.ensures in
    (checker_sorted c.args.options.now.floats c.args.bytes.now r.0 c.new-checker.result c.read_events_as.new.visitor new.lasts new.is_sorted r.1, r.2)

pub returns-clause-canonical : goal.returns-clause-canonical
returns-clause-canonical c = λ without.
    let r = c.in_ok-read_events_as.ensures in
    let new = c.new-checker.ensures in
    let sorted = c.read_events_as.new.visitor.is_sorted in
    let found = checker_sorted c.args.options.now.floats c.args.bytes.now r.0 c.new-checker.result c.read_events_as.new.visitor new.lasts new.is_sorted r.1 in
    canonical_where c.args.bytes.now sorted (subst (λ floats. is_sorted floats c.args.bytes.now ≡ Some sorted) without found)
