use Rattle.dag_cbor_blocks.proofs.KeyTracking.{added_to_set}
use Rattle.dag_cbor_blocks.proofs.keys.insert_into.Goals as goal

pub returns : goal.returns
returns c = added_to_set c.args.key c.args.set.now.keys c.insert.new.self.keys c.in_ok-insert.field-0 c.in_ok-insert.ensures.added c.in_ok-insert.ensures.keys
