use Rattle.dag_cbor_format.proofs.ItemHeads.{key_begins, key_shorter}
use Rattle.dag_cbor_format.proofs.item.read_key.Goals as goal

pub returns-clause-found : goal.returns-clause-found
returns-clause-found c = key_begins c.args.bytes.now c.read_key_text.result c.read_key_text.ensures

pub returns-clause-shorter : goal.returns-clause-shorter
returns-clause-shorter c = key_shorter c.args.bytes.now c.read_key_text.result c.read_key_text.ensures
