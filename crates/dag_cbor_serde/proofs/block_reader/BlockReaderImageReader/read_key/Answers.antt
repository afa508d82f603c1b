use Rattle.dag_cbor_serde.proofs.PartReads.{key_begins}
use Rattle.dag_cbor_serde.proofs.block_reader.BlockReaderImageReader.read_key.Goals as goal

pub returns-clause-ok : goal.returns-clause-ok
returns-clause-ok c = key_begins c.args.self.now.bytes.now c.in-Ok.key.now c.in-Ok.rest.now c.in-Ok.ensures
