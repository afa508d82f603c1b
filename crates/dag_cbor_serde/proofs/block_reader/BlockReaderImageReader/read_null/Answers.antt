use Rattle.dag_cbor_serde.proofs.PartReads.{null_begins, no_null}
use Rattle.dag_cbor_serde.proofs.block_reader.BlockReaderImageReader.read_null.Goals as goal

pub returns-in-Some-clause-null : goal.returns-in-Some-clause-null
returns-in-Some-clause-null c = λ yes levels. null_begins levels c.args.self.now.bytes.now c.in-Some.rest.now c.in-Some.ensures.some

pub returns-in-None-clause-other : goal.returns-in-None-clause-other
returns-in-None-clause-other c = λ no levels. no_null levels c.args.self.now.bytes.now c.in-None.ensures.none
