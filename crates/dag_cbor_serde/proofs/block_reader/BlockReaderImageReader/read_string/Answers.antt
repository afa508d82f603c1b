use Rattle.std.proofs.Common.{string_bytes}
use Rattle.dag_cbor_serde.proofs.PartReads.{text_begins}
use Rattle.dag_cbor_serde.proofs.block_reader.BlockReaderImageReader.read_string.Goals as goal

pub returns-clause-ok : goal.returns-clause-ok
returns-clause-ok c = λ levels.
    text_begins levels c.args.self.now.bytes.now c.in-Ok.content.now (string_bytes c.in_ok-copy.copy) c.in-Ok.rest.now c.in-Ok.ensures c.in_ok-copy.ensures.ok
