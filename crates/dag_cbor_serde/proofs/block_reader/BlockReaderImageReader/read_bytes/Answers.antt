use Rattle.std.proofs.Common.{Some, ap, ◌∙◌}
use Rattle.dag_cbor_format.specs.declared.major.Major.{Major}
use Rattle.dag_cbor_serde.proofs.PartReads.{bytes_begins}
use Rattle.dag_cbor_serde.proofs.block_reader.BlockReaderImageReader.read_bytes.Goals as goal

pub returns-clause-ok : goal.returns-clause-ok
returns-clause-ok c = λ levels.
    let h = c.in-Ok-Bytes-default-default in
    bytes_begins levels c.args.self.now.bytes.now h.length c.in-Ok.content.now c.in_ok-copy.copy.items h.more.now c.in-Ok.rest.now
    (h.ensures ∙ ap (λ (m : Major). Some (m, h.length, h.more.now)) h.field-0-0-is) c.in-Ok.ensures c.in_ok-copy.ensures.items
