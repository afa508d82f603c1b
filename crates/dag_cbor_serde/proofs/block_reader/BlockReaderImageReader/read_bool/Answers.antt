use Rattle.std.proofs.Common.{Some, ap, ◌∙◌}
use Rattle.dag_cbor_format.specs.declared.major.Major.{Major}
use Rattle.dag_cbor_serde.proofs.PartReads.{false_begins, true_begins}
use Rattle.dag_cbor_serde.proofs.block_reader.BlockReaderImageReader.read_bool.Goals as goal

pub returns-in-20-clause-ok : goal.returns-in-20-clause-ok
returns-in-20-clause-ok c = λ levels.
    let h = c.in-Ok-Simple-default-default in
    false_begins levels c.args.self.now.bytes.now h.number h.rest.now (h.ensures ∙ ap (λ (m : Major). Some (m, h.number, h.rest.now)) h.field-0-0-is) c.in-20.is

pub returns-in-21-clause-ok : goal.returns-in-21-clause-ok
returns-in-21-clause-ok c = λ levels.
    let h = c.in-Ok-Simple-default-default in
    true_begins levels c.args.self.now.bytes.now h.number h.rest.now (h.ensures ∙ ap (λ (m : Major). Some (m, h.number, h.rest.now)) h.field-0-0-is) c.in-21.is
