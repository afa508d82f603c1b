use Rattle.std.proofs.Common.{Some, ap, ◌∙◌}
use Rattle.dag_cbor_format.specs.declared.major.Major.{Major}
use Rattle.dag_cbor_format.specs.declared.major.Major.TheVariants as major
use Rattle.dag_cbor_serde.proofs.PartReads.{head_begins}
use Rattle.dag_cbor_serde.proofs.block_reader.BlockReaderImageReader.begin_list.Goals as goal

pub returns-clause-ok : goal.returns-clause-ok
returns-clause-ok c =
    let h = c.in-Ok-List-default-default in
    head_begins c.args.self.now.bytes.now major.List h.count h.rest.now (h.ensures ∙ ap (λ (m : Major). Some (m, h.count, h.rest.now)) h.field-0-0-is)
