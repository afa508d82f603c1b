use Rattle.std.proofs.Common.{Some, ap, ◌∙◌, rules}
use Rattle.dag_cbor_format.specs.declared.major.Major.{Major}
use Rattle.dag_cbor_serde.proofs.PartReads.{unsigned_begins, negative_begins}
use Rattle.dag_cbor_serde.proofs.block_reader.BlockReaderImageReader.read_integer.Goals as goal

pub returns-in-Unsigned-clause-ok : goal.returns-in-Unsigned-clause-ok
returns-in-Unsigned-clause-ok c = λ levels.
    let h = c.in-Ok in
    unsigned_begins levels c.args.self.now.bytes.now h.argument _ h.rest.now (h.ensures ∙ ap (λ (m : Major). Some (m, h.argument, h.rest.now)) c.in-Unsigned.is) (search (c.from.ensures, rules))

pub returns-in-Negative-clause-ok : goal.returns-in-Negative-clause-ok
returns-in-Negative-clause-ok c = λ levels.
    let h = c.in-Ok in
    negative_begins levels c.args.self.now.bytes.now h.argument _ h.rest.now (h.ensures ∙ ap (λ (m : Major). Some (m, h.argument, h.rest.now)) c.in-Negative.is) (search (c.from-in-Negative.ensures, rules))
