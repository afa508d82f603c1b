use Rattle.std.proofs.Common.{◌≡◌, Some, ap, ◌∙◌, rules}
use Rattle.ipld_cid.specs.LinkOf.{link_of}
use Rattle.dag_cbor_format.specs.declared.major.Major.{Major}
use Rattle.dag_cbor_serde.proofs.PartReads.{cid_begins}
use Rattle.dag_cbor_serde.proofs.block_reader.BlockReaderImageReader.read_link.Goals as goal

pub returns-in-Ok-try_from-clause-ok : goal.returns-in-Ok-try_from-clause-ok
returns-in-Ok-try_from-clause-ok c = λ levels.
    let h = c.in-Ok-Tag-eq42-default in
    let tagged : h.field-0-1 ≡ 42 = search rules in
    cid_begins levels c.args.self.now.bytes.now h.field-0-1 c.in-Ok.encoded.now h.more.now c.in-Ok.rest.now (link_of c.in-Ok-try_from.cid)
    (h.ensures ∙ ap (λ (m : Major). Some (m, h.field-0-1, h.more.now)) h.field-0-0-is) tagged c.in-Ok.ensures c.in-Ok-try_from.ensures.found
