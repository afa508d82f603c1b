use Rattle.std.proofs.Common.{pos, negsuc, Some, refl, ap, ◌∙◌}
use Rattle.ipld_tree.specs.Tree.{integer, text, bytes}
use Rattle.dag_cbor_format.specs.declared.major.Major.{Major}
use Rattle.dag_cbor_serde.proofs.PartReads.{unsigned_begins, negative_begins, string_begins, bytes_begins}
use Rattle.dag_cbor_serde.proofs.block_reader.skip_scalar.Goals as goal

pub returns-in-Unsigned : goal.returns-in-Unsigned
returns-in-Unsigned c = λ levels.
    let h = c.in-Ok in
    (integer (pos h.argument), unsigned_begins levels c.args.bytes.now h.argument (pos h.argument) h.more.now (h.ensures ∙ ap (λ (m : Major). Some (m, h.argument, h.more.now)) c.in-Unsigned.is) refl)

pub returns-in-Negative : goal.returns-in-Negative
returns-in-Negative c = λ levels.
    let h = c.in-Ok in
    (integer (negsuc h.argument), negative_begins levels c.args.bytes.now h.argument (negsuc h.argument) h.more.now (h.ensures ∙ ap (λ (m : Major). Some (m, h.argument, h.more.now)) c.in-Negative.is) refl)

pub returns-in-Ok-read_bytes : goal.returns-in-Ok-read_bytes
returns-in-Ok-read_bytes c = λ levels.
    let h = c.in-Ok in
    let r = c.in-Ok-read_bytes in
    (bytes r.field-0-0.now, bytes_begins levels c.args.bytes.now h.argument r.field-0-0.now r.field-0-0.now h.more.now r.rest.now (h.ensures ∙ ap (λ (m : Major). Some (m, h.argument, h.more.now)) c.in-Bytes.is) r.ensures refl)

pub returns-in-Ok-read_text : goal.returns-in-Ok-read_text
returns-in-Ok-read_text c = λ levels.
    let h = c.in-Ok in
    let r = c.in-Ok-read_text in
    (text r.field-0-0.now, string_begins levels c.args.bytes.now h.argument r.field-0-0.now h.more.now r.rest.now (h.ensures ∙ ap (λ (m : Major). Some (m, h.argument, h.more.now)) c.in-Text.is) r.ensures)
