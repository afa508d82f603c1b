use Rattle.std.proofs.Common.{◌≡◌, [], refl, sym, subst, ◌∙◌, arith, rules}
use Rattle.std.specs.Prelude.{◌≢◌}
use Rattle.dag_cbor_blocks.proofs.Fits.{nothing_over, allowed}
use Rattle.dag_cbor_serde.specs.Read.{NotRead}
use Rattle.dag_cbor_serde.proofs.PartReads.{whole_begins}
use Rattle.dag_cbor_serde.proofs.Reading.{block_read, block_within}
use Rattle.dag_cbor_serde.proofs.Trailing.{something_over, trailing_rejected, missing_rejected}
use Rattle.dag_cbor_serde.proofs.de.read_parts.Goals as goal

pub returns-then-is_empty-clause-ok : goal.returns-then-is_empty-clause-ok
returns-then-is_empty-clause-ok g c =
    let v = c.in-Ok.ensures.ok in
    let rest = c.read_image.new.reader.bytes.now in
    let whole = whole_begins _ v.0 c.args.bytes.now rest v.1 (nothing_over rest (sym c.is_empty.ensures ∙ c.if-is_empty.true)) in
    block_read g.T.Deserialize.reads c.args.bytes.now v.0 (g.T.Deserialize.contents c.in-Ok.value) whole.0 v.2

pub returns-then-is_empty-clause-within : goal.returns-then-is_empty-clause-within
returns-then-is_empty-clause-within g c =
    let v = c.in-Ok.ensures.ok in
    let rest = c.read_image.new.reader.bytes.now in
    let whole = whole_begins _ v.0 c.args.bytes.now rest v.1 (nothing_over rest (sym c.is_empty.ensures ∙ c.if-is_empty.true)) in
    block_within c.args.limits.now c.args.bytes.now v.0 whole.0 (allowed c.args.limits.now _ v.0 c.args.bytes.now whole.0 whole.1 (omega arith) (omega arith))

pub returns-else-is_empty-clause-err : goal.returns-else-is_empty-clause-err
returns-else-is_empty-clause-err g c =
    let v = c.in-Ok.ensures.ok in
    let rest = c.read_image.new.reader.bytes.now in
    let more : rest ≢ [] = something_over rest (sym c.is_empty.ensures ∙ c.if-is_empty.false) in
    subst (NotRead g.T.Deserialize.reads g.T.Deserialize.read_error c.args.limits.now c.args.bytes.now) (sym c.trailing_error.ensures)
    (trailing_rejected g.T.Deserialize.reads g.T.Deserialize.read_error c.args.limits.now _ v.0 c.args.bytes.now rest _ v.1 more (omega arith) (omega arith) refl)

pub returns-in-Err-MissingField-clause-err : goal.returns-in-Err-MissingField-clause-err
returns-in-Err-MissingField-clause-err g c =
    let rest = c.read_image.new.reader.bytes.now in
    let ended : rest ≡ [] = nothing_over rest (search rules) in
    missing_rejected g.T.Deserialize.reads g.T.Deserialize.read_error c.args.limits.now _ c.args.bytes.now rest _ (c.in-Err-MissingField.ensures.missing c.in-Err-MissingField.field-0-is) ended
    (omega arith) (omega arith) refl

pub returns-in-Err-MissingField-2-clause-err : goal.returns-in-Err-MissingField-2-clause-err
returns-in-Err-MissingField-2-clause-err g c =
    let m = c.in-Err-MissingField.ensures.missing c.in-Err-MissingField.field-0-is in
    let rest = c.read_image.new.reader.bytes.now in
    let more : rest ≢ [] = something_over rest (search rules) in
    subst (NotRead g.T.Deserialize.reads g.T.Deserialize.read_error c.args.limits.now c.args.bytes.now) (sym c.trailing_error-in-Err-MissingField-2.ensures)
    (trailing_rejected g.T.Deserialize.reads g.T.Deserialize.read_error c.args.limits.now _ m.0 c.args.bytes.now rest _ m.1 more (omega arith) (omega arith) refl)
