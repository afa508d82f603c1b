use Rattle.std.proofs.Common.{sym, ap, ◌∙◌}
use Rattle.dag_cbor_format.specs.Errors.{text_error}
use Rattle.dag_cbor_format.proofs.ItemHeaderLaws.{text_read, text_rejected}
use Rattle.dag_cbor_format.proofs.Ascii.{ascii_utf8}
use Rattle.dag_cbor_format.proofs.item_header.read_text.Goals as goal

pub from_utf8_unchecked-requires : goal.from_utf8_unchecked-requires
from_utf8_unchecked-requires c = ascii_utf8 c.in_ok-text.text.now (sym c.if-is_ascii.true ∙ c.is_ascii.ensures)

pub returns-then-is_ascii : goal.returns-then-is_ascii
returns-then-is_ascii c =
    text_read _ c.in_ok-text.text.now c.in_ok-text.rest.now c.from_utf8_unchecked.result.now c.in_ok-text.ensures c.from_utf8_unchecked.ensures (ascii_utf8 c.in_ok-text.text.now (sym c.if-is_ascii.true ∙ c.is_ascii.ensures))

pub returns-in-Ok : goal.returns-in-Ok
returns-in-Ok c =
    text_read _ c.in_ok-text.text.now c.in_ok-text.rest.now c.in-Ok.text.now c.in_ok-text.ensures c.in-Ok.ensures.0 c.in-Ok.ensures.1

pub returns-in-Err : goal.returns-in-Err
returns-in-Err c =
    (text_rejected _ c.in_ok-text.text.now c.in_ok-text.rest.now c.in_ok-text.ensures c.in-Err.ensures, ap text_error (sym c.in_ok-text.ensures))

pub returns-in-Ok-from_utf8 : goal.returns-in-Ok-from_utf8
returns-in-Ok-from_utf8 c =
    text_read _ c.in_ok-text.text.now c.in_ok-text.rest.now c.in-Ok-from_utf8.text.now c.in_ok-text.ensures c.in-Ok-from_utf8.ensures.cases.0 c.in-Ok-from_utf8.ensures.cases.1

pub returns-in-Err-from_utf8 : goal.returns-in-Err-from_utf8
returns-in-Err-from_utf8 c =
    (text_rejected _ c.in_ok-text.text.now c.in_ok-text.rest.now c.in_ok-text.ensures c.in-Err-from_utf8.ensures.cases.0, ap text_error (sym c.in_ok-text.ensures))
