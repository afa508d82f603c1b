use Rattle.std.proofs.Common.{false, length, refl, ap, ◌∙◌, arith}
use Rattle.ipld_tokens.specs.Token.{atom, text}
use Rattle.dag_cbor_format.specs.declared.major.Major.TheVariants.{Text}
use Rattle.dag_cbor_format.specs.Trace.{led}
use Rattle.dag_cbor_blocks.proofs.Switches.{is_on}
use Rattle.dag_cbor_blocks.specs.Position.{kinds_of}
use Rattle.dag_cbor_blocks.specs.BlockReading.{ahead_of, headed}
use Rattle.dag_cbor_blocks.specs.declared.position.Position.{Position}
use Rattle.dag_cbor_blocks.proofs.BlockSteps.{text_shorter, text_ahead, scalar_taken, no_key}
use Rattle.dag_cbor_blocks.proofs.block.read_text_string.Goals as goal

pub returns : goal.returns
returns g c =
    let p = c.args.position.now in
    let read = c.in_ok-string in
    let after : Position = record p { rest = read.rest } in
    let shorter = text_shorter c.args.length p.rest.now read.string.now read.rest.now read.ensures in
    scalar_taken (is_on g.row.FLOATS) g.V.BorrowingVisitor.answer c.args.visitor.now c.visit.new.self (kinds_of p) (headed (is_on g.row.FLOATS) Text c.args.length p) p.begun _ after (text read.string.now) false
    (text_ahead (is_on g.row.FLOATS) p c.args.length read.string.now read.rest.now read.ensures ∙ ap (λ k. led (atom (text read.string.now), length read.rest.now, k) (ahead_of (is_on g.row.FLOATS) after)) (no_key p))
    (c.in_ok-visit.ensures false) refl refl (omega (arith, shorter))
