use Rattle.std.proofs.Common.{◌≡◌, ◌+◌, false, length, Some, inr, refl, sym, ap, ◌∙◌, rules, arith}
use Rattle.ipld_tokens.specs.Token.{link}
use Rattle.dag_cbor_format.specs.Trace.{halted, led, after_a_key}
use Rattle.dag_cbor_format.specs.declared.major.Major.TheVariants.{Tag}
use Rattle.dag_cbor_blocks.proofs.Switches.{is_on}
use Rattle.dag_cbor_blocks.specs.Position.{frames_of, kinds_of, steps_left}
use Rattle.dag_cbor_blocks.specs.BlockReading.{headed}
use Rattle.dag_cbor_format.proofs.CidLaws.{cid_laws}
use Rattle.dag_cbor_blocks.specs.declared.position.Position.{Position}
use Rattle.dag_cbor_blocks.proofs.BlockSteps.{link_ahead, link_error_ahead, link_shorter, link_taken, fails_in_link}
use Rattle.dag_cbor_blocks.proofs.block.read_link.Goals as goal

pub returns-in_ok-visit-in-Ok : goal.returns-in_ok-visit-in-Ok
returns-in_ok-visit-in-Ok g c =
    let p = c.args.position.now in
    let read = c.in-Ok in
    let b = read.encoded.now in
    let after : Position = record p { rest = read.rest; begun = length p.rest.now } in
    let is : c.args.tag ≡ 42 = search rules in
    let found = read.ensures.encoded in
    let shorter = link_shorter cid_laws p.rest.now b read.rest.now found in
    link_taken (is_on g.row.FLOATS) g.V.BorrowingVisitor.answer c.args.visitor.now c.visit.new.self (kinds_of p) (headed (is_on g.row.FLOATS) Tag c.args.tag p) p.begun (steps_left p + 3) after b false (after_a_key (frames_of p))
    (ap (λ n. headed (is_on g.row.FLOATS) Tag n p) is ∙ link_ahead cid_laws (is_on g.row.FLOATS) p b read.rest.now found)
    (c.in_ok-visit-in-Ok.ensures (after_a_key (frames_of p))) refl (omega (arith, shorter))

pub returns-in-Err : goal.returns-in-Err
returns-in-Err g c =
    let p = c.args.position.now in
    let is : c.args.tag ≡ 42 = search rules in
    let missing = c.in-Err.ensures.encoded in
    inr (
    fails_in_link (kinds_of p) (headed (is_on g.row.FLOATS) Tag c.args.tag p) p.begun (length p.rest.now) false _
    (ap (λ n. headed (is_on g.row.FLOATS) Tag n p) is ∙ link_error_ahead cid_laws (is_on g.row.FLOATS) p missing.0 ∙ ap (λ error. led (link, length p.rest.now, false) (halted (Some error) (length p.rest.now))) (sym missing.1))
    )
