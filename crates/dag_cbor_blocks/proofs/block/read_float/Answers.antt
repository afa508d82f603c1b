use Rattle.std.proofs.Common.{◌≡◌, true, refl, rules, arith}
use Rattle.ipld_tokens.specs.Token.{none}
use Rattle.dag_cbor_format.specs.Floats.{is_finite}
use Rattle.dag_cbor_format.specs.Trace.{after_a_key}
use Rattle.dag_cbor_blocks.proofs.Switches.{is_on}
use Rattle.dag_cbor_blocks.specs.Position.{frames_of, kinds_of}
use Rattle.dag_cbor_blocks.specs.declared.position.Position.{Position}
use Rattle.dag_cbor_blocks.proofs.BlockSteps.{front_shorter, float_headed, finite_ahead, scalar_taken}
use Rattle.dag_cbor_blocks.proofs.block.read_float.Goals as goal

pub returns : goal.returns
returns g c =
    let floats = is_on g.row.FLOATS in
    let p = c.args.position.now in
    let read = c.in_ok-content in
    let after : Position = record p { rest = read.rest } in
    let key = after_a_key (frames_of p) in
    let shorter = front_shorter 8 p.rest.now read.content.now read.rest.now read.ensures in
    let finite : is_finite read.content.now ≡ true = search rules in
    scalar_taken floats g.V.BorrowingVisitor.answer c.args.visitor.now c.visit.new.self (kinds_of p) (float_headed floats p) p.begun _ after none key
    (finite_ahead floats p read.content.now read.rest.now read.ensures finite) (c.in_ok-visit.ensures key) refl refl (omega (arith, shorter))
