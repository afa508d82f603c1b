use Rattle.std.proofs.Common.{refl, arith}
use Rattle.dag_cbor_format.specs.declared.major.Major.TheVariants.{Bytes}
use Rattle.dag_cbor_format.specs.Trace.{after_a_key}
use Rattle.dag_cbor_blocks.proofs.Switches.{is_on}
use Rattle.dag_cbor_blocks.specs.Position.{frames_of, kinds_of}
use Rattle.dag_cbor_blocks.specs.BlockReading.{headed}
use Rattle.dag_cbor_blocks.specs.declared.position.Position.{Position}
use Rattle.dag_cbor_blocks.proofs.BlockSteps.{front_shorter, bytes_ahead, bytes_taken}
use Rattle.dag_cbor_blocks.proofs.block.read_byte_string.Goals as goal

pub returns : goal.returns
returns g c =
    let p = c.args.position.now in
    let read = c.in_ok-content in
    let after : Position = record p { rest = read.rest } in
    let shorter = front_shorter c.args.length p.rest.now read.content.now read.rest.now read.ensures in
    bytes_taken (is_on g.row.FLOATS) g.V.BorrowingVisitor.answer c.args.visitor.now c.visit.new.self (kinds_of p) (headed (is_on g.row.FLOATS) Bytes c.args.length p) p.begun _ after read.content.now (after_a_key (frames_of p))
    (bytes_ahead (is_on g.row.FLOATS) p c.args.length read.content.now read.rest.now read.ensures) (c.in_ok-visit.ensures (after_a_key (frames_of p))) refl refl (omega (arith, shorter))
