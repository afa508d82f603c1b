use Rattle.std.proofs.Common.{◌+◌, length, refl, ap, rules, arith}
use Rattle.ipld_tokens.specs.Token.{atom, integer}
use Rattle.dag_cbor_format.specs.declared.major.Major.TheVariants.{Negative}
use Rattle.dag_cbor_format.specs.Trace.{led, after_a_key}
use Rattle.dag_cbor_blocks.proofs.Switches.{is_on}
use Rattle.dag_cbor_blocks.specs.Position.{frames_of, kinds_of, steps_left}
use Rattle.dag_cbor_blocks.specs.BlockReading.{ahead_of, headed}
use Rattle.dag_cbor_blocks.proofs.BlockSteps.{scalar_taken}
use Rattle.dag_cbor_blocks.proofs.block.read_negative.Goals as goal

pub returns : goal.returns
returns g c =
    let p = c.args.position.now in
    let key = after_a_key (frames_of p) in
    scalar_taken (is_on g.row.FLOATS) g.V.BorrowingVisitor.answer c.args.visitor.now c.visit.new.self (kinds_of p) (headed (is_on g.row.FLOATS) Negative c.args.argument p) p.begun (steps_left p + 3) p (integer _) key
    (ap (λ z. led (atom (integer z), length p.rest.now, key) (ahead_of (is_on g.row.FLOATS) p)) (search (c.from.ensures, rules))) (c.in_ok-visit.ensures key) refl refl (omega arith)
