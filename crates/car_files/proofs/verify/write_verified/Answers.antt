use Rattle.ipld_block.specs.declared.block_cid.error.VerifyError.TheVariants.{WrongDigest, UnknownHash}
use Rattle.ipld_car.specs.SectionOf.{block_of}
use Rattle.car_files.proofs.Placing.{adds_block}
use Rattle.car_files.proofs.Tallying.{tallies_right, right_block, tallies_wrong, tallies_unknown, error_of, line_of, unverified_car}
use Rattle.car_files.proofs.verify.write_verified.Goals as goal
use Rattle.car_files.proofs.verify.write_verified.Goals.{in-UnknownHash, in-WrongDigest}

pub returns-in-Err-clause-fault : goal.returns-in-Err-clause-fault
returns-in-Err-clause-fault g c =
    unverified_car _ _ (g.R.Read.remaining c.loop-count.car.reader) _ _ c.loop-count.car _ c.args.places.now c.loop-count.places (g.W.Write.contents c.args.writer.now) (g.W.Write.contents c.loop-count.writer)
    c.loop-count.count c.loop-count.wrong c.loop-count.unknown (block_of c.read_next.new.section) c.in-Err.error c.loop-count.invariant c.in-Err.ensures

pub loop-count-preserved-in-Ok-verify : goal.loop-count-preserved-in-Ok-verify
loop-count-preserved-in-Ok-verify g c =
    tallies_right _ _ (g.R.Read.remaining c.loop-count.car.reader) _ _ c.loop-count.car _ _ c.loop-count.places c.add.new.self _ _
    c.loop-count.count c.loop-count.wrong c.loop-count.unknown c.offset-offset.result (block_of c.read_next.new.section) c.loop-count.invariant
    (rw c.in-Ok-true.field-0-test at c.in-Ok-true.ensures) c.offset-offset.ensures
    (adds_block c.loop-count.places c.add.new.self (block_of c.read_next.new.section) _ c.offset-offset.result c.cid-cid.ensures c.in-Ok.ensures)
    (right_block (block_of c.read_next.new.section) _ _ c.cid-cid.ensures c.data.ensures c.in-Ok-verify.ensures)

pub loop-count-preserved : goal.loop-count-preserved
loop-count-preserved g c = elim c.match-error.branch [
  | in-UnknownHash w ↦
      rw (w.wrong-is, w.unknown-is) (tallies_unknown _ _ (g.R.Read.remaining c.loop-count.car.reader) _ _ c.loop-count.car _ _ c.loop-count.places c.add.new.self _ (g.W.Write.contents c.loop-count.writer) _
      c.loop-count.count c.loop-count.wrong c.loop-count.unknown w.in-UnknownHash.field-0 c.offset-offset.result (block_of c.read_next.new.section) c.loop-count.invariant
      (rw c.in-Ok-true.field-0-test at c.in-Ok-true.ensures)
      (error_of (block_of c.read_next.new.section) _ _ _ (UnknownHash w.in-UnknownHash.field-0) c.cid-cid.ensures c.data.ensures w.in-UnknownHash.is c.in-Err-verify.ensures) c.offset-offset.ensures
      (adds_block c.loop-count.places c.add.new.self (block_of c.read_next.new.section) _ c.offset-offset.result c.cid-cid.ensures c.in-Ok.ensures)
      (line_of _ _ _ _ (block_of c.read_next.new.section) _ _ (UnknownHash w.in-UnknownHash.field-0) c.cid-cid.ensures w.in-UnknownHash.is c.in-Ok-write_verdict.ensures.written))
  | in-WrongDigest w ↦
      rw (w.wrong-is, w.unknown-is) (tallies_wrong _ _ (g.R.Read.remaining c.loop-count.car.reader) _ _ c.loop-count.car _ _ c.loop-count.places c.add.new.self _ (g.W.Write.contents c.loop-count.writer) _
      c.loop-count.count c.loop-count.wrong c.loop-count.unknown c.offset-offset.result (block_of c.read_next.new.section) c.loop-count.invariant
      (rw c.in-Ok-true.field-0-test at c.in-Ok-true.ensures)
      (error_of (block_of c.read_next.new.section) _ _ _ WrongDigest c.cid-cid.ensures c.data.ensures w.in-WrongDigest.is c.in-Err-verify.ensures) c.offset-offset.ensures
      (adds_block c.loop-count.places c.add.new.self (block_of c.read_next.new.section) _ c.offset-offset.result c.cid-cid.ensures c.in-Ok.ensures)
      (line_of _ _ _ _ (block_of c.read_next.new.section) _ _ WrongDigest c.cid-cid.ensures w.in-WrongDigest.is c.in-Ok-write_verdict.ensures.written))
]
