use Rattle.ipld_car.specs.SectionOf.{block_of}
use Rattle.car_files.proofs.Tallying.{lists_more, lists_all, unlisted_car}
use Rattle.car_files.proofs.list.write_list.Goals as goal
use Rattle.car_files.proofs.list.write_list.Goals.{in-Ok-write_end, in-Err-write_end}

pub returns-in-Err-read_next-clause-fault : goal.returns-in-Err-read_next-clause-fault
returns-in-Err-read_next-clause-fault g c =
    unlisted_car _ (g.R.Read.remaining c.loop-blocks.car.reader) _ _ c.loop-blocks.car _ c.args.form c.args.label.now (g.W.Write.contents c.args.writer.now)
    (g.W.Write.contents c.loop-blocks.writer) (g.E.Write.contents c.args.errors.now) (g.E.Write.contents c.loop-blocks.errors) c.loop-blocks.blocks c.loop-blocks.invalid
    (block_of c.read_next.new.section) c.in-Err-read_next.error c.loop-blocks.invariant c.in-Err-read_next.ensures

pub returns-in-Ok-false-clause-listed : goal.returns-in-Ok-false-clause-listed
returns-in-Ok-false-clause-listed g c = elim c.match-write_end.branch [
  | in-Ok-write_end w ↦
      rw w.result-is (lists_all _ (g.R.Read.remaining c.loop-blocks.car.reader) _ _ c.loop-blocks.car _ c.args.form c.args.label.now (g.W.Write.contents c.args.writer.now)
      (g.W.Write.contents c.loop-blocks.writer) _ (g.E.Write.contents c.args.errors.now) (g.E.Write.contents c.loop-blocks.errors) c.loop-blocks.blocks c.loop-blocks.invalid
      (block_of c.read_next.new.section) c.loop-blocks.invariant (rw c.in-Ok-false.field-0-test at c.in-Ok-false.ensures) w.in-Ok-write_end.ensures.written)
  | in-Err-write_end w ↦ rw w.result-is tt
]

pub loop-blocks-preserved : goal.loop-blocks-preserved
loop-blocks-preserved g c =
    rw c.from-invalid.ensures (lists_more _ (g.R.Read.remaining c.loop-blocks.car.reader) _ _ c.loop-blocks.car _ c.args.form c.args.label.now
    (g.W.Write.contents c.args.writer.now) (g.W.Write.contents c.loop-blocks.writer) _ (g.E.Write.contents c.args.errors.now) (g.E.Write.contents c.loop-blocks.errors) _
    c.loop-blocks.blocks c.loop-blocks.invalid c.offset-offset.result (block_of c.read_next.new.section) c.in-Ok-write_section.is_invalid c.loop-blocks.invariant
    (rw c.in-Ok-true.field-0-test at c.in-Ok-true.ensures) c.offset-offset.ensures c.in-Ok-write_section.ensures.listed)
