use Rattle.ipld_car.specs.SectionOf.{block_of}
use Rattle.car_files.proofs.Finding.{adds_more, fault_of_car}
use Rattle.car_files.proofs.missing.add_car.Goals as goal

pub returns-in-Err-read_next-clause-fault : goal.returns-in-Err-read_next-clause-fault
returns-in-Err-read_next-clause-fault g c =
    fault_of_car _ (g.R.Read.remaining c.loop-blocks.car.reader) _ _ c.loop-blocks.car _ c.args.label.now (g.E.Write.contents c.args.errors.now)
    (g.E.Write.contents c.loop-blocks.errors) c.args.index.now c.loop-blocks.index c.loop-blocks.blocks c.loop-blocks.unknown c.loop-blocks.invalid
    (block_of c.read_next.new.section) c.in-Err-read_next.error c.loop-blocks.invariant c.in-Err-read_next.ensures

pub loop-blocks-preserved : goal.loop-blocks-preserved
loop-blocks-preserved g c =
    rw (c.from-unknown.ensures, c.from-invalid-in-Ok-add_section.ensures) (adds_more _ (g.R.Read.remaining c.loop-blocks.car.reader) _ _ c.loop-blocks.car _
    c.args.label.now (g.E.Write.contents c.args.errors.now) (g.E.Write.contents c.loop-blocks.errors) (g.E.Write.contents c.add_section.new.errors) c.args.index.now
    c.loop-blocks.index c.add_section.new.index c.loop-blocks.blocks c.loop-blocks.unknown c.loop-blocks.invalid c.offset-offset.result (block_of c.read_next.new.section)
    c.in-Ok-add_section.seen.is_unknown c.in-Ok-add_section.seen.is_invalid c.loop-blocks.invariant (rw c.in-Ok-true.field-0-test at c.in-Ok-true.ensures)
    c.in-Ok-add_section.ensures.added c.offset-offset.ensures c.in-Ok-add_section.ensures.complained)
