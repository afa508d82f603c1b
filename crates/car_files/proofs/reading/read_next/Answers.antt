use Rattle.ipld_car.specs.SectionOf.{taken_of, block_of}
use Rattle.car_files.proofs.Sections.{next_fails}
use Rattle.car_files.proofs.reading.read_next.Goals as goal

pub returns-in-Err : goal.returns-in-Err
returns-in-Err g c =
    next_fails _ _ _ _ (taken_of c.read_section.new.section) (block_of c.read_section.new.section) c.in-Err.error c.from.result
    c.in-Err.ensures.consumed c.in-Err.ensures.moves c.in-Err.ensures.read c.from.ensures
