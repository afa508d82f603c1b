use Rattle.ipld_car.proofs.SectionReading.{section_either}
use Rattle.ipld_car.proofs.read_section.read_section_at.Goals as goal

pub returns-in-Ok-Some-clause-read : goal.returns-in-Ok-Some-clause-read
returns-in-Ok-Some-clause-read g c =
    section_either _ _ _ _ _ _ _ _ _ c.name_block.result (rw c.in-Ok-Some.field-0-is at c.in-Ok-Some.ensures.read) c.name_block.ensures.kept c.name_block.ensures.named
