use Rattle.ipld_car.proofs.Openings.{block_none}
use Rattle.ipld_car.proofs.opening.read_block.Goals as goal

pub returns-in-Ok-None-clause-read : goal.returns-in-Ok-None-clause-read
returns-in-Ok-None-clause-read g c = block_none _ _ _ _ _ _ _ (rw c.in-Ok-None.field-0-is at c.in-Ok-None.ensures.read) c.section_error.ensures
