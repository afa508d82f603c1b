use Rattle.std.proofs.Common.{refl, []}
use Rattle.kombilad_c.specs.BlockAt.{finds}
use Rattle.kombilad_c.proofs.block_at.find_in_block.Goals as goal

pub returns-in-Ok : goal.returns-in-Ok
returns-in-Ok c = λ d b. finds c.in-Ok.reached (c.in-Ok.ensures d [] b) refl refl refl refl
