use Rattle.std.proofs.Common.{inr, ◌∙◌}
use Rattle.kombilad_c.proofs.Answering.{tree_of_block, only_memory}
use Rattle.kombilad_c.proofs.verify.kombilad_block_check.Goals as goal

pub returns-in-Ok-clause-found : goal.returns-in-Ok-clause-found
returns-in-Ok-clause-found c = λ done. tree_of_block c.args.block.now (c.in-Ok.ensures {u = tt}).exact.0

pub returns-in-Err-clause-only : goal.returns-in-Err-clause-only
returns-in-Err-clause-only c = λ t is within. inr (c.stop_status.ensures.status ∙ only_memory (record { levels = c.args.levels; values = c.args.values }) c.args.block.now c.in-Err.error.kind c.in-Err.error.offset c.in-Err.ensures.exact t is within)
