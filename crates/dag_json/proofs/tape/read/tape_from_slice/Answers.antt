use Rattle.std.proofs.Common.{Err, subst}
use Rattle.ipld_tree.specs.TreeOf.{tree_of}
use Rattle.dag_json.specs.TapeReading.{IsTapeOf, IsTooLong}
use Rattle.dag_json.specs.TapeWriting.{WritesTape}
use Rattle.dag_json.proofs.tape.read.tape_from_slice.Goals as goal

pub returns-in-Ok-tape_of-clause-only : goal.returns-in-Ok-tape_of-clause-only
returns-in-Ok-tape_of-clause-only c = λ t e. subst (λ u. IsTapeOf u c.in-Ok-tape_of.tape) (c.in-Ok.ensures.only t e) c.in-Ok-tape_of.ensures

pub returns-in-Err-TooLong-clause-only : goal.returns-in-Err-TooLong-clause-only
returns-in-Err-TooLong-clause-only c = λ t e. subst IsTooLong (c.in-Ok.ensures.only t e)
    (subst (λ error. WritesTape (tree_of c.in-Ok.tree) (Err error)) c.in-Err-TooLong.field-0-is c.in-Err-TooLong.ensures)
