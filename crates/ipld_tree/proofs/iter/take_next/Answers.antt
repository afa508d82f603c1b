use Rattle.std.proofs.Common.{arith, vec_len, refl}
use Rattle.ipld_tree.proofs.Walking.{last_taken}
use Rattle.ipld_tree.proofs.iter.take_next.Goals as goal

pub returns-in-Some-advance-clause-takes : goal.returns-in-Some-advance-clause-takes
returns-in-Some-advance-clause-takes c =
    last_taken c.args.stack.now.items (vec_len c.args.stack.now) c.in-Some.innermost.now c.advance.new.cursor c.in-Some-advance.value.now
    (omega arith) (c.in-Some.ensures.variant.0 refl) c.in-Some.ensures.value c.in-Some-advance.ensures
