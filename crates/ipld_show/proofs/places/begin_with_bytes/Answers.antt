use Rattle.std.proofs.Common.{arith}
use Rattle.ipld_show.proofs.Reached.{in_front, first_entry, begins_so, begins_otherwise}
use Rattle.ipld_show.proofs.places.begin_with_bytes.Goals as goal

pub returns-then-eq : goal.returns-then-eq
returns-then-eq c = λ whole total known e.
    begins_so whole total known (in_front c.args.entries.now) c.eq.result c.is_text.result (first_entry whole total known c.args.entries.now e (omega (arith, c.in-len1-up.len_at_least))) c.eq.ensures
    c.is_text.ensures c.if-eq.true

pub returns-else-eq : goal.returns-else-eq
returns-else-eq c = λ whole total known e.
    begins_otherwise whole total known (in_front c.args.entries.now) c.eq.result (first_entry whole total known c.args.entries.now e (omega (arith, c.in-len1-up.len_at_least))) c.eq.ensures c.if-eq.false
