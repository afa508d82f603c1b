use Rattle.std.proofs.Common.{arith}
use Rattle.ipld_show.proofs.Reached.{in_front, first_entry, reserved_so, not_reserved}
use Rattle.ipld_show.proofs.places.are_reserved.Goals as goal

pub returns-in-len1-up : goal.returns-in-len1-up
returns-in-len1-up c = λ whole total known e.
    reserved_so whole total known (in_front c.args.entries.now) c.eq.result c.reads_as_content.result (first_entry whole total known c.args.entries.now e (omega (arith, c.in-len1-up.len_at_least))) c.eq.ensures
    (c.reads_as_content.ensures whole total) c.if-eq.true

pub returns-in_default-2 : goal.returns-in_default-2
returns-in_default-2 c = λ whole total known e.
    not_reserved whole total known (in_front c.args.entries.now) c.eq.result (first_entry whole total known c.args.entries.now e (omega (arith, c.in-len1-up.len_at_least))) c.eq.ensures c.if-eq.false
