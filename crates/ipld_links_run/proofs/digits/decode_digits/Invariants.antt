use Rattle.ipld_links_run.proofs.DigitLemmas.{Gathers}
use Rattle.ipld_links_run.proofs.digits.decode_digits.Given as goal

abbrev pub invariant-loop-i : goal.invariant-loop-i
invariant-loop-i l = Gathers l.digits l.bytes l.i l.seen
