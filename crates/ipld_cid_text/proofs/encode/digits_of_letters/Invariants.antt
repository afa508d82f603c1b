use Rattle.ipld_cid_text.proofs.Lettering.{Stands}
use Rattle.ipld_cid_text.proofs.encode.digits_of_letters.Given as goal

abbrev pub invariant-loop-place : goal.invariant-loop-place
invariant-loop-place l = Stands l.fn.base l.letters l.place l.digits
