use Rattle.ipld_cid.proofs.Letters.{Gathers}
use Rattle.ipld_cid.proofs.from_text.block_number.Given as goal

abbrev pub invariant-loop-letter : goal.invariant-loop-letter
invariant-loop-letter l = Gathers l.letters l.letter-index l.bits l.seen
