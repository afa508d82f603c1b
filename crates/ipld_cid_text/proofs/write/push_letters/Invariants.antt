use Rattle.std.proofs.Common.{◌≡◌, ◌++◌, take}
use Rattle.std.specs.Prelude.{map}
use Rattle.ipld_cid_text.specs.Base.{letter}
use Rattle.ipld_cid_text.proofs.write.push_letters.Given as goal

abbrev pub invariant-loop-digit : goal.invariant-loop-digit
invariant-loop-digit l = l.text.items ≡ l.fn.text.items ++ map (letter l.fn.base) (take l.digit-index l.digits)
