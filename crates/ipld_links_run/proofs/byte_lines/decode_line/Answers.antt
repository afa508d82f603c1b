use Rattle.std.proofs.Common.{rules}
use Rattle.ipld_links_run.proofs.DigitLemmas.{understood, no_digits}
use Rattle.ipld_links_run.proofs.byte_lines.decode_line.Goals as goal

pub returns-then-is_empty : goal.returns-then-is_empty
returns-then-is_empty c = no_digits _ (search rules)

pub returns : goal.returns
returns c = understood c.args.line.now _ _ _ _ _ (search rules) (search rules) (search rules) c.decode_digits.ensures
