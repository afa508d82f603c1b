use Rattle.std.proofs.Common.{◌∙◌}
use Rattle.std.proofs.Output.{has_written_of_eq}
use Rattle.ipld_cid.proofs.Quintets.{base32-ascii}
use Rattle.ipld_cid.proofs.base32.write_piece.Goals as goal

pub as_text-requires : goal.as_text-requires
as_text-requires g c = rw (c.as_slice.ensures ∙ c.push_base32.ensures.written, c.new-letters.ensures) (base32-ascii c.args.bytes.now)

pub returns : goal.returns
returns g c = λ plain ok. has_written_of_eq _ _ _ _ _ (c.as_text.ensures ∙ c.as_slice.ensures ∙ rw c.new-letters.ensures at c.push_base32.ensures.written) (c.write_str.ensures.writes plain ok)
