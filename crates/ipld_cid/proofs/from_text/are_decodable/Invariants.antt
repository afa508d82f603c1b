use Rattle.std.proofs.Common.{◌≡◌, drop}
use Rattle.std.specs.Prelude.{is_some}
use Rattle.ipld_cid.proofs.Octets.{blocks_decoded}
use Rattle.ipld_cid.proofs.from_text.are_decodable.Given as goal

abbrev pub invariant-loop-block : goal.invariant-loop-block
invariant-loop-block l = is_some (blocks_decoded l.blocks l.rest) ≡ is_some (blocks_decoded (drop l.block-index l.blocks) l.rest)
