use Rattle.std.proofs.Common.{◌≡◌, ◌*◌, ◌++◌, take, drop}
use Rattle.std.specs.Option.{option_map}
use Rattle.ipld_cid.proofs.Octets.{blocks_decoded}
use Rattle.ipld_cid.proofs.from_text.decode_letters.Given as goal

abbrev pub invariant-loop-i : goal.invariant-loop-i
invariant-loop-i l =
    blocks_decoded l.blocks l.rest ≡ option_map (λ more. take (5 * l.i) l.bytes ++ more) (blocks_decoded (drop l.i l.blocks) l.rest)
