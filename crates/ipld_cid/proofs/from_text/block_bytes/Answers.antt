use Rattle.std.proofs.Common.{sym}
use Rattle.ipld_cid.proofs.Octets.{decoded-none, decoded-block}
use Rattle.ipld_cid.proofs.from_text.block_bytes.Goals as goal

pub returns : goal.returns
returns c =
    let found = c.in_ok-block_number.ensures in
    rw c.to_be_bytes.ensures (sym (decoded-block c.args.letters.now found.0 c.in_ok-block_number.field-0 found.1 found.2))

pub returns-in_err-block_number : goal.returns-in_err-block_number
returns-in_err-block_number c = rw c.from_residual.ensures (sym (decoded-none c.args.letters.now c.in_err-block_number.ensures))
