use Rattle.ipld_cid.proofs.TextLengths.{reads_text}
use Rattle.ipld_cid.proofs.from_text.CidGeneric64TryFromRefStr.try_from.Goals as goal

pub returns : goal.returns
returns c = reads_text c.args.text.now c.read_cid_text.result (rw c.as_bytes.ensures.value at c.read_cid_text.ensures)
