use Rattle.ipld_tokens.proofs.TreeItems.{is_item}
use Rattle.ipld_tokens.proofs.laws.tree_tokens_law.Goals as goal

pub returns : goal.returns
returns c = is_item c.cid_bytes_law.ensures.each_has_an_encoding
