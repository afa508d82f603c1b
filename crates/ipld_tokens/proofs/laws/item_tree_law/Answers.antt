use Rattle.ipld_tokens.proofs.ItemFronts.{same_tree, one_tree}
use Rattle.ipld_tokens.proofs.laws.item_tree_law.Goals as goal

pub returns-clause-same_tree : goal.returns-clause-same_tree
returns-clause-same_tree c = same_tree c.cid_bytes_law.ensures.one_meaning

pub returns-clause-one_tree : goal.returns-clause-one_tree
returns-clause-one_tree c = one_tree c.cid_bytes_law.ensures.one_meaning c.cid_bytes_law.ensures.each_has_an_encoding
