use Rattle.ipld_show.proofs.BlockItems.{block_item}
use Rattle.ipld_show.proofs.Items.{once}
use Rattle.ipld_show.proofs.laws.item_law.Goals as goal

pub returns-clause-of_block : goal.returns-clause-of_block
returns-clause-of_block c = block_item

pub returns-clause-once : goal.returns-clause-once
returns-clause-once c = once
