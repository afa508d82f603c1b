use Rattle.ipld_tokens.proofs.ItemLinks.{same_links}
use Rattle.ipld_tokens.proofs.LinkOrder.{same_order}
use Rattle.ipld_tokens.proofs.laws.item_links_law.Goals as goal

pub returns-clause-times : goal.returns-clause-times
returns-clause-times c = same_links

pub returns-clause-order : goal.returns-clause-order
returns-clause-order c = same_order
