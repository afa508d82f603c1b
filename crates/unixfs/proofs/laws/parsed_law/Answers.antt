use Rattle.unixfs.proofs.Files.{parsed_once}
use Rattle.unixfs.proofs.laws.parsed_law.Goals as goal

pub returns : goal.returns
returns c = parsed_once c.node_law.ensures.one_node c.data_law.ensures.one_message
