use Rattle.unixfs.proofs.Files.{named_once}
use Rattle.unixfs.proofs.laws.content_law.Goals as goal

pub returns : goal.returns
returns c = named_once c.parsed_law.ensures
