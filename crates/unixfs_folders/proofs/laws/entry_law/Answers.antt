use Rattle.unixfs_folders.proofs.Answering.{entry_once, one_or_none}
use Rattle.unixfs_folders.proofs.laws.entry_law.Goals as goal

pub returns : goal.returns
returns c = record {
  one_entry = entry_once c.parsed_law.ensures;
  one_or_none = one_or_none c.parsed_law.ensures;
}
