use Rattle.std.proofs.Common.{refl}
use Rattle.ipld_cid.specs.LinkOf.{link_of}
use Rattle.unixfs_folders.specs.Lookups.{at_root}
use Rattle.unixfs_folders.proofs.lookup.Lookup.new.Goals as goal

pub returns-clause-begins : goal.returns-clause-begins
returns-clause-begins c = λ h. (link_of c.args.folder.now, refl, at_root refl refl)
