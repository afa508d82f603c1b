-- The model of what a folder says.
use Rattle.ipld_cid.specs.LinkOf.{link_of}
use Rattle.unixfs_folders.specs.declared.saying.Saying.{Saying}
use Rattle.unixfs_folders.specs.declared.saying.Saying.TheVariants.{Entry, Nothing, Deeper}
use Rattle.unixfs_folders.specs.Sayings as sayings

-- the model of what a folder says
abbrev pub saying_of : Saying → sayings.Saying
saying_of (Entry cid) = sayings.entry (link_of cid)
saying_of Nothing = sayings.nothing
saying_of (Deeper cid) = sayings.deeper (link_of cid)
