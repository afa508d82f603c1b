-- This file models an iterator of links by the links that it has yet to return.
use Rattle.std.specs.Prelude.{List, map}
use Rattle.std.specs.Vec.Iter.{into_iter_items}
use Rattle.ipld_cid.specs.declared.cid.CidGeneric.{CidGeneric}
use Rattle.ipld_cid.specs.Cid.{Link}
use Rattle.ipld_cid.specs.LinkOf.{link_of}
use Rattle.ipld_codec.specs.declared.link_iter.LinkIter.{LinkIter}

-- the CIDs that the iterator has yet to return
abbrev pub cids_left : LinkIter → List (CidGeneric 64)
cids_left links = into_iter_items links.rest

-- the links that the iterator has yet to return
abbrev pub links_left : LinkIter → List Link
links_left links = map link_of (cids_left links)
