-- The links that a finder has, and those among tokens.
use Rattle.std.specs.Prelude.{List, map, ◌++◌}
use Rattle.ipld_cid.specs.Cid.{Link}
use Rattle.ipld_cid.specs.LinkOf.{link_of}
use Rattle.ipld_tokens.specs.Token.{TokenModel}
use Rattle.dag_cbor_format.specs.Found.{links_among}
use Rattle.dag_cbor_blocks.specs.declared.links.LinkFinder.{LinkFinder}

-- the links of a finder and then those among tokens
abbrev pub links_with : LinkFinder → List TokenModel → List Link
links_with finder tokens = map link_of finder.links.items ++ links_among tokens
