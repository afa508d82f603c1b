-- The model of known links, in the form that clauses use.
use Rattle.std.specs.Prelude.{map}
use Rattle.ipld_cid.specs.LinkOf.{link_of}
use Rattle.car_files.specs.declared.list.KnownLinks.{KnownLinks}
use Rattle.car_files.specs.declared.list.KnownLinks.TheVariants.{Links, UnknownCodec, Invalid}
use Rattle.car_files.specs.Written.{Known, known, unknown, invalid}

-- the model of known links
abbrev pub known_of : KnownLinks → Known
known_of (Links links) = known (map link_of links.items)
known_of UnknownCodec = unknown
known_of (Invalid why) = invalid why
