-- The CID of a raw block.
use Rattle.std.specs.Prelude.{◌≡◌, ℕ, List, Option}
use Rattle.std.specs.Io.KnownBytes.{Consumes, IsAtEnd}
use Rattle.sha2.specs.Sha256.{sha256}
use Rattle.ipld_cid.specs.Cid.{Link}
use Rattle.ipld_cid.specs.LinkOf.{link_of}
use Rattle.ipld_cid.specs.declared.cid.CidGeneric.{CidGeneric}
use Rattle.ipld_cid.specs.declared.cid.Version.TheVariants.{V1}

-- the CID of a raw block with this SHA2-256 digest: version 1, codec 0x55, hash function 0x12
-- (multicodec)
abbrev pub raw_link : List ℕ → Link
raw_link digest = record { version = V1; codec = 0x55; code = 0x12; digest = digest }

-- True if a block was taken from a reader to its end, and the CID is that of the raw block
-- (FIPS 180-4).
abbrev pub NamesAll : (before after : Option (List ℕ)) → CidGeneric 64 → Type 0
NamesAll before after cid =
    (block : List ℕ) × Consumes before after block × IsAtEnd after × (link_of cid ≡ raw_link (sha256 block))
