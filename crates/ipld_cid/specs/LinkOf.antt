-- The model of a `CidGeneric`, for clauses.
use Rattle.std.specs.Prelude.{ℕ}
use Rattle.ipld_cid.specs.declared.cid.CidGeneric.{CidGeneric}
use Rattle.ipld_cid.specs.Cid.{Link, link_from_parts, IsValid}

-- The CID that is the model of a `CidGeneric`.
abbrev pub link_of : {S : ℕ} → CidGeneric S → Link
link_of c = link_from_parts c.version c.codec c.hash

-- Every `CidGeneric S` is a valid CID with a digest of at most S bytes.
pub valid_link : {S : ℕ} (c : CidGeneric S) → IsValid S (link_of c)
valid_link c = c.valid
