-- A CID is a version, the codec of the content, and the multihash of the content (multiformats
-- CID).
use Rattle.std.specs.Prelude.{◌≡◌, ℕ, ◌<◌, ◌^◌, List}
use Rattle.std.specs.Coded.{Unit-prop}
use Rattle.std.proofs.Props.{props}
use Rattle.ipld_cid.specs.declared.cid.Version.{Version}
use Rattle.ipld_cid.specs.declared.cid.Version.TheVariants.{V0, V1}
use Rattle.ipld_cid.specs.Multihash.{HashParts, IsMultihash, IsSha256}

-- The model of a CID: its version, codec, hash code and digest (multiformats CID).
pub record Link : Type 0 where
  pub version : Version
  pub codec : ℕ
  pub code : ℕ
  pub digest : List ℕ

-- The CID with these parts
abbrev pub link_from_parts : Version → ℕ → HashParts → Link
link_from_parts version codec hash = record { version = version; codec = codec; code = hash.code; digest = hash.digest }

-- The multihash of a CID
abbrev pub hash_of : Link → HashParts
hash_of link = record { code = link.code; digest = link.digest }

-- True if a CID of the version may have the codec and the multihash. Version 0 is only for DAG-PB
-- (0x70) with SHA2-256. Version 1 may have any codec and any hash.
abbrev pub IsForm : Version → ℕ → HashParts → Type 0
IsForm V0 codec hash = (codec ≡ 0x70) × IsSha256 hash
IsForm V1 codec hash = Unit {0}

-- True if the CID is valid and has a digest of at most S bytes. Its codec and hash code are below
-- 2^64, and it is of version 0 only with codec 0x70 and a SHA2-256 hash (multiformats CID).
abbrev pub IsValid : ℕ → Link → Type 0
IsValid S link =
    (link.codec < 2 ^ 64) × IsMultihash S (hash_of link) × IsForm link.version link.codec (hash_of link)

IsForm-prop : (version : Version) (codec : ℕ) (hash : HashParts) → IsProp (IsForm version codec hash)
IsForm-prop V0 codec hash = hlevel props
IsForm-prop V1 codec hash = Unit-prop

pub IsValid-prop : (S : ℕ) (link : Link) → IsProp (IsValid S link)
IsValid-prop S link = hlevel (props, IsForm-prop link.version link.codec (hash_of link))
