-- The digest of a block by a hash function of the multicodec table.
use Rattle.std.specs.Prelude.{◌≡◌, ◌≢◌, ◌==◌, ℕ, List, Option, Some, None, if◌then◌else◌}
use Rattle.blake2b.specs.Blake2b.{blake2b}
use Rattle.sha2.specs.Sha256.{sha256}
use Rattle.sha2.specs.Sha512.{sha512}
use Rattle.ipld_cid.specs.Cid.{Link}
use Rattle.ipld_block.specs.declared.block_cid.error.VerifyError.{VerifyError}
use Rattle.ipld_block.specs.declared.block_cid.error.VerifyError.TheVariants.{UnknownHash, WrongDigest}

-- The digest of a block by the hash function with this code: SHA2-256 for 0x12, SHA2-512 for 0x13,
-- BLAKE2b-256 for 0xb220, and the block itself for 0x00. It is nothing for other codes, whose
-- functions are not known (multicodec: `sha2-256`, `sha2-512`, `blake2b-256`, `identity`; FIPS 180-4,
-- RFC 7693).
abbrev pub digest_by : ℕ → List ℕ → Option (List ℕ)
digest_by code block =
    if code == 0x12 then Some (sha256 block)
    else if code == 0x13 then Some (sha512 block)
    else if code == 0xb220 then Some (blake2b 32 block)
    else if code == 0x00 then Some block
    else None

-- True if the block cannot be verified against the CID for this reason: the hash function is
-- unknown, or the digest differs.
abbrev pub IsVerifyError : Link → List ℕ → VerifyError → Type 0
IsVerifyError link block (UnknownHash code) = (code ≡ link.code) × (digest_by link.code block ≡ None)
IsVerifyError link block WrongDigest = (digest : List ℕ) × (digest_by link.code block ≡ Some digest) × (digest ≢ link.digest)
