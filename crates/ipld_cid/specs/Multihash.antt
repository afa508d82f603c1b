-- A multihash is the code of a hash function and a digest (multiformats Multihash).
use Rattle.std.specs.Prelude.{◌≡◌, ◌≤◌, ◌<◌, ◌^◌, ℕ, List, length, slice_index}

-- The parts of a multihash: a hash code and a digest (multiformats Multihash).
pub record HashParts : Type 0 where
  pub code : ℕ
  pub digest : List ℕ

-- True if the multihash is a SHA2-256 digest of 32 bytes, the only kind in version 0 CIDs
-- (multiformats Multihash).
abbrev pub IsSha256 : HashParts → Type 0
IsSha256 hash = (hash.code ≡ 0x12) × (length hash.digest ≡ 32)

-- True if every number is a byte
abbrev pub IsBytes : List ℕ → Type 0
IsBytes xs = (i : ℕ) → slice_index xs i < 256

-- True if the hash code is below 2^64 and the digest consists of at most S bytes (multiformats
-- Multihash).
abbrev pub IsMultihash : ℕ → HashParts → Type 0
IsMultihash S hash = (hash.code < 2 ^ 64) × (length hash.digest ≤ S) × IsBytes hash.digest
