-- The encoding of a multihash (multiformats Multihash) is the varints of the hash code and of the
-- digest's length, and then the digest.
use Rattle.std.specs.Prelude.{◌≡◌, ◌≤◌, ℕ, List, ◌++◌, length, Result, Ok}
use Rattle.ipld_cid.specs.declared.error.CidError.{CidError}
use Rattle.ipld_cid.specs.Multihash.{HashParts, IsBytes}
use Rattle.ipld_cid.specs.Varint.{IsVarint, varint_of, read_varint, ◌>>=◌}
use Rattle.ipld_cid.specs.Bytes.{read_digest}

-- True if `bytes` encode `hash`, whose digest is at most S bytes. They are a varint of the hash
-- code, a varint of the digest's length, and then the digest (multiformats Multihash).
pub record IsEncodedHash (S : ℕ) (bytes : List ℕ) (hash : HashParts) : Type 0 where
  pub capacity : length hash.digest ≤ S
  pub digits : IsBytes hash.digest
  pub code : List ℕ
  pub size : List ℕ
  pub code_encoded : IsVarint hash.code code
  pub size_encoded : IsVarint (length hash.digest) size
  pub encoded : bytes ≡ code ++ size ++ hash.digest

-- The bytes before the digest
abbrev pub hash_head_of : HashParts → List ℕ
hash_head_of hash = varint_of hash.code ++ varint_of (length hash.digest)

-- The one encoding of a multihash.
unfoldable pub hash_bytes_of : HashParts → List ℕ
hash_bytes_of hash = hash_head_of hash ++ hash.digest

-- The result of reading a multihash: the multihash, or the first error from the left.
unfoldable pub read_hash : ℕ → List ℕ → Result HashParts CidError
read_hash S bytes = do
  code ← read_varint bytes
  size ← read_varint code.1
  digest ← read_digest S size.0 size.1
  Ok (record { code = code.0; digest = digest })
