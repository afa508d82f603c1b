-- A CID at the front of bytes, and the bytes after it. There is at most one, because the bytes of a
-- CID never begin with those of another CID.
use Rattle.std.specs.Prelude.{◌≡◌, ◌==◌, ◌&&◌, ℕ, nat_lt, if◌then◌else◌, List, [], ◌∷◌, ◌++◌, length, take, drop, Result, Ok, Err}
use Rattle.ipld_cid.specs.declared.cid.Version.TheVariants.{V0, V1}
use Rattle.ipld_cid.specs.declared.error.CidError.{CidError}
use Rattle.ipld_cid.specs.declared.error.CidError.TheVariants.{End, DigestTooLong}
use Rattle.ipld_cid.specs.Varint.{read_varint, ◌>>=◌}
use Rattle.ipld_cid.specs.Cid.{Link}
use Rattle.ipld_cid.specs.Bytes.{IsCid, after_version}

-- True if `bytes` begin with an encoding of `link`, whose digest is at most S bytes, and `rest`
-- follows (multiformats CID).
pub record BeginsWith (S : ℕ) (bytes : List ℕ) (link : Link) (rest : List ℕ) : Type 0 where
  pub front : List ℕ
  pub encoded : IsCid S front link
  pub parts : bytes ≡ front ++ rest

-- The result of splitting: the CID and the bytes after it, or the first error from the left.

-- A digest of `size` bytes and the bytes after it. The error is `DigestTooLong` if `size` is above
-- S, and `End` if bytes are missing.
abbrev pub split_digest : ℕ → ℕ → List ℕ → Result (List ℕ × List ℕ) CidError
split_digest S size bytes =
    if nat_lt S size then Err DigestTooLong
    else if nat_lt (length bytes) size then Err End
    else Ok (take size bytes, drop size bytes)

-- The result of splitting a version 0 CID, from the bytes after `12 20`
unfoldable pub split_v0 : ℕ → List ℕ → Result (Link × List ℕ) CidError
split_v0 S bytes = do
  digest ← split_digest S 32 bytes
  Ok (record { version = V0; codec = 0x70; code = 0x12; digest = digest.0 }, digest.1)

unfoldable pub split_v1 : ℕ → List ℕ → Result (Link × List ℕ) CidError
split_v1 S bytes = do
  parts ← after_version bytes
  codec ← read_varint parts
  code ← read_varint codec.1
  size ← read_varint code.1
  digest ← split_digest S size.0 size.1
  Ok (record { version = V1; codec = codec.0; code = code.0; digest = digest.0 }, digest.1)

unfoldable pub split_cid : ℕ → List ℕ → Result (Link × List ℕ) CidError
split_cid S [] = Err End
split_cid S (a ∷ []) = if a == 0x12 then Err End else split_v1 S (a ∷ [])
split_cid S (a ∷ b ∷ bytes) = if a == 0x12 && b == 0x20 then split_v0 S bytes else split_v1 S (a ∷ b ∷ bytes)
