-- The encoding of a CID (multiformats CID). Version 0 is only a multihash: `12 20` and 32 bytes.
-- Version 1 is the varints of 1, of the codec, of the hash code and of the digest's length, and
-- then the digest.
use Rattle.std.specs.Prelude.{◌≡◌, ◌≤◌, ◌==◌, ◌&&◌, ◌⊎◌, ℕ, nat_lt, if◌then◌else◌, List, [], ◌∷◌, ◌++◌, length, Result, Ok, Err}
use Rattle.ipld_cid.specs.declared.cid.Version.TheVariants.{V0, V1}
use Rattle.ipld_cid.specs.declared.error.CidError.{CidError}
use Rattle.ipld_cid.specs.declared.error.CidError.TheVariants.{End, ExplicitVersion0, UnknownVersion, DigestTooLong, TrailingBytes}
use Rattle.ipld_cid.specs.Multihash.{IsBytes}
use Rattle.ipld_cid.specs.Varint.{IsVarint, varint_of, read_varint, ◌>>=◌}
use Rattle.ipld_cid.specs.Cid.{Link}

-- True if `bytes` encode `link`, a version 0 CID, and S is at least 32
pub record IsCidV0 (S : ℕ) (bytes : List ℕ) (link : Link) : Type 0 where
  pub capacity : 32 ≤ S
  pub sized : length link.digest ≡ 32
  pub digits : IsBytes link.digest
  pub means : link ≡ record { version = V0; codec = 0x70; code = 0x12; digest = link.digest }
  pub encoded : bytes ≡ 0x12 ∷ 0x20 ∷ link.digest

-- True if `bytes` encode `link`, a version 1 CID with a digest of at most S bytes
pub record IsCidV1 (S : ℕ) (bytes : List ℕ) (link : Link) : Type 0 where
  pub capacity : length link.digest ≤ S
  pub digits : IsBytes link.digest
  pub is_v1 : link.version ≡ V1
  pub version : List ℕ
  pub codec : List ℕ
  pub code : List ℕ
  pub size : List ℕ
  pub version_encoded : IsVarint 1 version
  pub codec_encoded : IsVarint link.codec codec
  pub code_encoded : IsVarint link.code code
  pub size_encoded : IsVarint (length link.digest) size
  pub encoded : bytes ≡ version ++ codec ++ code ++ size ++ link.digest

-- True if the bytes encode the CID, whose digest is at most S bytes. Version 0 is `12 20` and the
-- 32 bytes of the digest. Version 1 is the varints of 1, of the codec, of the hash code and of the
-- digest's length, and then the digest (multiformats CID, "How does it work?").
abbrev pub IsCid : ℕ → List ℕ → Link → Type 0
IsCid S bytes link = IsCidV0 S bytes link ⊎ IsCidV1 S bytes link

-- The bytes before the digest
abbrev pub head_of : Link → List ℕ
head_of link = elim link.version [
  | V0 ↦ 0x12 ∷ 0x20 ∷ []
  | V1 ↦ 1 ∷ varint_of link.codec ++ varint_of link.code ++ varint_of (length link.digest)
]

-- The one encoding of a CID.
unfoldable pub bytes_of : Link → List ℕ
bytes_of link = head_of link ++ link.digest

-- The result of reading: the CID, or the first error from the left.

-- The bytes after the version, if it is 1, and otherwise the error
unfoldable pub after_version : List ℕ → Result (List ℕ) CidError
after_version bytes = read_varint bytes >>= λ version.
    if version.0 == 0 then Err ExplicitVersion0
    else if version.0 == 1 then Ok version.1
    else Err (UnknownVersion version.0)

-- Returns `bytes` if they are a digest of exactly `size` bytes, and `size` is at most S. Otherwise
-- returns the error.
abbrev pub read_digest : ℕ → ℕ → List ℕ → Result (List ℕ) CidError
read_digest S size bytes =
    if nat_lt S size then Err DigestTooLong
    else if nat_lt (length bytes) size then Err End
    else if nat_lt size (length bytes) then Err TrailingBytes
    else Ok bytes

-- The result of reading a version 0 CID, from the bytes after `12 20`
unfoldable pub read_v0 : ℕ → List ℕ → Result Link CidError
read_v0 S bytes = do
  digest ← read_digest S 32 bytes
  Ok (record { version = V0; codec = 0x70; code = 0x12; digest = digest })

unfoldable pub read_v1 : ℕ → List ℕ → Result Link CidError
read_v1 S bytes = do
  parts ← after_version bytes
  codec ← read_varint parts
  code ← read_varint codec.1
  size ← read_varint code.1
  digest ← read_digest S size.0 size.1
  Ok (record { version = V1; codec = codec.0; code = code.0; digest = digest })

-- The result of reading a CID: the CID, or the first error from the left. Bytes that begin with
-- `12 20` are version 0. The single byte `12` is an incomplete CID (`End`).
unfoldable pub read_cid : ℕ → List ℕ → Result Link CidError
read_cid S [] = Err End
read_cid S (a ∷ []) = if a == 0x12 then Err End else read_v1 S (a ∷ [])
read_cid S (a ∷ b ∷ bytes) = if a == 0x12 && b == 0x20 then read_v0 S bytes else read_v1 S (a ∷ b ∷ bytes)
