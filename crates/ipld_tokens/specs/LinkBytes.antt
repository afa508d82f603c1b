-- This file defines the CID that the bytes after a link mark encode (multiformats CID), if there is
-- one.
use Rattle.std.specs.Prelude.{ℕ, ◌^◌, ◌==◌, ◌&&◌, nat_lt, nat_le, Bool, true, List, [], ◌∷◌, length, Option, Some, None, Result, Ok, Err, if◌then◌else◌}
use Rattle.std.specs.Str.{bytes_eq}
use Rattle.ipld_cid.specs.declared.cid.Version.{Version}
use Rattle.ipld_cid.specs.declared.cid.Version.TheVariants.{V0, V1}
use Rattle.ipld_cid.specs.declared.error.CidError.{CidError}
use Rattle.ipld_cid.specs.Cid.{Link}
use Rattle.ipld_cid.specs.Bytes.{read_cid, bytes_of}

abbrev pub are_bytes : List ℕ → Bool
are_bytes [] = true
are_bytes (b ∷ bs) = nat_lt b 256 && are_bytes bs

-- Returns whether a CID of this version may have this codec, hash function and digest length.
abbrev pub has_form : Version → Link → Bool
has_form V0 cid = cid.codec == 0x70 && (cid.code == 0x12 && length cid.digest == 32)
has_form V1 cid = true

-- Returns whether the parts are those of a CID with a digest of at most `S` bytes.
abbrev pub is_valid : ℕ → Link → Bool
is_valid S cid =
    (nat_lt cid.codec (2 ^ 64) && (nat_lt cid.code (2 ^ 64) && nat_le (length cid.digest) S)) && (are_bytes cid.digest && has_form cid.version cid)

abbrev pub if_encoded : ℕ → List ℕ → Result Link CidError → Option Link
if_encoded S bytes (Ok cid) = if is_valid S cid && bytes_eq bytes (bytes_of cid) then Some cid else None
if_encoded S bytes (Err cid_error) = None

-- the CID that reading the bytes returns, if it is valid and the bytes are its encoding
unfoldable pub read_link : ℕ → List ℕ → Option Link
read_link S bytes = if_encoded S bytes (read_cid S bytes)
