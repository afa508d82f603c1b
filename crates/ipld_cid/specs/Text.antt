-- The printed text of a CID. Version 1 is the multibase prefix `b` and base32. Version 0 is the
-- hexadecimal digits of its bytes.
use Rattle.std.specs.Prelude.{◌∷◌, ℕ, List}
use Rattle.hex.specs.Hex.{encode_lower}
use Rattle.ipld_cid.specs.declared.cid.Version.TheVariants.{V0, V1}
use Rattle.ipld_cid.specs.Cid.{Link}
use Rattle.ipld_cid.specs.Bytes.{bytes_of}
use Rattle.ipld_cid.specs.Base32.{base32}

-- The printed text of a CID. For version 1 it is `b` and the base32 of its bytes (multibase, prefix
-- `b`). For version 0 it is the lower-case hexadecimal digits of its bytes (this project's own).
unfoldable pub text_of : Link → List ℕ
text_of link = elim link.version [
  | V0 ↦ encode_lower (bytes_of link)
  | V1 ↦ 98 ∷ base32 (bytes_of link)
]
