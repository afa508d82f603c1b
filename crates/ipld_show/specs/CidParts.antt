-- The parts of a CID as text, one per line.
use Rattle.std.specs.Prelude.{◌≡◌, ◌⊎◌, ℕ, false, List, [], ◌++◌, Option, Some, None, codes}
use Rattle.std.specs.Fmt.{digits}
use Rattle.ipld_cid.specs.Cid.{Link}
use Rattle.ipld_cid.specs.Bytes.{bytes_of}
use Rattle.ipld_cid.specs.declared.cid.Version.{Version}
use Rattle.ipld_cid.specs.declared.cid.Version.TheVariants.{V0, V1}
use Rattle.ipld_cid_text.specs.declared.base.Base.{Base}
use Rattle.ipld_cid_text.specs.declared.base.Base.TheVariants.{Base16Lower, Base32Lower, Base32Upper, Base36Lower, Base58Btc, Base64Url}
use Rattle.ipld_cid_text.specs.Text.{IsTextIn}
use Rattle.ipld_block.specs.Codes.{codec_name_of}
use Rattle.ipld_block.specs.Texts.{usual_text}
use Rattle.ipld_show.specs.Scalars.{hex_text}

-- a line: a label, a text and a line feed
abbrev pub line : List ℕ → List ℕ → List ℕ
line label text = label ++ (text ++ codes "\n")

-- the text of a code: its hexadecimal digits, or its name followed by the digits in brackets
abbrev pub code_text : Option (List ℕ) → ℕ → List ℕ
code_text (Some name) code = name ++ (codes " (0x" ++ (digits 16 false code ++ codes ")"))
code_text None code = codes "0x" ++ digits 16 false code

abbrev pub version_text : Version → List ℕ
version_text V0 = codes "0"
version_text V1 = codes "1"

-- the lines of the text, the version, the codec, the hash function, the digest and the bytes of a
-- CID, with the name of the hash function if `hash` is given
abbrev pub part_lines : Option (List ℕ) → Link → List ℕ
part_lines hash cid =
    line (codes "cid         ") (usual_text cid)
    ++ (line (codes "version     ") (version_text cid.version)
    ++ (line (codes "codec       ") (code_text (codec_name_of cid.codec) cid.codec)
    ++ (line (codes "hash        ") (code_text hash cid.code)
    ++ (line (codes "digest      ") (hex_text cid.digest)
    ++ line (codes "bytes       ") (hex_text (bytes_of cid))))))

-- True if `t` is the line of the CID's text in the base, or is empty for a CID of version 0 in a
-- base other than base58.
abbrev pub IsBaseLine : Base → List ℕ → Link → List ℕ → Type 0
IsBaseLine base label cid t = ((text : List ℕ) × IsTextIn base cid text × (t ≡ line label text)) ⊎ ((t ≡ []) × (cid.version ≡ V0) × (base ≡ Base58Btc → ⊥))

-- True if `t` is the lines of the CID's text in all the bases, in this order.
pub record AreBaseLines (cid : Link) (t : List ℕ) : Type 0 where
  pub base16 : List ℕ
  pub base32 : List ℕ
  pub base32upper : List ℕ
  pub base36 : List ℕ
  pub base58 : List ℕ
  pub base64url : List ℕ
  pub is_base16 : IsBaseLine Base16Lower (codes "base16      ") cid base16
  pub is_base32 : IsBaseLine Base32Lower (codes "base32      ") cid base32
  pub is_base32upper : IsBaseLine Base32Upper (codes "base32upper ") cid base32upper
  pub is_base36 : IsBaseLine Base36Lower (codes "base36      ") cid base36
  pub is_base58 : IsBaseLine Base58Btc (codes "base58btc   ") cid base58
  pub is_base64url : IsBaseLine Base64Url (codes "base64url   ") cid base64url
  pub all : t ≡ base16 ++ (base32 ++ (base32upper ++ (base36 ++ (base58 ++ base64url))))

-- True if `t` is the lines of the CID's parts, with any name of the hash function or without one,
-- followed by those of its text in the bases.
pub record AreCidParts (cid : Link) (t : List ℕ) : Type 0 where
  pub hash : Option (List ℕ)
  pub bases : List ℕ
  pub are_bases : AreBaseLines cid bases
  pub all : t ≡ part_lines hash cid ++ bases
