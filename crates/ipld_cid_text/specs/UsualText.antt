-- The usual text of a CID: base58btc for version 0, and the multibase prefix `b` and base32 for
-- version 1.
use Rattle.std.specs.Prelude.{ℕ, List, ◌++◌, map, replicate}
use Rattle.std.specs.Int.Digits.{digits_of, number_from_digits}
use Rattle.ipld_cid.specs.declared.cid.Version.TheVariants.{V0, V1}
use Rattle.ipld_cid.specs.Bytes.{bytes_of}
use Rattle.ipld_cid.specs.Cid.{Link}
use Rattle.ipld_cid.specs.Text as printed
use Rattle.ipld_cid_text.specs.declared.base.Base.TheVariants.{Base58Btc}
use Rattle.ipld_cid_text.specs.Base.{letter}
use Rattle.ipld_cid_text.specs.Digits.{leading_zeros}

-- The base58btc text of bytes: the letter of the digit 0 for every leading zero byte, followed by
-- the letters of the base-58 digits of the bytes' number.
unfoldable pub base58 : List ℕ → List ℕ
base58 bytes = map (letter Base58Btc) (replicate (leading_zeros bytes) 0 ++ digits_of 58 (number_from_digits 256 bytes))

-- The usual text of a CID: base58btc for version 0, and the printed text, `b` and base32, for
-- version 1 (multiformats CID; IPLD DAG-JSON, links).
unfoldable pub usual_text : Link → List ℕ
usual_text link = elim link.version [
  | V0 ↦ base58 (bytes_of link)
  | V1 ↦ printed.text_of link
]
