-- The CID that a text is in DAG-JSON, or nothing.
use Rattle.std.specs.Prelude.{ℕ, ◌==◌, ◌&&◌, if◌then◌else◌, Bool, false, List, [], ◌∷◌, length, map, drop, Option, Some, None}
use Rattle.std.specs.Int.Digits.{digits_of, number_from_digits}
use Rattle.std.specs.List.{position_or_len}
use Rattle.std.specs.Result.{result_ok}
use Rattle.std.specs.Str.{bytes_eq}
use Rattle.ipld_cid.specs.declared.cid.Version.TheVariants.{V0}
use Rattle.ipld_cid.specs.Cid.{Link}
use Rattle.ipld_cid.specs.TextReading.{read_text}
use Rattle.ipld_cid_text.specs.declared.base.Base.TheVariants.{Base58Btc}
use Rattle.ipld_cid_text.specs.Base.{alphabet}
use Rattle.ipld_cid_text.specs.UsualText.{usual_text}

-- the digit that a letter of base58btc represents
abbrev pub value58 : ℕ → ℕ
value58 letter = position_or_len (λ c. c == letter) (alphabet Base58Btc)

-- the CID of version 0 whose bytes have this number
abbrev pub v0_of_number : ℕ → Link
v0_of_number n = record { version = V0; codec = 0x70; code = 0x12; digest = drop 2 (digits_of 256 n) }

-- the CID, if its digest has 32 bytes and its text is this one, or nothing
abbrev pub if_written : Link → List ℕ → Option Link
if_written link text = if length link.digest == 32 && bytes_eq (usual_text link) text then Some link else None

-- the CID of version 0 with this text, which is its number in base58btc, or nothing
unfoldable pub v0_of : List ℕ → Option Link
v0_of text = if_written (v0_of_number (number_from_digits 58 (map value58 text))) text

-- whether the text begins with `b`
abbrev pub begins_b : List ℕ → Bool
begins_b [] = false
begins_b (first ∷ text) = first == 98

-- The CID whose text in DAG-JSON this is, or nothing. The text of a CID of version 1 begins with
-- `b`, the prefix of base32 (IPLD DAG-JSON, links).
unfoldable pub cid_of : List ℕ → Option Link
cid_of text = if begins_b text then result_ok (read_text 64 text) else v0_of text
