-- The texts of a CID, and the error of any other text.
use Rattle.std.specs.Prelude.{◌≡◌, ◌<◌, ◌+◌, ◌==◌, ◌&&◌, ◌⊎◌, ℕ, if◌then◌else◌, Bool, false, List, [], ◌∷◌, length, drop, Option, Some, None, Err}
use Rattle.std.specs.Option.{option_map}
use Rattle.ipld_cid.specs.declared.cid.Version.{Version}
use Rattle.ipld_cid.specs.declared.cid.Version.TheVariants.{V0, V1}
use Rattle.ipld_cid.specs.Cid.{Link}
use Rattle.ipld_cid.specs.Bytes.{IsCid, bytes_of, read_cid}
use Rattle.ipld_cid.specs.Multihash.{IsBytes}
use Rattle.ipld_cid_text.specs.declared.base.Base.{Base}
use Rattle.ipld_cid_text.specs.declared.base.Base.TheVariants.{Base58Btc}
use Rattle.ipld_cid_text.specs.declared.error.TextError.{TextError}
use Rattle.ipld_cid_text.specs.declared.error.TextError.TheVariants.{UnknownBase, InvalidLength, InvalidLetter, UnusedBits, WrongVersion, Cid}
use Rattle.ipld_cid_text.specs.Base.{prefix, base_of}
use Rattle.ipld_cid_text.specs.Encodes.{Encodes, AreDigits, IsFirstOther, IsUnencoded}

-- True if `text` is letters that encode `bytes`, after the prefix of the base if `prefixed`.
pub record IsPrefixed (base : Base) (prefixed : Bool) (bytes text : List ℕ) : Type 0 where
  pub letters : List ℕ
  pub encodes : Encodes base bytes letters
  pub whole : text ≡ (if prefixed then prefix base ∷ letters else letters)

-- True if `text` encodes `bytes` in the base, in the form of a CID of the version. For version 1 it
-- is the prefix and the letters that encode them. For version 0 it is only the letters, and the
-- base is base58btc.
abbrev pub IsTextAt : Version → Base → List ℕ → List ℕ → Type 0
IsTextAt V0 base bytes text = (base ≡ Base58Btc) × Encodes Base58Btc bytes text
IsTextAt V1 base bytes text = (letters : List ℕ) × (text ≡ prefix base ∷ letters) × Encodes base bytes letters

-- True if `text` is the text of the CID in the base: for version 1 the prefix and the letters that
-- encode its bytes, and for version 0 only the letters, in base58btc (multiformats CID).
abbrev pub IsTextIn : Base → Link → List ℕ → Type 0
IsTextIn base link text = IsTextAt link.version base (bytes_of link) text

-- The form of a text without `/ipfs/`: the base of its letters, the version of its CID, and the
-- number of characters before the letters.
pub record Form : Type 0 where
  pub base : Base
  pub version : Version
  pub skip : ℕ

-- Returns true if the text begins with `/ipfs/`.
abbrev pub has_path : List ℕ → Bool
has_path (a ∷ b ∷ c ∷ d ∷ e ∷ f ∷ text) = a == 47 && (b == 105 && (c == 112 && (d == 102 && (e == 115 && f == 47))))
has_path text = false

-- The number of characters before the CID: 6 if the text begins with `/ipfs/`, and 0 otherwise.
abbrev pub path_len : List ℕ → ℕ
path_len text = if has_path text then 6 else 0

-- Returns true if the text begins with `Qm`.
abbrev pub begins_qm : List ℕ → Bool
begins_qm (a ∷ b ∷ text) = a == 81 && b == 109
begins_qm text = false

-- The form of a multibase text, or nothing if it does not begin with the prefix of a base.
abbrev pub multibase_form : List ℕ → Option Form
multibase_form [] = None
multibase_form (first ∷ text) = option_map (λ base. record { base = base; version = V1; skip = 1 }) (base_of first)

-- The form of a text without `/ipfs/`, if it has one. A text of 46 characters that begins with `Qm`
-- is of version 0, and any other is multibase (multiformats CID, "Decoding Algorithm").
abbrev pub form_of : List ℕ → Option Form
form_of text = if length text == 46 && begins_qm text then Some (record { base = Base58Btc; version = V0; skip = 0 }) else multibase_form text

-- True if `text` is a text of the CID `link` (multiformats CID). After `/ipfs/`, if it begins with
-- that, it has a form of the CID's version, and its letters encode bytes of the CID.
pub record IsText (link : Link) (text : List ℕ) : Type 0 where
  pub form : Form
  pub has_form : form_of (drop (path_len text) text) ≡ Some form
  pub version : link.version ≡ form.version
  pub bytes : List ℕ
  pub encodes : Encodes form.base bytes (drop (path_len text + form.skip) text)
  pub means : IsCid 64 bytes link

-- True if `text` has a form, and more than 190 characters after `/ipfs/` and the prefix.
pub record IsTooLong (text : List ℕ) : Type 0 where
  pub form : Form
  pub has_form : form_of (drop (path_len text) text) ≡ Some form
  pub many : 190 < length (drop (path_len text + form.skip) text)

-- True if `letters`, which begin at byte `place` of a text, are not those of a CID of the version
-- in the base, for the reason that the error reports.
abbrev pub IsLettersError : Base → Version → ℕ → List ℕ → TextError → Type 0
IsLettersError base version place letters UnknownBase = ⊥
IsLettersError base version place letters InvalidLength = (190 < length letters) ⊎ ((digits : List ℕ) × AreDigits base letters digits × IsUnencoded base digits InvalidLength)
IsLettersError base version place letters (InvalidLetter at) = (i : ℕ) × (at ≡ place + i) × IsFirstOther base letters i
IsLettersError base version place letters UnusedBits = (digits : List ℕ) × AreDigits base letters digits × IsUnencoded base digits UnusedBits
IsLettersError base version place letters WrongVersion =
    (bytes : List ℕ) × (link : Link) × Encodes base bytes letters × IsCid 64 bytes link × (link.version ≡ version → ⊥)
IsLettersError base version place letters (Cid error) = (bytes : List ℕ) × IsBytes bytes × Encodes base bytes letters × (read_cid 64 bytes ≡ Err error)

-- True if `text` is not a text of a CID, for the reason that `error` reports.
abbrev pub IsTextError : List ℕ → TextError → Type 0
IsTextError text error =
    ((form_of (drop (path_len text) text) ≡ None) × (error ≡ UnknownBase))
    ⊎ ((form : Form) × (form_of (drop (path_len text) text) ≡ Some form)
    × IsLettersError form.base form.version (path_len text + form.skip) (drop (path_len text + form.skip) text) error)
