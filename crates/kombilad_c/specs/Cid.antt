-- The results of the exports about a CID.
use Rattle.std.specs.Prelude.{◌≡◌, ◌⊎◌, ◌==◌, ℕ, if◌then◌else◌, List, Option, Some, Result, Ok, Err}
use Rattle.std.specs.Str.{IsUtf8}
use Rattle.ipld_cid.specs.declared.cid.Version.{Version}
use Rattle.ipld_cid.specs.declared.cid.Version.TheVariants.{V0, V1}
use Rattle.ipld_cid.specs.declared.error.CidError.{CidError}
use Rattle.ipld_cid.specs.Cid.{Link}
use Rattle.ipld_cid_text.specs.declared.base.Base.{Base}
use Rattle.ipld_cid_text.specs.declared.base.Base.TheVariants.{Base32Lower, Base58Btc}
use Rattle.ipld_cid_text.specs.declared.error.TextError.{TextError}
use Rattle.ipld_cid_text.specs.declared.error.TextError.TheVariants as text
use Rattle.ipld_cid_text.specs.Base.{base_of}
use Rattle.ipld_cid_text.specs.Text.{IsTextIn, IsText, IsTextError}
use Rattle.kombilad_c.specs.declared.cid_record.CidBytes.{CidBytes}
use Rattle.kombilad_c.specs.Status.{cid_status, text_status}
use Rattle.kombilad_c.specs.Fill.{Variable, Fills, IsUntouched}
use Rattle.kombilad_c.specs.CidRecord.{record_of}

-- The status of reading bytes as a CID: 0, or the number of the error.
abbrev pub read_status : Result Link CidError → ℕ
read_status (Ok link) = 0
read_status (Err error) = cid_status error

-- The default base of a CID's text: base58btc for version 0, and base32 in lower case for version 1
abbrev pub usual_base : Version → Base
usual_base V0 = Base58Btc
usual_base V1 = Base32Lower

-- The base that a number selects, if it is known. 0 selects base32 in lower case for version 1 and
-- base58btc for version 0. Another number selects the base of that multibase prefix (multiformats
-- multibase).
abbrev pub asked_base : Version → ℕ → Option Base
asked_base version number = if number == 0 then Some (usual_base version) else base_of number

-- True if a text of the CID in the base goes to the buffer. Or an allocation failed (status 1), or
-- the CID is of version 0 and the base is not base58btc (status 5). In both cases the buffer and
-- the needed length are as before.
abbrev pub WritesText :
    Base → Link → (status : ℕ) → Variable (List ℕ) → (needed : Variable ℕ) → Type 0
WritesText base link status buffer needed =
    ((content : List ℕ) × IsTextIn base link content
    × Fills content status buffer.before buffer.after needed.after)
    ⊎ ((status ≡ 1) × IsUntouched buffer.before buffer.after needed.before needed.after)
    ⊎ ((status ≡ 5) × (link.version ≡ V0) × (base ≡ Base58Btc → ⊥)
    × IsUntouched buffer.before buffer.after needed.before needed.after)

-- The place of the invalid letter that the error names, or `place` for another error
abbrev pub place_or : ℕ → TextError → ℕ
place_or place (text.InvalidLetter at) = at
place_or place error = place

-- True if the text is that of a CID, its record is written, and the status is 0. The place is as
-- before.
pub record IsParsed (content : List ℕ) (status : ℕ) (after : CidBytes) (place_before place : ℕ) : Type 0 where
  pub link : Link
  pub is_text : IsText link content
  pub done : status ≡ 0
  pub written : after ≡ record_of link
  pub same_place : place ≡ place_before

-- True if `content` is UTF-8, but not the text of a CID. The status is the number of the error, and
-- the record is as before. The place is that of an invalid letter, and otherwise as before.
pub record IsRejected (content : List ℕ) (status : ℕ) (before after : CidBytes) (place_before place : ℕ) : Type 0 where
  pub utf8 : IsUtf8 content
  pub error : TextError
  pub why : IsTextError content error
  pub failed : status ≡ text_status error
  pub same : after ≡ before
  pub named_place : place ≡ place_or place_before error

-- True if the bytes are not UTF-8, and the status is 37. The record and the place are as before.
pub record IsNoText (content : List ℕ) (status : ℕ) (before after : CidBytes) (place_before place : ℕ) : Type 0 where
  pub no_utf8 : IsUtf8 content → ⊥
  pub failed : status ≡ 37
  pub same : after ≡ before
  pub same_place : place ≡ place_before
