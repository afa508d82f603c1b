-- A CID's text in base58btc, or as it is printed, is its usual text.
use Rattle.std.proofs.Common.{◌≡◌, ℕ, List, ◌++◌, false, Result, Ok, Err, refl, sym, ap, subst, ◌∙◌, arith}
use Rattle.std.specs.Prelude.{map, replicate, IfOk}
use Rattle.std.specs.Int.Digits.{digits_of, number_from_digits}
use Rattle.ipld_cid.specs.declared.cid.Version.TheVariants.{V0, V1}
use Rattle.ipld_cid.specs.Bytes.{bytes_of}
use Rattle.ipld_cid.specs.Cid.{Link, IsValid}
use Rattle.ipld_cid.specs.Text.{text_of}
use Rattle.ipld_cid_text.specs.declared.base.Base.TheVariants.{Base32Lower, Base58Btc}
use Rattle.ipld_cid_text.specs.Base.{letter}
use Rattle.ipld_cid_text.specs.Digits.{leading_zeros}
use Rattle.ipld_cid_text.specs.Encodes.{Encodes}
use Rattle.ipld_cid_text.specs.Text.{IsPrefixed, IsText, IsTextAt}
use Rattle.ipld_cid_text.specs.UsualText.{base58, usual_text}
use Rattle.ipld_cid_text.proofs.Base32Texts.{text_of-is}
use Rattle.ipld_cid_text.proofs.Places.{digits-are}
use Rattle.ipld_cid_text.proofs.Writing.{written_reads}

-- the letters of bytes in base58btc
letters_are : (bytes letters : List ℕ) → Encodes Base58Btc bytes letters → letters ≡ base58 bytes
unfolding base58
letters_are bytes letters e =
    let d = e.digits in
    let are : d ≡ replicate (leading_zeros d) 0 ++ digits_of 58 (number_from_digits 58 d) = digits-are 58 d (omega arith) e.encoded.others_below in
    e.letters_are ∙ ap (map (letter Base58Btc)) (are ∙ ap (λ (z : ℕ). replicate z 0 ++ digits_of 58 (number_from_digits 58 d)) e.encoded.zeros
    ∙ ap (λ (n : ℕ). replicate (leading_zeros bytes) 0 ++ digits_of 58 n) e.encoded.number)

pub usual_v0 : (link : Link) → link.version ≡ V0 → usual_text link ≡ base58 (bytes_of link)
unfolding usual_text
usual_v0 link v = rw v refl

pub usual_v1 : (link : Link) → link.version ≡ V1 → usual_text link ≡ text_of link
unfolding usual_text
usual_v1 link v = rw v refl

-- what a text is read as, where it is said of it
pub if_ok : {A E : Type 0} (result : Result A E) (P Q : A → Type 0) → ((x : A) → P x → Q x) → IfOk result P → IfOk result Q
if_ok (Ok x) P Q f h = f x h
if_ok (Err e) P Q f h = h

-- the letters of a version 0 CID, without a prefix
pub in_base58 : (link : Link) (text : List ℕ) → link.version ≡ V0 → IsPrefixed Base58Btc false (bytes_of link) text → text ≡ usual_text link
in_base58 link text v is = is.whole ∙ letters_are (bytes_of link) is.letters is.encodes ∙ sym (usual_v0 link v)

pub base58_reads : (link : Link) (text : List ℕ) → IsValid 64 link → link.version ≡ V0 → IsPrefixed Base58Btc false (bytes_of link) text → IsText link text
base58_reads link text valid v is =
    written_reads Base58Btc link text valid (
    subst (λ version. IsTextAt version Base58Btc (bytes_of link) text) (sym v) (refl, subst (Encodes Base58Btc (bytes_of link)) (sym is.whole) is.encodes)
    )

-- the printed text of a version 1 CID
pub printed_reads : (link : Link) (text : List ℕ) → IsValid 64 link → link.version ≡ V1 → text ≡ text_of link → IsText link text
printed_reads link text valid v is = subst (IsText link) (sym is) (written_reads Base32Lower link (text_of link) valid (text_of-is link valid v))
