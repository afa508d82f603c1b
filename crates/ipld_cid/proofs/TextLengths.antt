-- How long the bytes and the text of a CID are at most, and what reading a text without memory returns.
use Rattle.std.proofs.Common.{◌≡◌, ℕ, zero, suc, ◌*◌, ◌/◌, ◌≤◌, ◌<◌, List, [], ◌∷◌, ◌++◌, length, Result, Ok, Err, inl, inr, refl, sym, ap, ◌∙◌, arith}
use Rattle.std.specs.Prelude.{MatchResult, IfOk, IsOkAnd}
use Rattle.std.proofs.lemmas.Bool.{cases_lt, lt-ltb, le-ltb}
use Rattle.std.proofs.lemmas.List.{length-append}
use Rattle.ipld_cid.specs.declared.cid.CidGeneric.{CidGeneric}
use Rattle.ipld_cid.specs.declared.error.CidError.{CidError}
use Rattle.ipld_cid.specs.Varint.{groups_of, varint_of}
use Rattle.ipld_cid.specs.Cid.{Link}
use Rattle.ipld_cid.specs.LinkOf.{link_of}
use Rattle.ipld_cid.specs.Bytes.{IsCid}
use Rattle.ipld_cid.specs.Base32.{byte_bits}
use Rattle.ipld_cid.specs.ReadsText.{ReadsText}
use Rattle.ipld_cid.specs.TextReading.{IsText, read_text}
use Rattle.ipld_cid.proofs.Encodings.{v1_encoded}
use Rattle.ipld_cid.proofs.TextReadings.{text_is_encoded, text_is_read}

-- at most so many groups
groups_few : (more n : ℕ) → length (groups_of more n) ≤ suc more
groups_few zero n = omega arith
groups_few (suc more) n =
    elim (cases_lt n 128) [
      | inl small ↦ rw (lt-ltb n 128 small) (omega arith)
      | inr large ↦ rw (le-ltb n 128 large) (omega (arith, groups_few more (n / 128)))
    ]

-- a varint has at most ten bytes
pub varint_few : (n : ℕ) → length (varint_of n) ≤ 10
unfolding varint_of
varint_few n = groups_few 9 n

varint_one : (n : ℕ) → n < 128 → length (varint_of n) ≡ 1
unfolding varint_of
varint_one n h = rw (lt-ltb n 128 h)

-- a CID has at most 22 bytes before a digest of at most 64
pub cid_short : (bytes : List ℕ) (link : Link) → IsCid 64 bytes link → length bytes ≤ 86
cid_short bytes link (inl cid) = omega (arith, ap length cid.encoded, cid.sized)
cid_short bytes link (inr cid) =
    let encoded = v1_encoded 64 bytes link cid in
    let size = varint_of (length link.digest) in
    omega (
      arith,
      ap length encoded.parts,
      length-append (varint_of link.codec) (varint_of link.code ++ (size ++ link.digest)),
      length-append (varint_of link.code) (size ++ link.digest),
      length-append size link.digest,
      varint_few link.codec,
      varint_few link.code,
      varint_one (length link.digest) (omega (arith, cid.capacity)),
      cid.capacity,
    )

-- how many bits bytes have
pub length-byte_bits : (bytes : List ℕ) → length (byte_bits bytes) ≡ 8 * length bytes
length-byte_bits [] = refl
length-byte_bits (b ∷ bytes) = let others = length-byte_bits bytes in omega arith

same_link : (a b : Link) → ◌≡◌ {A = Result Link CidError} (Ok a) (Ok b) → a ≡ b
same_link a b e = cc

-- the exact outcome
abbrev Exact : List ℕ → Result (CidGeneric 64) CidError → Type 0
Exact text result = MatchResult result (λ c. read_text 64 text ≡ Ok (link_of c)) (λ error. read_text 64 text ≡ Err error)

found : (text : List ℕ) (result : Result (CidGeneric 64) CidError) → Exact text result → IfOk result (λ c. IsText 64 (link_of c) text)
found text (Ok c) exact = text_is_encoded 64 text (link_of c) exact
found text (Err error) exact = tt

only : (text : List ℕ) (result : Result (CidGeneric 64) CidError) → Exact text result → (link : Link) → IsText 64 link text → IsOkAnd result (λ c. link_of c ≡ link)
only text (Ok c) exact link is = same_link (link_of c) link (sym exact ∙ text_is_read 64 text link is)
only text (Err error) exact link is = absurd (let given = sym exact ∙ text_is_read 64 text link is in cc)

-- what is returned for a text
pub reads_text : (text : List ℕ) (result : Result (CidGeneric 64) CidError) → Exact text result → ReadsText text result
reads_text text result exact = record { found = found text result exact; only = only text result exact; exact = exact }
