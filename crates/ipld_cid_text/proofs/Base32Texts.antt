-- The usual text of a version 1 CID is its text in base32, and read as that.
use Rattle.std.proofs.Common.{◌≡◌, ℕ, zero, suc, ◌<◌, List, [], ◌∷◌, ◌++◌, replicate, refl, sym, ap, subst, ◌∙◌, arith, inl, inr, lit<}
use Rattle.std.specs.Prelude.{length, map}
use Rattle.ipld_cid.specs.declared.cid.Version.TheVariants.{V1}
use Rattle.ipld_cid.specs.Cid.{Link, IsValid}
use Rattle.ipld_cid.specs.Varint.{IsLeb128}
use Rattle.ipld_cid.specs.Bytes.{IsCid, bytes_of}
use Rattle.ipld_cid.specs.Multihash.{IsBytes}
use Rattle.ipld_cid.specs.Base32 as cid
use Rattle.ipld_cid.specs.Base32.{bits, byte_bits}
use Rattle.ipld_cid.specs.Text.{text_of}
use Rattle.ipld_cid.specs.TextReading as reading
use Rattle.ipld_cid.proofs.Encodings.{has_encoding, one_encoding}
use Rattle.ipld_cid.proofs.TextReadings.{has_text, one_text}
use Rattle.ipld_cid_text.specs.declared.base.Base.TheVariants.{Base32Lower}
use Rattle.ipld_cid_text.specs.Base.{alphabet, letter}
use Rattle.ipld_cid_text.specs.Digits.{IsGrouped}
use Rattle.ipld_cid_text.specs.Text.{IsTextIn, IsTextAt, IsText}
use Rattle.ipld_cid_text.proofs.Writing.{written_reads}

-- ---- the bytes of a CID are bytes

bytes-cons : (x : ℕ) (xs : List ℕ) → x < 256 → IsBytes xs → IsBytes (x ∷ xs)
bytes-cons x xs h more zero = h
bytes-cons x xs h more (suc i) = more i

bytes-nil : IsBytes []
bytes-nil i = omega arith

bytes-append : (xs ys : List ℕ) → IsBytes xs → IsBytes ys → IsBytes (xs ++ ys)
bytes-append [] ys h more = more
bytes-append (x ∷ xs) ys h more = bytes-cons x (xs ++ ys) (h 0) (bytes-append xs ys (λ i. h (suc i)) more)

leb128-bytes : (n : ℕ) (bytes : List ℕ) → IsLeb128 n bytes → IsBytes bytes
leb128-bytes n [] h = absurd h
leb128-bytes n (b ∷ []) h = bytes-cons b [] (omega (arith, h.0)) bytes-nil
leb128-bytes n (b ∷ c ∷ bytes) h = bytes-cons b (c ∷ bytes) h.1 (leb128-bytes h.2 (c ∷ bytes) h.4)

cid-bytes : (bytes : List ℕ) (link : Link) → IsCid 64 bytes link → IsBytes bytes
cid-bytes bytes link (inl cid) = subst IsBytes (sym cid.encoded) (bytes-cons 0x12 (0x20 ∷ link.digest) (omega arith) (bytes-cons 0x20 link.digest (omega arith) cid.digits))
cid-bytes bytes link (inr cid) = subst IsBytes (sym cid.encoded) (
    bytes-append (cid.version ++ cid.codec ++ cid.code ++ cid.size) link.digest (
    bytes-append (cid.version ++ cid.codec ++ cid.code) cid.size (
    bytes-append (cid.version ++ cid.codec) cid.code (
    bytes-append cid.version cid.codec (leb128-bytes 1 cid.version cid.version_encoded.encoded) (leb128-bytes link.codec cid.codec cid.codec_encoded.encoded)
    ) (leb128-bytes link.code cid.code cid.code_encoded.encoded)
    ) (leb128-bytes (length link.digest) cid.size cid.size_encoded.encoded)
    ) cid.digits)

-- ---- the text

letters-are : (ds : List ℕ) → map cid.letter ds ≡ map (letter Base32Lower) ds
unfolding alphabet
letters-are ds = refl

pub text_of-is : (link : Link) → IsValid 64 link → link.version ≡ V1 → IsTextIn Base32Lower link (text_of link)
text_of-is link valid v =
    let is = has_text 64 link (lit< tt) v valid in
    let same : is.bytes ≡ bytes_of link = one_encoding 64 is.bytes link is.encoded in
    let grouped : IsGrouped 5 (bytes_of link) is.groups = record {
      digits = cid-bytes (bytes_of link) link (has_encoding 64 link (lit< tt) valid);
      below = is.small;
      fill = is.fill;
      short = omega (arith, is.short);
      joined = is.joined ∙ ap (λ bytes. byte_bits bytes ++ replicate is.fill 0) same;
    } in
    subst (λ version. IsTextAt version Base32Lower (bytes_of link) (text_of link)) (sym v) (
      map cid.letter is.groups,
      is.letters,
      record {
        digits = is.groups;
        encoded = grouped;
        letters_are = letters-are is.groups;
      },
    )

-- what is read as a text in base32 is a text of the CID
pub base32_reads : (link : Link) (text : List ℕ) → IsValid 64 link → reading.IsText 64 link text → IsText link text
base32_reads link text valid is =
    subst (IsText link) (sym (one_text 64 text link is)) (written_reads Base32Lower link (text_of link) valid (text_of-is link valid is.is_v1))
