-- CIDs as bytes: what is read is what is encoded, each CID has one encoding, and no encoding begins another.
use Rattle.std.proofs.Common.{◌≡◌, ℕ, ◌+◌, ◌^◌, ◌<◌, ◌≤◌, cond, eqb, List, [], ◌∷◌, ◌++◌, length, get_or, take, drop, Result, Ok, Err, inl, inr, refl, sym, ap, subst, ◌∙◌, append_assoc, arith}
use Rattle.std.specs.Prelude.{◌⊎◌, ◌&&◌}
use Rattle.std.proofs.lemmas.Bool.{cases_Bool, cases_lt, eqb-true, and_parts}
use Rattle.std.proofs.lemmas.Bool.Decides.{nat_tests}
use Rattle.std.proofs.lemmas.List.{take-append-drop, drop_more, length-append, length-take, get_or-take, get_or_past}
use Rattle.ipld_cid.specs.declared.cid.Version.{Version}
use Rattle.ipld_cid.specs.declared.cid.Version.TheVariants.{V0, V1}
use Rattle.ipld_cid.specs.declared.error.CidError.{CidError}
use Rattle.ipld_cid.specs.declared.error.CidError.TheVariants.{End, ExplicitVersion0, UnknownVersion, TrailingBytes}
use Rattle.ipld_cid.specs.Multihash.{IsBytes}
use Rattle.ipld_cid.specs.Varint.{varint_of, read_varint, ◌>>=◌}
use Rattle.ipld_cid.specs.Cid.{Link, IsValid}
use Rattle.ipld_cid.specs.Bytes.{IsCidV0, IsCidV1, IsCid, bytes_of, after_version, read_digest, read_v0, read_v1, read_cid}
use Rattle.ipld_cid.proofs.Varints.{varint_alone, varint_encodes, read_varint-sound, read_varint-varint_of, varint_cut, varint_early, bind_ok, bind_err, same_ok, IsBytes-rest}

-- ---- steps that fail late

-- no error but trailing bytes
abbrev IsLate : {A : Type 0} → Result A CidError → Type 0
IsLate read = (error : CidError) → read ≡ Err error → error ≡ TrailingBytes

-- no error at all
late_ok : {A : Type 0} (x : A) → IsLate (Ok x)
late_ok x error e = absurd cc

-- the error itself
late_trailing : {A : Type 0} → IsLate {A = A} (Err TrailingBytes)
late_trailing error e = cc

-- where the outcome is late, the first step did not fail
bind_late : {A B : Type 0} (r : Result A CidError) (f : A → Result B CidError) (y : Result B CidError) → IsLate y → (r ≡ Err TrailingBytes → ⊥) → (r >>= f) ≡ y
    → (x : A) × (r ≡ Ok x) × (f x ≡ y)
bind_late (Ok x) f y late early e = (x, refl, e)
bind_late (Err d) f y late early e = absurd (early (ap (λ (c : CidError). Err c) (late d (sym e))))

-- ---- the digest

-- a digest that is read has the size, and there is capacity for it
pub read_digest-sound : (S size : ℕ) (bytes digest : List ℕ) → read_digest S size bytes ≡ Ok digest → (size ≤ S) × (length bytes ≡ size) × (bytes ≡ digest)
read_digest-sound S size bytes digest e = grind (arith, nat_tests)

-- a digest of the size is read where there is capacity
pub read_digest-complete : (S size : ℕ) (bytes : List ℕ) → size ≤ S → length bytes ≡ size → read_digest S size bytes ≡ Ok bytes
read_digest-complete S size bytes capacity sized = grind (arith, nat_tests)

-- trailing bytes come after a digest that there is capacity for
digest_trailing : (S size : ℕ) (bytes : List ℕ) → read_digest S size bytes ≡ Err TrailingBytes → (size ≤ S) × (size < length bytes)
digest_trailing S size bytes e = grind (arith, nat_tests)

-- bytes after a digest are trailing bytes
pub digest_longer : (S size : ℕ) (bytes : List ℕ) → size ≤ S → size < length bytes → read_digest S size bytes ≡ Err TrailingBytes
digest_longer S size bytes capacity longer = grind (arith, nat_tests)

-- fewer bytes than the size end early
digest_shorter : (S size : ℕ) (bytes : List ℕ) → size ≤ S → length bytes < size → read_digest S size bytes ≡ Err End
digest_shorter S size bytes capacity shorter = grind (arith, nat_tests)

-- ---- the version

-- version 1 is read
pub after_version-complete : (rest : List ℕ) → after_version (1 ∷ rest) ≡ Ok rest
unfolding after_version read_varint
after_version-complete rest = refl

-- the varint of 1
version_is : varint_of 1 ≡ 1 ∷ []
unfolding varint_of
version_is = refl

-- what is behind a version
abbrev pub versioned : ℕ → List ℕ → Result (List ℕ) CidError
versioned n rest = cond (eqb n 0) (Err ExplicitVersion0) (cond (eqb n 1) (Ok rest) (Err (UnknownVersion n)))

-- only version 1 is read
versioned_ok : (n : ℕ) (rest others : List ℕ) → versioned n rest ≡ Ok others → (n ≡ 1) × (rest ≡ others)
versioned_ok n rest others e = grind (arith, nat_tests)

-- a version reports no trailing bytes
versioned_early : (n : ℕ) (rest : List ℕ) → versioned n rest ≡ Err TrailingBytes → ⊥
versioned_early n rest e = grind (arith, nat_tests)

-- what was read before the rest is version 1
pub after_version-sound : (bytes rest : List ℕ) → IsBytes bytes → after_version bytes ≡ Ok rest → (bytes ≡ 1 ∷ rest) × IsBytes rest
unfolding after_version
after_version-sound bytes rest whole e =
    let read = bind_ok (read_varint bytes) (λ version. versioned version.0 version.1) rest e in
    let is = versioned_ok read.0.0 read.0.1 rest read.2 in
    let takes = read_varint-sound read.0.0 bytes read.0.1 whole read.1 in
    (takes.1 ∙ rw (is.0, is.1, version_is) refl, subst IsBytes is.1 takes.2)

-- reading the version reports no trailing bytes
version_early : (bytes : List ℕ) → after_version bytes ≡ Err TrailingBytes → ⊥
unfolding after_version
version_early bytes e =
    elim (bind_err (read_varint bytes) (λ version. versioned version.0 version.1) TrailingBytes e) [
      | inl early ↦ varint_early bytes early
      | inr later ↦ versioned_early later.0.0 later.0.1 later.2
    ]

-- ---- version 1

-- a version 1 CID
abbrev pub link_v1 : ℕ → ℕ → List ℕ → Link
link_v1 codec code digest = record { version = V1; codec = codec; code = code; digest = digest }

-- what stands behind the version
abbrev pub encoded_v1 : ℕ → ℕ → ℕ → List ℕ → List ℕ
encoded_v1 codec code size rest = varint_of codec ++ (varint_of code ++ (varint_of size ++ rest))

-- reading at the digest
abbrev ends_v1 : ℕ → ℕ → ℕ → ℕ → List ℕ → Result Link CidError
ends_v1 S codec code size rest = read_digest S size rest >>= λ digest. Ok (link_v1 codec code digest)

-- what was read before the digest
record Parts (S : ℕ) (bytes : List ℕ) (outcome : Result Link CidError) : Type 0 where
  codec : ℕ
  code : ℕ
  size : ℕ
  rest : List ℕ
  codec_fits : codec < 2 ^ 64
  code_fits : code < 2 ^ 64
  size_fits : size < 2 ^ 64
  rest_fits : IsBytes rest
  parts : bytes ≡ 1 ∷ encoded_v1 codec code size rest
  ends : ends_v1 S codec code size rest ≡ outcome

-- the parts that were read one after the other
parts_joined : (codec code size : ℕ) (bytes a b c d : List ℕ) → bytes ≡ 1 ∷ a → a ≡ varint_of codec ++ b → b ≡ varint_of code ++ c → c ≡ varint_of size ++ d
    → bytes ≡ 1 ∷ encoded_v1 codec code size d
parts_joined codec code size bytes a b c d p q r t = cc

-- version 1 bytes that do not fail early have all the parts before the digest
read_v1-sound : (S : ℕ) (bytes : List ℕ) (outcome : Result Link CidError) → IsBytes bytes → IsLate outcome → read_v1 S bytes ≡ outcome → Parts S bytes outcome
unfolding read_v1
read_v1-sound S bytes outcome whole late e =
    let a = bind_late (after_version bytes) (λ parts. read_varint parts >>= λ codec. read_varint codec.1 >>= λ code. read_varint code.1 >>= λ size. ends_v1 S codec.0 code.0 size.0 size.1) outcome late (version_early bytes) e in
    let b = bind_late (read_varint a.0) (λ codec. read_varint codec.1 >>= λ code. read_varint code.1 >>= λ size. ends_v1 S codec.0 code.0 size.0 size.1) outcome late (varint_early a.0) a.2 in
    let c = bind_late (read_varint b.0.1) (λ code. read_varint code.1 >>= λ size. ends_v1 S b.0.0 code.0 size.0 size.1) outcome late (varint_early b.0.1) b.2 in
    let d = bind_late (read_varint c.0.1) (λ size. ends_v1 S b.0.0 c.0.0 size.0 size.1) outcome late (varint_early c.0.1) c.2 in
    let version = after_version-sound bytes a.0 whole a.1 in
    let codec = read_varint-sound b.0.0 a.0 b.0.1 version.1 b.1 in
    let code = read_varint-sound c.0.0 b.0.1 c.0.1 codec.2 c.1 in
    let size = read_varint-sound d.0.0 c.0.1 d.0.1 code.2 d.1 in
    record {
      codec = b.0.0;
      code = c.0.0;
      size = d.0.0;
      rest = d.0.1;
      codec_fits = codec.0;
      code_fits = code.0;
      size_fits = size.0;
      rest_fits = size.2;
      parts = parts_joined b.0.0 c.0.0 d.0.0 bytes a.0 b.0.1 c.0.1 d.0.1 version.0 codec.1 code.1 size.1;
      ends = d.2;
    }

-- the parts before the digest are read
read_v1-complete : (S codec code size : ℕ) (rest : List ℕ) → codec < 2 ^ 64 → code < 2 ^ 64 → size < 2 ^ 64
    → read_v1 S (1 ∷ encoded_v1 codec code size rest) ≡ ends_v1 S codec code size rest
unfolding read_v1
read_v1-complete S codec code size rest codec_fits code_fits size_fits =
    rw (after_version-complete (encoded_v1 codec code size rest), read_varint-varint_of codec (varint_of code ++ (varint_of size ++ rest)) codec_fits, read_varint-varint_of code (varint_of size ++ rest) code_fits, read_varint-varint_of size rest size_fits) refl

-- ---- either version

-- bytes that begin with 1 are read as version 1
cid_v1 : (S : ℕ) (rest : List ℕ) → read_cid S (1 ∷ rest) ≡ read_v1 S (1 ∷ rest)
unfolding read_cid
cid_v1 S [] = refl
cid_v1 S (b ∷ rest) = refl

-- bytes that do not fail early are read as version 0 or as version 1
read_cid-sound : (S : ℕ) (bytes : List ℕ) (outcome : Result Link CidError) → IsLate outcome → read_cid S bytes ≡ outcome
    → ((digest : List ℕ) × (bytes ≡ 0x12 ∷ 0x20 ∷ digest) × (read_v0 S digest ≡ outcome)) ⊎ (read_v1 S bytes ≡ outcome)
unfolding read_cid
read_cid-sound S [] outcome late e = let is = late End (sym e) in absurd cc
read_cid-sound S (a ∷ []) outcome late e =
    elim (cases_Bool (eqb a 0x12)) [
      | inl same ↦ let is = late End (sym (rw same at e)) in absurd cc
      | inr other ↦ inr (rw other at e)
    ]
read_cid-sound S (a ∷ b ∷ bytes) outcome late e =
    elim (cases_Bool (eqb a 0x12 && eqb b 0x20)) [
      | inl same ↦
          let tests = and_parts (eqb a 0x12) (eqb b 0x20) same in
          let first : a ≡ 0x12 = eqb-true a 0x12 tests.0 in
          let second : b ≡ 0x20 = eqb-true b 0x20 tests.1 in
          inl (bytes, cc, rw same at e)
      | inr other ↦ inr (rw other at e)
    ]

-- ---- what encodes a CID

-- the parts of a encoding of version 1
pub record Encoded (S : ℕ) (bytes : List ℕ) (link : Link) : Type 0 where
  pub codec_fits : link.codec < 2 ^ 64
  pub code_fits : link.code < 2 ^ 64
  pub size_fits : length link.digest < 2 ^ 64
  pub parts : bytes ≡ 1 ∷ encoded_v1 link.codec link.code (length link.digest) link.digest
  pub is : link ≡ link_v1 link.codec link.code link.digest

-- the parts of a version 1 CID, from the left and from the right
regroup : (codec code size digest : List ℕ) → (1 ∷ []) ++ codec ++ code ++ size ++ digest ≡ 1 ∷ (codec ++ (code ++ (size ++ digest)))
regroup codec code size digest = ap (λ (x : List ℕ). 1 ∷ x) (let grouped : codec ++ code ++ size ++ digest ≡ codec ++ (code ++ (size ++ digest)) = simp append_assoc in grouped)

-- the encoding of the parts, by their varints
varints_joined : (codec_number code_number size_number : ℕ) (bytes version codec code size digest : List ℕ)
    → bytes ≡ version ++ codec ++ code ++ size ++ digest → version ≡ varint_of 1 → codec ≡ varint_of codec_number → code ≡ varint_of code_number → size ≡ varint_of size_number
    → bytes ≡ 1 ∷ encoded_v1 codec_number code_number size_number digest
varints_joined codec_number code_number size_number bytes version codec code size digest e p q r t =
    e ∙ rw (p ∙ version_is, q, r, t) (regroup (varint_of codec_number) (varint_of code_number) (varint_of size_number) digest)

-- a encoding of version 1 is the varints of its parts
pub v1_encoded : (S : ℕ) (bytes : List ℕ) (link : Link) → IsCidV1 S bytes link → Encoded S bytes link
v1_encoded S bytes link cid = record {
  codec_fits = cid.codec_encoded.below;
  code_fits = cid.code_encoded.below;
  size_fits = cid.size_encoded.below;
  parts = varints_joined link.codec link.code (length link.digest) bytes cid.version cid.codec cid.code cid.size link.digest cid.encoded
      (varint_alone 1 cid.version cid.version_encoded) (varint_alone link.codec cid.codec cid.codec_encoded)
      (varint_alone link.code cid.code cid.code_encoded) (varint_alone (length link.digest) cid.size cid.size_encoded);
  is = ap (λ (version : Version). record { version = version; codec = link.codec; code = link.code; digest = link.digest }) cid.is_v1;
}

-- the varints encode a CID
v1_made : (S codec code : ℕ) (digest : List ℕ) → codec < 2 ^ 64 → code < 2 ^ 64 → length digest < 2 ^ 64 → length digest ≤ S → IsBytes digest
    → IsCidV1 S (1 ∷ encoded_v1 codec code (length digest) digest) (link_v1 codec code digest)
v1_made S codec code digest codec_fits code_fits size_fits capacity whole = record {
  capacity = capacity;
  digits = whole;
  is_v1 = refl;
  version = varint_of 1;
  codec = varint_of codec;
  code = varint_of code;
  size = varint_of (length digest);
  version_encoded = varint_encodes 1 (omega arith);
  codec_encoded = varint_encodes codec codec_fits;
  code_encoded = varint_encodes code code_fits;
  size_encoded = varint_encodes (length digest) size_fits;
  encoded = rw version_is (sym (regroup (varint_of codec) (varint_of code) (varint_of (length digest)) digest));
}

-- ---- the laws

-- a version 0 CID
abbrev pub link_v0 : List ℕ → Link
link_v0 digest = record { version = V0; codec = 0x70; code = 0x12; digest = digest }

-- 12 20 and 32 bytes encode a version 0 CID
v0_made : (S : ℕ) (digest : List ℕ) → 32 ≤ S → length digest ≡ 32 → IsBytes digest → IsCidV0 S (0x12 ∷ 0x20 ∷ digest) (link_v0 digest)
v0_made S digest capacity sized whole = record { capacity = capacity; sized = sized; digits = whole; means = refl; encoded = refl }

-- what is read as version 0 is encoded so
v0_found : (S : ℕ) (bytes digest : List ℕ) (link : Link) → IsBytes bytes → bytes ≡ 0x12 ∷ 0x20 ∷ digest → read_v0 S digest ≡ Ok link → IsCidV0 S bytes link
unfolding read_v0
v0_found S bytes digest link whole e read =
    let found = bind_ok (read_digest S 32 digest) (λ digest. Ok (link_v0 digest)) link read in
    let says = read_digest-sound S 32 digest found.0 found.1 in
    let known : IsBytes digest = IsBytes-rest 0x20 digest (IsBytes-rest 0x12 (0x20 ∷ digest) (subst IsBytes e whole)) in
    let made = v0_made S digest says.0 says.1 known in
    rw e (same_ok (λ (l : Link). IsCidV0 S (0x12 ∷ 0x20 ∷ digest) l) (link_v0 digest) link (ap (λ (x : List ℕ). Ok (link_v0 x)) says.2 ∙ found.2) made)

-- what is read as version 1 is encoded so
v1_found : (S : ℕ) (bytes : List ℕ) (link : Link) → IsBytes bytes → read_v1 S bytes ≡ Ok link → IsCidV1 S bytes link
v1_found S bytes link whole read =
    let parts = read_v1-sound S bytes (Ok link) whole (late_ok link) read in
    let found = bind_ok (read_digest S parts.size parts.rest) (λ digest. Ok (link_v1 parts.codec parts.code digest)) link parts.ends in
    let says = read_digest-sound S parts.size parts.rest found.0 found.1 in
    let made = v1_made S parts.codec parts.code parts.rest parts.codec_fits parts.code_fits (omega (arith, says.1, parts.size_fits)) (omega (arith, says.0, says.1)) parts.rest_fits in
    rw (parts.parts, ← says.1) (same_ok (λ (l : Link). IsCidV1 S (1 ∷ encoded_v1 parts.codec parts.code (length parts.rest) parts.rest) l) (link_v1 parts.codec parts.code parts.rest) link
    (ap (λ (x : List ℕ). Ok (link_v1 parts.codec parts.code x)) says.2 ∙ found.2) made)

-- what is read is encoded so
pub read_is_encoded : (S : ℕ) (bytes : List ℕ) (link : Link) → IsBytes bytes → read_cid S bytes ≡ Ok link → IsCid S bytes link
read_is_encoded S bytes link whole read =
    elim (read_cid-sound S bytes (Ok link) (late_ok link) read) [
      | inl v0 ↦ inl (v0_found S bytes v0.0 link whole v0.1 v0.2)
      | inr v1 ↦ inr (v1_found S bytes link whole v1)
    ]

-- the version 0 CID with this digest is read
read_cid-v0 : (S : ℕ) (digest : List ℕ) (outcome : Result (List ℕ) CidError) → read_digest S 32 digest ≡ outcome
    → read_cid S (0x12 ∷ 0x20 ∷ digest) ≡ (outcome >>= λ digest. Ok (link_v0 digest))
unfolding read_cid read_v0
read_cid-v0 S digest outcome e = ap (λ (r : Result (List ℕ) CidError). r >>= λ digest. Ok (link_v0 digest)) e

-- the version 1 CID with these parts is read
read_cid-v1 : (S codec code size : ℕ) (rest : List ℕ) (outcome : Result (List ℕ) CidError) → codec < 2 ^ 64 → code < 2 ^ 64 → size < 2 ^ 64 → read_digest S size rest ≡ outcome
    → read_cid S (1 ∷ encoded_v1 codec code size rest) ≡ (outcome >>= λ digest. Ok (link_v1 codec code digest))
read_cid-v1 S codec code size rest outcome codec_fits code_fits size_fits e =
    cid_v1 S (encoded_v1 codec code size rest) ∙ read_v1-complete S codec code size rest codec_fits code_fits size_fits
    ∙ ap (λ (r : Result (List ℕ) CidError). r >>= λ digest. Ok (link_v1 codec code digest)) e

-- what is encoded is read
pub encoded_is_read : (S : ℕ) (bytes : List ℕ) (link : Link) → IsCid S bytes link → read_cid S bytes ≡ Ok link
encoded_is_read S bytes link (inl cid) =
    ap (read_cid S) cid.encoded ∙ read_cid-v0 S link.digest (Ok link.digest) (read_digest-complete S 32 link.digest cid.capacity cid.sized)
    ∙ ap (λ (l : Link). Ok l) (sym cid.means)
encoded_is_read S bytes link (inr cid) =
    let encoded = v1_encoded S bytes link cid in
    ap (read_cid S) encoded.parts
    ∙ read_cid-v1 S link.codec link.code (length link.digest) link.digest (Ok link.digest) encoded.codec_fits encoded.code_fits encoded.size_fits (read_digest-complete S (length link.digest) link.digest cid.capacity refl)
    ∙ ap (λ (l : Link). Ok l) (sym encoded.is)

-- a CID of either version
abbrev link_with : Version → ℕ → ℕ → List ℕ → Link
link_with version codec code digest = record { version = version; codec = codec; code = code; digest = digest }

-- a version 0 CID has one codec and one hash code
v0_is : (codec code : ℕ) (digest : List ℕ) → codec ≡ 0x70 → code ≡ 0x12 → link_with V0 codec code digest ≡ link_v0 digest
v0_is codec code digest p q = ap (λ (n : ℕ). link_with V0 n code digest) p ∙ ap (λ (n : ℕ). link_with V0 0x70 n digest) q

-- the bytes of a version 1 CID
v1_bytes : (codec code : ℕ) (digest : List ℕ) → bytes_of (link_with V1 codec code digest) ≡ 1 ∷ encoded_v1 codec code (length digest) digest
unfolding bytes_of
v1_bytes codec code digest = regroup (varint_of codec) (varint_of code) (varint_of (length digest)) digest

-- the bytes of a version 0 CID
v0_bytes : (codec code : ℕ) (digest : List ℕ) → bytes_of (link_with V0 codec code digest) ≡ 0x12 ∷ 0x20 ∷ digest
unfolding bytes_of
v0_bytes codec code digest = refl

-- each valid CID is encoded, by its version
version_encodes : (S : ℕ) (version : Version) (codec code : ℕ) (digest : List ℕ) → S < 2 ^ 64 → IsValid S (link_with version codec code digest)
    → IsCid S (bytes_of (link_with version codec code digest)) (link_with version codec code digest)
version_encodes S V0 codec code digest below valid =
    let hash = valid.1 in
    let form = valid.2 in
    let made = v0_made S digest (omega (arith, form.1.1, hash.1)) form.1.1 hash.2 in
    inl (rw (v0_bytes codec code digest) (subst (λ (l : Link). IsCidV0 S (0x12 ∷ 0x20 ∷ digest) l) (sym (v0_is codec code digest form.0 form.1.0)) made))
version_encodes S V1 codec code digest below valid =
    let hash = valid.1 in
    inr (rw (v1_bytes codec code digest) (v1_made S codec code digest valid.0 hash.0 (omega (arith, hash.1)) hash.1 hash.2))

-- each valid CID is encoded
pub has_encoding : (S : ℕ) (link : Link) → S < 2 ^ 64 → IsValid S link → IsCid S (bytes_of link) link
has_encoding S link below valid = version_encodes S link.version link.codec link.code link.digest below valid

-- what is encoded is valid
pub encoded_is_valid : (S : ℕ) (bytes : List ℕ) (link : Link) → IsCid S bytes link → IsValid S link
encoded_is_valid S bytes link (inl cid) =
    subst (IsValid S) (sym cid.means) (omega arith, (omega arith, omega (arith, cid.sized, cid.capacity), cid.digits), (refl, (refl, cid.sized)))
encoded_is_valid S bytes link (inr cid) =
    let encoded = v1_encoded S bytes link cid in
    subst (IsValid S) (sym encoded.is) (encoded.codec_fits, (encoded.code_fits, cid.capacity, cid.digits), tt)

-- a CID has no other encoding
pub one_encoding : (S : ℕ) (bytes : List ℕ) (link : Link) → IsCid S bytes link → bytes ≡ bytes_of link
one_encoding S bytes link (inl cid) =
    cid.encoded ∙ sym (v0_bytes 0x70 0x12 link.digest) ∙ ap bytes_of (sym cid.means)
one_encoding S bytes link (inr cid) =
    let encoded = v1_encoded S bytes link cid in
    encoded.parts ∙ sym (v1_bytes link.codec link.code link.digest) ∙ ap bytes_of (sym encoded.is)

-- bytes encode no other CID
pub one_meaning : (S : ℕ) (bytes : List ℕ) (link other : Link) → IsCid S bytes link → IsCid S bytes other → link ≡ other
one_meaning S bytes link other first second =
    same_ok (λ (l : Link). l ≡ other) other link (sym (encoded_is_read S bytes other second) ∙ encoded_is_read S bytes link first) refl

-- ---- bytes after a CID

-- a digest and a byte more are longer than the digest
pub longer : (x : ℕ) (digest more : List ℕ) → length digest < length (digest ++ x ∷ more)
longer x digest more = omega (arith, length-append digest (x ∷ more))

-- the parts of a version 1 CID, and more after them
pub regroup_more : (codec code size digest more : List ℕ) → codec ++ (code ++ (size ++ (digest ++ more))) ≡ (codec ++ (code ++ (size ++ digest))) ++ more
regroup_more codec code size digest more = simp append_assoc

-- bytes after a CID are trailing bytes
pub trailing : (S : ℕ) (front : List ℕ) (x : ℕ) (more : List ℕ) (link : Link) → IsCid S front link → read_cid S (front ++ x ∷ more) ≡ Err TrailingBytes
trailing S front x more link (inl cid) =
    ap (λ (f : List ℕ). read_cid S (f ++ x ∷ more)) cid.encoded
    ∙ read_cid-v0 S (link.digest ++ x ∷ more) (Err TrailingBytes) (digest_longer S 32 (link.digest ++ x ∷ more) cid.capacity (omega (arith, longer x link.digest more, cid.sized)))
trailing S front x more link (inr cid) =
    let encoded = v1_encoded S front link cid in
    ap (λ (f : List ℕ). read_cid S (f ++ x ∷ more)) encoded.parts
    ∙ ap (λ (f : List ℕ). read_cid S (1 ∷ f)) (sym (regroup_more (varint_of link.codec) (varint_of link.code) (varint_of (length link.digest)) link.digest (x ∷ more)))
    ∙ read_cid-v1 S link.codec link.code (length link.digest) (link.digest ++ x ∷ more) (Err TrailingBytes) encoded.codec_fits encoded.code_fits encoded.size_fits
    (digest_longer S (length link.digest) (link.digest ++ x ∷ more) cid.capacity (longer x link.digest more))

-- a front of bytes
IsBytes-take : (n : ℕ) (bytes : List ℕ) → IsBytes bytes → IsBytes (take n bytes)
IsBytes-take n bytes h i =
    elim (cases_lt i n) [
      | inl lt ↦ rw (get_or-take n bytes i 0 lt) (h i)
      | inr le ↦ rw (get_or_past (take n bytes) i 0 (omega (arith, length-take n bytes))) (omega arith)
    ]

-- a list that is longer than its front
record Longer (size : ℕ) (bytes : List ℕ) : Type 0 where
  front : List ℕ
  next : ℕ
  more : List ℕ
  sized : length front ≡ size
  parts : bytes ≡ front ++ next ∷ more
  whole : IsBytes front

-- a list that is longer than the size has a front of the size
split_at : (size : ℕ) (bytes : List ℕ) → size < length bytes → IsBytes bytes → Longer size bytes
split_at size bytes lt whole = record {
  front = take size bytes;
  next = get_or bytes size 0;
  more = drop (size + 1) bytes;
  sized = omega (arith, length-take size bytes);
  parts = sym (take-append-drop size bytes) ∙ ap (λ (x : List ℕ). take size bytes ++ x) (drop_more bytes size 0 lt);
  whole = IsBytes-take size bytes whole;
}

-- a CID, and bytes after it
abbrev pub HasHeaderBytes : ℕ → List ℕ → Type 0
HasHeaderBytes S bytes = (front : List ℕ) × (x : ℕ) × (more : List ℕ) × (link : Link) × (bytes ≡ front ++ x ∷ more) × IsCid S front link

-- trailing bytes come after a version 0 CID
v0_front : (S : ℕ) (bytes digest : List ℕ) → IsBytes bytes → bytes ≡ 0x12 ∷ 0x20 ∷ digest → read_v0 S digest ≡ Err TrailingBytes → HasHeaderBytes S bytes
unfolding read_v0
v0_front S bytes digest whole e read =
    elim (bind_err (read_digest S 32 digest) (λ digest. Ok (link_v0 digest)) TrailingBytes read) [
      | inl found ↦
          let says = digest_trailing S 32 digest found in
          let known : IsBytes digest = IsBytes-rest 0x20 digest (IsBytes-rest 0x12 (0x20 ∷ digest) (subst IsBytes e whole)) in
          let parts = split_at 32 digest says.1 known in
          (0x12 ∷ 0x20 ∷ parts.front, parts.next, parts.more, link_v0 parts.front, e ∙ ap (λ (x : List ℕ). 0x12 ∷ 0x20 ∷ x) parts.parts, inl (v0_made S parts.front says.0 parts.sized parts.whole))
      | inr made ↦ let is = made.2 in absurd cc
    ]

-- a digest and more after it stand after the same parts
front_joined : (codec code size : ℕ) (rest front : List ℕ) (x : ℕ) (more : List ℕ) → length front ≡ size → rest ≡ front ++ x ∷ more
    → encoded_v1 codec code size rest ≡ encoded_v1 codec code (length front) front ++ x ∷ more
front_joined codec code size rest front x more sized e = rw (sized, e) (regroup_more (varint_of codec) (varint_of code) (varint_of size) front (x ∷ more))

-- trailing bytes come after a version 1 CID
v1_front : (S : ℕ) (bytes : List ℕ) → IsBytes bytes → read_v1 S bytes ≡ Err TrailingBytes → HasHeaderBytes S bytes
v1_front S bytes whole read =
    let before = read_v1-sound S bytes (Err TrailingBytes) whole late_trailing read in
    elim (bind_err (read_digest S before.size before.rest) (λ digest. Ok (link_v1 before.codec before.code digest)) TrailingBytes before.ends) [
      | inl found ↦
          let says = digest_trailing S before.size before.rest found in
          let parts = split_at before.size before.rest says.1 before.rest_fits in
          let made = v1_made S before.codec before.code parts.front before.codec_fits before.code_fits (omega (arith, parts.sized, before.size_fits)) (omega (arith, parts.sized, says.0)) parts.whole in
          let joined = front_joined before.codec before.code before.size before.rest parts.front parts.next parts.more parts.sized parts.parts in (
            1 ∷ encoded_v1 before.codec before.code (length parts.front) parts.front,
            parts.next,
            parts.more,
            link_v1 before.codec before.code parts.front,
            before.parts ∙ ap (λ (x : List ℕ). 1 ∷ x) joined,
            inr made,
          )
      | inr made ↦ let is = made.2 in absurd cc
    ]

-- trailing bytes come after a CID
pub trailing_only : (S : ℕ) (bytes : List ℕ) → IsBytes bytes → read_cid S bytes ≡ Err TrailingBytes → HasHeaderBytes S bytes
trailing_only S bytes whole read =
    elim (read_cid-sound S bytes (Err TrailingBytes) late_trailing read) [
      | inl v0 ↦ v0_front S bytes v0.0 whole v0.1 v0.2
      | inr v1 ↦ v1_front S bytes whole v1
    ]

-- ---- bytes that end early

-- a varint that may be cut, and what reads on
cut_then : {B : Type 0} (n : ℕ) (front tail rest : List ℕ) (f : ℕ × List ℕ → Result B CidError) → n < 2 ^ 64 → front ++ tail ≡ varint_of n ++ rest
    → ((middle : List ℕ) → middle ++ tail ≡ rest → f (n, middle) ≡ Err End) → (read_varint front >>= f) ≡ Err End
cut_then n front tail rest f fits e after =
    elim (varint_cut n front tail rest fits e) [
      | inl w ↦ rw (ap read_varint w.1 ∙ read_varint-varint_of n w.0 fits) (after w.0 (sym w.2))
      | inr end ↦ rw end refl
    ]

-- a front that stops before the end is shorter
shorter : (x : ℕ) (front more digest : List ℕ) → front ++ x ∷ more ≡ digest → length front < length digest
shorter x front more digest e = omega (arith, length-append front (x ∷ more), ap length e)

-- a version 0 CID that is cut ends early
v0_cut : (S : ℕ) (front : List ℕ) (x : ℕ) (more digest : List ℕ) → 32 ≤ S → length digest ≡ 32 → front ++ x ∷ more ≡ 0x12 ∷ 0x20 ∷ digest → read_cid S front ≡ Err End
unfolding read_cid
v0_cut S [] x more digest capacity sized e = refl
v0_cut S (a ∷ []) x more digest capacity sized e =
    let first : a ≡ 0x12 = cc in
    rw first refl
v0_cut S (a ∷ b ∷ front) x more digest capacity sized e =
    let first : a ≡ 0x12 = cc in
    let second : b ≡ 0x20 = cc in
    let rest : front ++ x ∷ more ≡ digest = cc in
    ap (λ (n : ℕ). read_cid S (n ∷ b ∷ front)) first ∙ ap (λ (n : ℕ). read_cid S (0x12 ∷ n ∷ front)) second
    ∙ read_cid-v0 S front (Err End) (digest_shorter S 32 front capacity (omega (arith, shorter x front more digest rest)))

-- what stands behind version 1 ends early where it is cut
after_cut : (S codec code : ℕ) (front : List ℕ) (x : ℕ) (more digest : List ℕ) → codec < 2 ^ 64 → code < 2 ^ 64 → length digest < 2 ^ 64 → length digest ≤ S
    → front ++ x ∷ more ≡ encoded_v1 codec code (length digest) digest → read_v1 S (1 ∷ front) ≡ Err End
unfolding read_v1
after_cut S codec code front x more digest codec_fits code_fits size_fits capacity e =
    rw (after_version-complete front) (
    cut_then codec front (x ∷ more) (varint_of code ++ (varint_of (length digest) ++ digest)) (λ codec. read_varint codec.1 >>= λ code. read_varint code.1 >>= λ size. ends_v1 S codec.0 code.0 size.0 size.1) codec_fits e (λ a p.
    cut_then code a (x ∷ more) (varint_of (length digest) ++ digest) (λ code. read_varint code.1 >>= λ size. ends_v1 S codec code.0 size.0 size.1) code_fits p (λ b q.
    cut_then (length digest) b (x ∷ more) digest (λ size. ends_v1 S codec code size.0 size.1) size_fits q (λ c r.
    ap (λ (read : Result (List ℕ) CidError). read >>= λ digest. Ok (link_v1 codec code digest)) (digest_shorter S (length digest) c capacity (shorter x c more digest r))))))

-- a version 1 CID that is cut ends early
v1_cut : (S codec code : ℕ) (front : List ℕ) (x : ℕ) (more digest : List ℕ) → codec < 2 ^ 64 → code < 2 ^ 64 → length digest < 2 ^ 64 → length digest ≤ S
    → front ++ x ∷ more ≡ 1 ∷ encoded_v1 codec code (length digest) digest → read_cid S front ≡ Err End
unfolding read_cid
v1_cut S codec code [] x more digest codec_fits code_fits size_fits capacity e = refl
v1_cut S codec code (a ∷ front) x more digest codec_fits code_fits size_fits capacity e =
    let first : a ≡ 1 = cc in
    let rest : front ++ x ∷ more ≡ encoded_v1 codec code (length digest) digest = cc in
    ap (λ (n : ℕ). read_cid S (n ∷ front)) first ∙ cid_v1 S front ∙ after_cut S codec code front x more digest codec_fits code_fits size_fits capacity rest

-- a CID that is cut ends early
pub cut : (S : ℕ) (front : List ℕ) (x : ℕ) (more : List ℕ) (link : Link) → IsCid S (front ++ x ∷ more) link → read_cid S front ≡ Err End
cut S front x more link (inl cid) = v0_cut S front x more link.digest cid.capacity cid.sized cid.encoded
cut S front x more link (inr cid) =
    let encoded = v1_encoded S (front ++ x ∷ more) link cid in
    v1_cut S link.codec link.code front x more link.digest encoded.codec_fits encoded.code_fits encoded.size_fits cid.capacity encoded.parts

-- no CID's bytes begin those of another
pub no_front : (S : ℕ) (front : List ℕ) (x : ℕ) (more : List ℕ) (link other : Link) → IsCid S (front ++ x ∷ more) link → IsCid S front other → ⊥
no_front S front x more link other whole begins =
    let ended = cut S front x more link whole in
    let read = encoded_is_read S front other begins in
    cc
