-- Reading a CID's text: what is read is what the text encodes, and a version 1 CID has one text.
use Rattle.std.proofs.Common.{◌≡◌, ℕ, zero, suc, ◌+◌, ◌*◌, ◌/◌, ◌%◌, ◌^◌, ◌<◌, ◌≤◌, true, false, cond, eqb, ltb, List, [], ◌∷◌, ◌++◌, length, get_or, Option, Some, None, Ok, Err, inl, inr, refl, sym, ap, subst, ◌∙◌, arith}
use Rattle.std.specs.Prelude.{map, replicate, ◌&&◌}
use Rattle.std.specs.List.{flat_map, list_all}
use Rattle.std.specs.Option.{option_map, option_and_then}
use Rattle.std.proofs.lemmas.Bool.{cases_Bool, eqb-true, and_parts, ltb-true}
use Rattle.std.proofs.lemmas.List.{length-append, length-replicate}
use Rattle.std.proofs.lemmas.Option.{cond_some}
use Rattle.hex.specs.Hex.{encode_with, encode_lower}
use Rattle.ipld_cid.specs.declared.cid.Version.{Version}
use Rattle.ipld_cid.specs.declared.cid.Version.TheVariants.{V0, V1}
use Rattle.ipld_cid.specs.declared.error.CidError.TheVariants.{InvalidText}
use Rattle.ipld_cid.specs.Multihash.{IsBytes}
use Rattle.ipld_cid.specs.Varint.{IsLeb128, varint_of}
use Rattle.ipld_cid.specs.Cid.{Link, IsValid}
use Rattle.ipld_cid.specs.Bytes.{IsCid, bytes_of, read_cid}
use Rattle.ipld_cid.specs.Base32.{bits, byte_bits, quintets, letter, base32}
use Rattle.ipld_cid.specs.Text.{text_of}
use Rattle.ipld_cid.specs.TextReading.{IsText, values, octets, decoded, begins_v0, read_decoded, read_text}
use Rattle.ipld_cid.proofs.Letters.{values-small, values-letters, values-map}
use Rattle.ipld_cid.proofs.Octets.{octets-byte}
use Rattle.ipld_cid.proofs.Quintets.{quintets-bits}
use Rattle.ipld_cid.proofs.Encodings.{read_is_encoded, encoded_is_read, has_encoding, one_encoding}
use Rattle.ipld_cid.proofs.Texts.{text_of_v0, text_of_v1}
use Rattle.ipld_cid.proofs.Varints.{varint_alone, same_ok}

-- ---- bits

-- each number is a bit
abbrev pub IsBits : List ℕ → Type 0
IsBits [] = Unit {0}
IsBits (b ∷ bs) = (b < 2) × IsBits bs

-- joined bits are bits
IsBits-append : (xs ys : List ℕ) → IsBits xs → IsBits ys → IsBits (xs ++ ys)
IsBits-append [] ys h k = k
IsBits-append (x ∷ xs) ys h k = (h.0, IsBits-append xs ys h.1 k)

-- the bits of a number are bits
IsBits-bits : (w n : ℕ) → IsBits (bits w n)
IsBits-bits zero n = tt
IsBits-bits (suc w) n = (omega arith, IsBits-bits w n)

-- and so are those of several
pub IsBits-flat_map : (w : ℕ) (numbers : List ℕ) → IsBits (flat_map (bits w) numbers)
IsBits-flat_map w [] = tt
IsBits-flat_map w (n ∷ numbers) = IsBits-append (bits w n) (flat_map (bits w) numbers) (IsBits-bits w n) (IsBits-flat_map w numbers)

-- the bits of a number of eight
bits-octet : (n a b c d e f g h : ℕ) → a < 2 → b < 2 → c < 2 → d < 2 → e < 2 → f < 2 → g < 2 → h < 2
    → n ≡ 128 * a + 64 * b + 32 * c + 16 * d + 8 * e + 4 * f + 2 * g + h → bits 8 n ≡ a ∷ b ∷ c ∷ d ∷ e ∷ f ∷ g ∷ h ∷ []
bits-octet n a b c d e f g h a_bit b_bit c_bit d_bit e_bit f_bit g_bit h_bit is =
    let at_7 : n / 128 % 2 ≡ a = omega arith in
    let at_6 : n / 64 % 2 ≡ b = omega arith in
    let at_5 : n / 32 % 2 ≡ c = omega arith in
    let at_4 : n / 16 % 2 ≡ d = omega arith in
    let at_3 : n / 8 % 2 ≡ e = omega arith in
    let at_2 : n / 4 % 2 ≡ f = omega arith in
    let at_1 : n / 2 % 2 ≡ g = omega arith in
    let at_0 : n / 1 % 2 ≡ h = omega arith in
    rw (at_7, at_6, at_5, at_4, at_3, at_2, at_1, at_0) refl

-- the bits of a number of five
bits-quintet : (n a b c d e : ℕ) → a < 2 → b < 2 → c < 2 → d < 2 → e < 2 → n ≡ 16 * a + 8 * b + 4 * c + 2 * d + e → bits 5 n ≡ a ∷ b ∷ c ∷ d ∷ e ∷ []
bits-quintet n a b c d e a_bit b_bit c_bit d_bit e_bit is =
    let at_4 : n / 16 % 2 ≡ a = omega arith in
    let at_3 : n / 8 % 2 ≡ b = omega arith in
    let at_2 : n / 4 % 2 ≡ c = omega arith in
    let at_1 : n / 2 % 2 ≡ d = omega arith in
    let at_0 : n / 1 % 2 ≡ e = omega arith in
    rw (at_4, at_3, at_2, at_1, at_0) refl

-- ---- the bytes of bits

-- the bits are those of bytes, and at most four zeros
pub record Octets (bs bytes : List ℕ) : Type 0 where
  pub fits : IsBytes bytes
  pub fill : ℕ
  pub short : fill ≤ 4
  pub parts : bs ≡ byte_bits bytes ++ replicate fill 0

-- bits that pass the test are zero
all_zero : (bs : List ℕ) → list_all (λ b. eqb b 0) bs ≡ true → bs ≡ replicate (length bs) 0
all_zero [] e = refl
all_zero (b ∷ bs) e =
    let parts = and_parts (eqb b 0) (list_all (λ b. eqb b 0) bs) e in
    ap (λ (x : ℕ). x ∷ bs) (eqb-true b 0 parts.0) ∙ ap (λ (xs : List ℕ). 0 ∷ xs) (all_zero bs parts.1)

-- the bits that are left over
octets-rest : (rest bytes : List ℕ) → cond (ltb (length rest) 5 && list_all (λ b. eqb b 0) rest) (Some []) None ≡ Some bytes → Octets rest bytes
octets-rest rest bytes e =
    let found = cond_some (ltb (length rest) 5 && list_all (λ b. eqb b 0) rest) [] bytes e in
    let tests = and_parts (ltb (length rest) 5) (list_all (λ b. eqb b 0) rest) found.0 in
    let few : length rest < 5 = ltb-true (length rest) 5 tests.0 in
    subst (Octets rest) found.1 (record { fits = λ i. omega arith; fill = length rest; short = omega arith; parts = all_zero rest tests.1 })

-- the first byte and the others
first_byte : (n : ℕ) (others : Option (List ℕ)) (bytes : List ℕ) → option_map (λ more. n ∷ more) others ≡ Some bytes → (more : List ℕ) × (others ≡ Some more) × (n ∷ more ≡ bytes)
first_byte n None bytes e = absurd cc
first_byte n (Some more) bytes e = (more, refl, cc)

-- a byte in front
IsBytes-cons : (b : ℕ) (bytes : List ℕ) → b < 256 → IsBytes bytes → IsBytes (b ∷ bytes)
IsBytes-cons b bytes fits others zero = fits
IsBytes-cons b bytes fits others (suc i) = others i

-- the bytes that bits make have just those bits
pub octets-says : (bs bytes : List ℕ) → IsBits bs → octets bs ≡ Some bytes → Octets bs bytes
octets-says (a ∷ b ∷ c ∷ d ∷ e ∷ f ∷ g ∷ h ∷ rest) bytes all is =
    let n : ℕ = 128 * a + 64 * b + 32 * c + 16 * d + 8 * e + 4 * f + 2 * g + h in
    let found = first_byte n (octets rest) bytes is in
    let more = found.0 in
    let others = octets-says rest more all.1.1.1.1.1.1.1.1 found.1 in
    let here : bits 8 n ≡ a ∷ b ∷ c ∷ d ∷ e ∷ f ∷ g ∷ h ∷ [] = bits-octet n a b c d e f g h all.0 all.1.0 all.1.1.0 all.1.1.1.0 all.1.1.1.1.0 all.1.1.1.1.1.0 all.1.1.1.1.1.1.0 all.1.1.1.1.1.1.1.0 refl in
    subst (Octets (a ∷ b ∷ c ∷ d ∷ e ∷ f ∷ g ∷ h ∷ rest)) found.2 (record {
      fits = IsBytes-cons n more (omega (arith, all.0, all.1.0, all.1.1.0, all.1.1.1.0, all.1.1.1.1.0, all.1.1.1.1.1.0, all.1.1.1.1.1.1.0, all.1.1.1.1.1.1.1.0)) others.fits;
      fill = others.fill;
      short = others.short;
      parts = ap (λ (bs : List ℕ). a ∷ b ∷ c ∷ d ∷ e ∷ f ∷ g ∷ h ∷ bs) others.parts
          ∙ ap (λ (bs : List ℕ). (bs ++ byte_bits more) ++ replicate others.fill 0) (sym here);
    })
octets-says rest bytes all is = octets-rest rest bytes is

-- zeros that fill are no byte
octets-fill : (fill : ℕ) → fill ≤ 4 → octets (replicate fill 0) ≡ Some []
octets-fill zero h = refl
octets-fill (suc zero) h = refl
octets-fill (suc (suc zero)) h = refl
octets-fill (suc (suc (suc zero))) h = refl
octets-fill (suc (suc (suc (suc zero)))) h = refl
octets-fill (suc (suc (suc (suc (suc n))))) h = absurd (omega arith)

-- the bits of bytes, and zeros that fill, make the bytes
octets-again : (bytes : List ℕ) (fill : ℕ) → IsBytes bytes → fill ≤ 4 → octets (byte_bits bytes ++ replicate fill 0) ≡ Some bytes
octets-again [] fill fits short = octets-fill fill short
octets-again (b ∷ bytes) fill fits short =
    octets-byte b (byte_bits bytes ++ replicate fill 0) (fits 0)
    ∙ ap (option_map (λ (more : List ℕ). b ∷ more)) (octets-again bytes fill (λ i. fits (suc i)) short)

-- ---- the groups of bits

-- groups are below 32
quintets-small : (bs : List ℕ) → IsBits bs → (i : ℕ) → get_or (quintets bs) i 0 < 32
quintets-small [] all i = omega arith
quintets-small (a ∷ []) all zero = omega arith
quintets-small (a ∷ []) all (suc i) = omega arith
quintets-small (a ∷ b ∷ []) all zero = omega arith
quintets-small (a ∷ b ∷ []) all (suc i) = omega arith
quintets-small (a ∷ b ∷ c ∷ []) all zero = omega arith
quintets-small (a ∷ b ∷ c ∷ []) all (suc i) = omega arith
quintets-small (a ∷ b ∷ c ∷ d ∷ []) all zero = omega arith
quintets-small (a ∷ b ∷ c ∷ d ∷ []) all (suc i) = omega arith
quintets-small (a ∷ b ∷ c ∷ d ∷ e ∷ rest) all zero = omega arith
quintets-small (a ∷ b ∷ c ∷ d ∷ e ∷ rest) all (suc i) = quintets-small rest all.1.1.1.1.1 i

-- the groups, joined, are the bits and at most four zeros
quintets-joined : (bs : List ℕ) → IsBits bs → (fill : ℕ) × (fill ≤ 4) × (flat_map (bits 5) (quintets bs) ≡ bs ++ replicate fill 0)
quintets-joined [] all = (0, omega arith, refl)
quintets-joined (a ∷ []) all = (4, omega arith, bits-quintet (16 * a) a 0 0 0 0 all.0 (omega arith) (omega arith) (omega arith) (omega arith) (omega arith))
quintets-joined (a ∷ b ∷ []) all =
    (3, omega arith, bits-quintet (16 * a + 8 * b) a b 0 0 0 all.0 all.1.0 (omega arith) (omega arith) (omega arith) (omega arith))
quintets-joined (a ∷ b ∷ c ∷ []) all =
    (2, omega arith, bits-quintet (16 * a + 8 * b + 4 * c) a b c 0 0 all.0 all.1.0 all.1.1.0 (omega arith) (omega arith) (omega arith))
quintets-joined (a ∷ b ∷ c ∷ d ∷ []) all =
    (1, omega arith, bits-quintet (16 * a + 8 * b + 4 * c + 2 * d) a b c d 0 all.0 all.1.0 all.1.1.0 all.1.1.1.0 (omega arith) (omega arith))
quintets-joined (a ∷ b ∷ c ∷ d ∷ e ∷ rest) all =
    let others = quintets-joined rest all.1.1.1.1.1 in
    let here = bits-quintet (16 * a + 8 * b + 4 * c + 2 * d + e) a b c d e all.0 all.1.0 all.1.1.0 all.1.1.1.0 all.1.1.1.1.0 refl in
    (others.0, others.1, ap (λ (bs : List ℕ). bs ++ flat_map (bits 5) (quintets rest)) here ∙ ap (λ (bs : List ℕ). a ∷ b ∷ c ∷ d ∷ e ∷ bs) others.2)

-- the groups of their own bits
quintets-again : (groups : List ℕ) → ((i : ℕ) → get_or groups i 0 < 32) → quintets (flat_map (bits 5) groups) ≡ groups
quintets-again [] small = refl
quintets-again (g ∷ groups) small =
    let below : g < 32 = small 0 in
    let same : g / 2 ^ 0 % 32 ≡ g = omega arith in
    quintets-bits g 0 (flat_map (bits 5) groups) ∙ ap (λ (h : ℕ). h ∷ quintets (flat_map (bits 5) groups)) same
    ∙ ap (λ (gs : List ℕ). g ∷ gs) (quintets-again groups (λ i. small (suc i)))

-- zeros that fill the last group do not change it
quintets-fill : (bs : List ℕ) (fill : ℕ) → fill ≤ 4 → (length bs + fill) % 5 ≡ 0 → quintets (bs ++ replicate fill 0) ≡ quintets bs
quintets-fill [] fill short even = let is : fill ≡ 0 = omega arith in rw is refl
quintets-fill (a ∷ []) fill short even =
    let is : fill ≡ 4 = omega arith in
    let same : 16 * a + 0 + 0 + 0 + 0 ≡ 16 * a = omega arith in
    rw is (ap (λ (g : ℕ). g ∷ []) same)
quintets-fill (a ∷ b ∷ []) fill short even =
    let is : fill ≡ 3 = omega arith in
    let same : 16 * a + 8 * b + 0 + 0 + 0 ≡ 16 * a + 8 * b = omega arith in
    rw is (ap (λ (g : ℕ). g ∷ []) same)
quintets-fill (a ∷ b ∷ c ∷ []) fill short even =
    let is : fill ≡ 2 = omega arith in
    let same : 16 * a + 8 * b + 4 * c + 0 + 0 ≡ 16 * a + 8 * b + 4 * c = omega arith in
    rw is (ap (λ (g : ℕ). g ∷ []) same)
quintets-fill (a ∷ b ∷ c ∷ d ∷ []) fill short even =
    let is : fill ≡ 1 = omega arith in
    let same : 16 * a + 8 * b + 4 * c + 2 * d + 0 ≡ 16 * a + 8 * b + 4 * c + 2 * d = omega arith in
    rw is (ap (λ (g : ℕ). g ∷ []) same)
quintets-fill (a ∷ b ∷ c ∷ d ∷ e ∷ bs) fill short even =
    ap (λ (gs : List ℕ). (16 * a + 8 * b + 4 * c + 2 * d + e) ∷ gs) (quintets-fill bs fill short (omega arith))

-- five bits for each group
pub length-groups : (groups : List ℕ) → length (flat_map (bits 5) groups) ≡ 5 * length groups
length-groups [] = refl
length-groups (g ∷ groups) = let others = length-groups groups in omega arith

-- ---- the bytes of a version 1 CID

-- joined bytes are bytes
IsBytes-append : (xs ys : List ℕ) → IsBytes xs → IsBytes ys → IsBytes (xs ++ ys)
IsBytes-append [] ys h k i = k i
IsBytes-append (x ∷ xs) ys h k zero = h 0
IsBytes-append (x ∷ xs) ys h k (suc i) = IsBytes-append xs ys (λ j. h (suc j)) k i

-- a varint is bytes
IsBytes-leb128 : (n : ℕ) (bytes : List ℕ) → IsLeb128 n bytes → IsBytes bytes
IsBytes-leb128 n [] encoded i = absurd encoded
IsBytes-leb128 n (b ∷ []) encoded zero = omega arith
IsBytes-leb128 n (b ∷ []) encoded (suc i) = omega arith
IsBytes-leb128 n (b ∷ c ∷ bytes) encoded zero = encoded.1
IsBytes-leb128 n (b ∷ c ∷ bytes) encoded (suc i) = IsBytes-leb128 encoded.2 (c ∷ bytes) encoded.4 i

-- the varint of 1
varint_1 : varint_of 1 ≡ 1 ∷ []
unfolding varint_of
varint_1 = refl

-- bytes that begin with 1 are none of version 0
begins_1 : (bytes : List ℕ) → begins_v0 (1 ∷ bytes) ≡ false
begins_1 [] = refl
begins_1 (b ∷ bytes) = refl

-- what encodes a version 1 CID is bytes that begin as such
v1_bytes : (S : ℕ) (bytes : List ℕ) (link : Link) → link.version ≡ V1 → IsCid S bytes link → IsBytes bytes × (begins_v0 bytes ≡ false)
v1_bytes S bytes link v1 (inl cid) = let v0 = ap (λ (l : Link). l.version) cid.means in absurd (let e : V0 ≡ V1 = sym v0 ∙ v1 in cc)
v1_bytes S bytes link v1 (inr cid) =
    let first : cid.version ≡ 1 ∷ [] = varint_alone 1 cid.version cid.version_encoded ∙ varint_1 in
    let front = IsBytes-append cid.version cid.codec (IsBytes-leb128 1 cid.version cid.version_encoded.encoded) (IsBytes-leb128 link.codec cid.codec cid.codec_encoded.encoded) in
    let middle = IsBytes-append (cid.version ++ cid.codec) cid.code front (IsBytes-leb128 link.code cid.code cid.code_encoded.encoded) in
    let head = IsBytes-append (cid.version ++ cid.codec ++ cid.code) cid.size middle (IsBytes-leb128 (length link.digest) cid.size cid.size_encoded.encoded) in
    let whole = IsBytes-append (cid.version ++ cid.codec ++ cid.code ++ cid.size) link.digest head cid.digits in (
      subst IsBytes (sym cid.encoded) whole,
      ap begins_v0 (cid.encoded ∙ ap (λ (v : List ℕ). v ++ cid.codec ++ cid.code ++ cid.size ++ link.digest) first) ∙ begins_1 (cid.codec ++ cid.code ++ cid.size ++ link.digest),
    )

-- what does not begin as version 0 is of version 1
is_v1 : (S : ℕ) (bytes : List ℕ) (link : Link) → IsCid S bytes link → begins_v0 bytes ≡ false → link.version ≡ V1
is_v1 S bytes link (inl cid) other = absurd (let yes : begins_v0 bytes ≡ true = ap begins_v0 cid.encoded in cc)
is_v1 S bytes link (inr cid) other = cid.is_v1

-- ---- the laws

-- the values, and then the bytes of their bits
found_bytes : (found : Option (List ℕ)) (bytes : List ℕ) → option_and_then (λ groups. octets (flat_map (bits 5) groups)) found ≡ Some bytes
    → (groups : List ℕ) × (found ≡ Some groups) × (octets (flat_map (bits 5) groups) ≡ Some bytes)
found_bytes None bytes e = absurd cc
found_bytes (Some groups) bytes e = (groups, refl, e)

-- the bytes that were decoded, and that they were read
found_cid : (S : ℕ) (found : Option (List ℕ)) (link : Link) → read_decoded S found ≡ Ok link
    → (bytes : List ℕ) × (found ≡ Some bytes) × (begins_v0 bytes ≡ false) × (read_cid S bytes ≡ Ok link)
found_cid S None link e = absurd cc
found_cid S (Some bytes) link e =
    elim (cases_Bool (begins_v0 bytes)) [
      | inl begins ↦ let error = rw begins at e in absurd cc
      | inr other ↦ (bytes, refl, other, rw other at e)
    ]

-- letters that are read encode the CID
letters_encode : (S : ℕ) (text : List ℕ) (link : Link) → read_decoded S (decoded text) ≡ Ok link → IsText S link (98 ∷ text)
unfolding decoded
letters_encode S text link e =
    let cid = found_cid S (decoded text) link e in
    let bytes = found_bytes (values text) cid.0 cid.1 in
    let parts = octets-says (flat_map (bits 5) bytes.0) cid.0 (IsBits-flat_map 5 bytes.0) bytes.2 in
    let encoded = read_is_encoded S cid.0 link parts.fits cid.3 in
    record {
      is_v1 = is_v1 S cid.0 link encoded cid.2;
      bytes = cid.0;
      encoded = encoded;
      groups = bytes.0;
      small = values-small text bytes.0 bytes.1;
      letters = ap (λ (ls : List ℕ). 98 ∷ ls) (values-letters text bytes.0 bytes.1);
      fill = parts.fill;
      short = parts.short;
      joined = parts.parts;
    }

-- what is read is encoded by the text
pub text_is_encoded : (S : ℕ) (text : List ℕ) (link : Link) → read_text S text ≡ Ok link → IsText S link text
unfolding read_text
text_is_encoded S [] link e = absurd cc
text_is_encoded S (first ∷ text) link e =
    elim (cases_Bool (eqb first 98)) [
      | inl same ↦ subst (λ (b : ℕ). IsText S link (b ∷ text)) (sym (eqb-true first 98 same)) (letters_encode S text link (rw same at e))
      | inr other ↦ let error = rw other at e in absurd cc
    ]

-- letters for the bits of bytes encode the bytes
decoded-complete : (groups bytes : List ℕ) (fill : ℕ) → ((i : ℕ) → get_or groups i 0 < 32) → IsBytes bytes → fill ≤ 4 → flat_map (bits 5) groups ≡ byte_bits bytes ++ replicate fill 0
    → decoded (map letter groups) ≡ Some bytes
unfolding decoded
decoded-complete groups bytes fill small fits short parts =
    rw (values-map groups small) (ap octets parts ∙ octets-again bytes fill fits short)

-- bytes of version 1 are read
read_decoded-complete : (S : ℕ) (bytes : List ℕ) (link : Link) → begins_v0 bytes ≡ false → IsCid S bytes link → read_decoded S (Some bytes) ≡ Ok link
read_decoded-complete S bytes link other encoded = rw other (encoded_is_read S bytes link encoded)

-- what the text encodes is read
pub text_is_read : (S : ℕ) (text : List ℕ) (link : Link) → IsText S link text → read_text S text ≡ Ok link
unfolding read_text
text_is_read S text link is =
    let says = v1_bytes S is.bytes link is.is_v1 is.encoded in
    ap (read_text S) is.letters ∙ ap (read_decoded S) (decoded-complete is.groups is.bytes is.fill is.small says.0 is.short is.joined)
    ∙ read_decoded-complete S is.bytes link says.1 is.encoded

-- each valid version 1 CID is encoded by the text that is printed
pub has_text : (S : ℕ) (link : Link) → S < 2 ^ 64 → link.version ≡ V1 → IsValid S link → IsText S link (text_of link)
unfolding base32
has_text S link below v1 valid =
    let bs = byte_bits (bytes_of link) in
    let all = IsBits-flat_map 8 (bytes_of link) in
    let parts = quintets-joined bs all in
    record {
      is_v1 = v1;
      bytes = bytes_of link;
      encoded = has_encoding S link below valid;
      groups = quintets bs;
      small = quintets-small bs all;
      letters = text_of_v1 link v1;
      fill = parts.0;
      short = parts.1;
      joined = parts.2;
    }

-- the groups of a text are those of the bytes
same_groups : (groups bytes : List ℕ) (fill : ℕ) → ((i : ℕ) → get_or groups i 0 < 32) → fill ≤ 4 → flat_map (bits 5) groups ≡ byte_bits bytes ++ replicate fill 0
    → groups ≡ quintets (byte_bits bytes)
same_groups groups bytes fill small short parts =
    let whole : length (byte_bits bytes) + fill ≡ 5 * length groups =
    omega (arith, length-groups groups, ap length parts, length-append (byte_bits bytes) (replicate fill 0), length-replicate {A = ℕ} fill 0) in
    sym (quintets-again groups small) ∙ ap quintets parts ∙ quintets-fill (byte_bits bytes) fill short (omega arith)

-- a CID has no other text
pub one_text : (S : ℕ) (text : List ℕ) (link : Link) → IsText S link text → text ≡ text_of link
unfolding base32
one_text S text link is =
    is.letters ∙ ap (λ (gs : List ℕ). 98 ∷ map letter gs) (same_groups is.groups is.bytes is.fill is.small is.short is.joined)
    ∙ ap (λ (bytes : List ℕ). 98 ∷ base32 bytes) (one_encoding S is.bytes link is.encoded) ∙ sym (text_of_v1 link is.is_v1)

-- reading the text that is printed returns the same CID
pub read_text-text_of : (S : ℕ) (link : Link) → S < 2 ^ 64 → link.version ≡ V1 → IsValid S link → read_text S (text_of link) ≡ Ok link
read_text-text_of S link below v1 valid = text_is_read S (text_of link) link (has_text S link below v1 valid)

-- a text encodes no other CID
pub one_link : (S : ℕ) (text : List ℕ) (link other : Link) → IsText S link text → IsText S other text → link ≡ other
one_link S text link other first second =
    same_ok (λ (l : Link). l ≡ other) other link (sym (text_is_read S text other second) ∙ text_is_read S text link first) refl

-- the bytes of each version
abbrev bytes_at : Version → Link → List ℕ
bytes_at version link = (elim version [
  | V0 ↦ 0x12 ∷ 0x20 ∷ []
  | V1 ↦ 1 ∷ varint_of link.codec ++ varint_of link.code ++ varint_of (length link.digest)
]) ++ link.digest

-- the text that is printed for a version 0 CID is not read
pub v0_rejected : (S : ℕ) (link : Link) → link.version ≡ V0 → read_text S (text_of link) ≡ Err InvalidText
unfolding read_text bytes_of encode_with
v0_rejected S link v0 =
    ap (read_text S) (text_of_v0 link v0 ∙ ap (λ (v : Version). encode_lower (bytes_at v link)) v0)
