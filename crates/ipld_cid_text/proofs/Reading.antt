-- Texts read: one CID at most, and no error beside it.
use Rattle.std.proofs.Common.{◌≡◌, ℕ, zero, suc, ◌+◌, ◌*◌, ◌^◌, ◌<◌, ◌≤◌, inl, inr, Bool, true, false, cond, ltb, ◌/◌, ◌%◌, List, [], ◌∷◌, ◌++◌, length, drop, Option, Some, None, Result, Ok, Err, refl, sym, ap, subst, ◌∙◌, arith}
use Rattle.std.specs.Prelude.{replicate, MatchResult, IsOkAnd}
use Rattle.std.proofs.lemmas.List.{length-map, length-append, length-replicate, drop_at}
use Rattle.ipld_cid.specs.declared.cid.Version.{Version}
use Rattle.ipld_cid.specs.declared.error.CidError.{CidError}
use Rattle.ipld_cid.specs.Cid.{Link}
use Rattle.ipld_cid.specs.Bytes.{IsCid, read_cid, bytes_of, head_of}
use Rattle.ipld_cid.specs.Varint.{groups_of, varint_of}
use Rattle.ipld_cid.specs.declared.cid.Version.TheVariants.{V0, V1}
use Rattle.ipld_cid.proofs.Encodings.{encoded_is_read, one_meaning, one_encoding, encoded_is_valid}
use Rattle.ipld_cid_text.specs.declared.base.Base.{Base}
use Rattle.ipld_cid_text.specs.declared.base.Base.TheVariants.{Base16Lower, Base32Lower, Base32Upper, Base36Lower, Base58Btc, Base64Url}
use Rattle.ipld_cid_text.specs.declared.error.TextError.{TextError}
use Rattle.ipld_cid_text.specs.declared.error.TextError.TheVariants.{UnknownBase, InvalidLength, InvalidLetter, UnusedBits, WrongVersion, Cid}
use Rattle.ipld_cid_text.specs.Base.{letter}
use Rattle.ipld_cid_text.specs.Digits.{SameNumber, IsGrouped, LeavesBits}
use Rattle.ipld_cid_text.specs.Encodes.{IsEncoded, AreDigits, IsFirstOther, Encodes, HasGroupLeft, HasBitLeft, IsUnencoded, IsUngrouped}
use Rattle.ipld_cid_text.specs.Text.{Form, IsText, IsTextError, IsLettersError, form_of, path_len}
use Rattle.ipld_cid_text.proofs.Lettering.{one_digits, one_bytes, encoded_below, letter_at}
use Rattle.std.specs.List.{flat_map}
use Rattle.std.specs.Int.Digits.{number_from_digits, digits_of}
use Rattle.std.proofs.lemmas.Int.Digits.{number_lt, length-digits_of-le}
use Rattle.std.proofs.lemmas.Bool.{cases_lt}
use Rattle.std.proofs.lemmas.Nat.{mul-le, mul-pow, pow-add}
use Rattle.std.proofs.Math.Nat.{pow-le-pow_left}
use Rattle.ipld_cid.specs.Base32.{bits, byte_bits}
use Rattle.ipld_cid_text.specs.Digits.{leading_zeros}
use Rattle.ipld_cid_text.proofs.Places.{number-zeros, zeros-split, below_all, below-drop, digits-are}
use Rattle.ipld_cid_text.proofs.Regrouping.{length-bits}

-- ---- what is read by parts

pub match_map : {A E : Type 0} (P Q : A → Type 0) (R S : E → Type 0) (result : Result A E) → ((x : A) → P x → Q x) → ((e : E) → R e → S e) → MatchResult result P R → MatchResult result Q S
match_map P Q R S (Ok x) f g h = f x h
match_map P Q R S (Err e) f g h = g e h

-- the same for what the code has
pub text_found : (text : List ℕ) (base : Base) (version : Version) (path skip : ℕ) (letters : List ℕ) (link : Link) → path ≡ path_len text
    → form_of (drop path text) ≡ Some (record { base = base; version = version; skip = skip }) → letters ≡ drop (path + skip) text
    → (link.version ≡ version) × (bytes : List ℕ) × Encodes base bytes letters × IsCid 64 bytes link → IsText link text
text_found text base version path skip letters link path_is has are found = record {
  form = record { base = base; version = version; skip = skip };
  has_form = subst (λ (p : ℕ). form_of (drop p text) ≡ Some (record { base = base; version = version; skip = skip })) path_is has;
  version = found.0;
  bytes = found.1;
  encodes = subst (λ (ls : List ℕ). Encodes base found.1 ls) (are ∙ ap (λ (p : ℕ). drop (p + skip) text) path_is) found.2;
  means = found.3;
}

pub text_error : (text : List ℕ) (base : Base) (version : Version) (path skip : ℕ) (letters : List ℕ) (error : TextError) → path ≡ path_len text
    → form_of (drop path text) ≡ Some (record { base = base; version = version; skip = skip }) → letters ≡ drop (path + skip) text
    → IsLettersError base version (path + skip) letters error → IsTextError text error
text_error text base version path skip letters error path_is has are wrong =
    inr (
      record { base = base; version = version; skip = skip },
      subst (λ (p : ℕ). form_of (drop p text) ≡ Some (record { base = base; version = version; skip = skip })) path_is has,
      subst (λ (p : ℕ). IsLettersError base version (p + skip) (drop (p + skip) text) error) path_is (subst (λ (ls : List ℕ). IsLettersError base version (path + skip) ls error) are wrong),
    )

-- ---- groups that are left

length-byte_bits : (xs : List ℕ) → length (byte_bits xs) ≡ 8 * length xs
length-byte_bits [] = refl
length-byte_bits (x ∷ xs) = omega (arith, length-append (bits 8 x) (byte_bits xs), length-bits 8 x, length-byte_bits xs)

-- fewer than eight bits after bytes are as many, and the same
same_rest : (xs ys r s : List ℕ) → length r < 8 → length s < 8 → byte_bits xs ++ r ≡ byte_bits ys ++ s → (length xs ≡ length ys) × (r ≡ s)
same_rest xs ys r s few short e =
    let lengths : length (byte_bits xs) + length r ≡ length (byte_bits ys) + length s = sym (length-append (byte_bits xs) r) ∙ ap length e ∙ length-append (byte_bits ys) s in
    let same : length xs ≡ length ys = omega (arith, lengths, length-byte_bits xs, length-byte_bits ys) in
    let n = length (byte_bits xs) in
    let at : length (byte_bits ys) ≡ n = omega (arith, same, length-byte_bits xs, length-byte_bits ys) in
    (same, sym (drop_at (byte_bits xs) r n refl) ∙ ap (drop n) e ∙ drop_at (byte_bits ys) s n at)

-- what encodes leaves less than a group, and only zeros
left_zeros : (w : ℕ) (bytes digits rest : List ℕ) → w ≤ 8 → (e : IsGrouped w bytes digits) → LeavesBits w digits rest → rest ≡ replicate e.fill 0
left_zeros w bytes digits rest narrow e left =
    (same_rest left.bytes bytes rest (replicate e.fill 0) left.few (rw (length-replicate {A = ℕ} e.fill 0) (omega (arith, e.short))) (sym left.joined ∙ e.joined)).1

no_group : (w : ℕ) (bytes digits : List ℕ) → w ≤ 8 → IsGrouped w bytes digits → HasGroupLeft w digits → ⊥
no_group w bytes digits narrow e left =
    let zeros = left_zeros w bytes digits left.rest narrow e left.leaves in
    let len : length left.rest ≡ e.fill = ap length zeros ∙ length-replicate {A = ℕ} e.fill 0 in
    absurd (omega (arith, len, left.many, e.short))

no_bit : (w : ℕ) (bytes digits : List ℕ) → w ≤ 8 → IsGrouped w bytes digits → HasBitLeft w digits → ⊥
no_bit w bytes digits narrow e left =
    let zeros = left_zeros w bytes digits left.rest narrow e left.leaves in
    let len : length left.rest ≡ e.fill = ap length zeros ∙ length-replicate {A = ℕ} e.fill 0 in
    left.set (zeros ∙ ap (λ (n : ℕ). replicate n 0) (sym len))

not_ungrouped : (w : ℕ) (bytes digits : List ℕ) (error : TextError) → w ≤ 8 → IsGrouped w bytes digits → IsUngrouped w digits error → ⊥
not_ungrouped w bytes digits UnknownBase narrow e wrong = wrong
not_ungrouped w bytes digits InvalidLength narrow e wrong = no_group w bytes digits narrow e wrong
not_ungrouped w bytes digits (InvalidLetter at) narrow e wrong = wrong
not_ungrouped w bytes digits UnusedBits narrow e wrong = no_bit w bytes digits narrow e wrong
not_ungrouped w bytes digits WrongVersion narrow e wrong = wrong
not_ungrouped w bytes digits (Cid error) narrow e wrong = wrong

not_unencoded : (base : Base) (bytes digits : List ℕ) (error : TextError) → IsEncoded base bytes digits → IsUnencoded base digits error → ⊥
not_unencoded Base16Lower bytes digits error e wrong = not_ungrouped 4 bytes digits error (omega arith) e wrong
not_unencoded Base32Lower bytes digits error e wrong = not_ungrouped 5 bytes digits error (omega arith) e wrong
not_unencoded Base32Upper bytes digits error e wrong = not_ungrouped 5 bytes digits error (omega arith) e wrong
not_unencoded Base36Lower bytes digits error e wrong = wrong
not_unencoded Base58Btc bytes digits error e wrong = wrong
not_unencoded Base64Url bytes digits error e wrong = not_ungrouped 6 bytes digits error (omega arith) e wrong

-- ---- how many letters

length-grouped : (w : ℕ) (xs : List ℕ) → length (flat_map (bits w) xs) ≡ w * length xs
length-grouped w [] = omega arith
length-grouped w (x ∷ xs) = let e : w * length (x ∷ xs) ≡ w + w * length xs = omega arith in omega (arith, e, length-append (bits w x) (flat_map (bits w) xs), length-bits w x, length-grouped w xs)

few_groups : (w : ℕ) (bytes digits : List ℕ) → 4 ≤ w → IsGrouped w bytes digits → length digits ≤ 2 * length bytes
few_groups w bytes digits wide e =
    let bits_are : w * length digits ≡ 8 * length bytes + e.fill =
    sym (length-grouped w digits) ∙ ap length e.joined ∙ length-append (byte_bits bytes) (replicate e.fill 0) ∙ ap (λ (n : ℕ). n + length (replicate {A = ℕ} e.fill 0)) (length-byte_bits bytes)
    ∙ ap (λ (n : ℕ). 8 * length bytes + n) (length-replicate {A = ℕ} e.fill 0) in
    elim (cases_lt (2 * length bytes) (length digits)) [
      | inl many ↦ absurd (
          let a : w * (2 * length bytes + 1) ≤ w * length digits = mul-le w (2 * length bytes + 1) w (length digits) (omega arith) (omega (arith, many)) in
          let b : 4 * (2 * length bytes) ≤ w * (2 * length bytes) = mul-le 4 (2 * length bytes) w (2 * length bytes) wide (omega arith) in
          let c : w * (2 * length bytes + 1) ≡ w * (2 * length bytes) + w = omega arith in
          omega (arith, a, b, c, bits_are, e.short))
      | inr few ↦ few
    ]

few_places : (base : ℕ) (bytes digits : List ℕ) → 2 ≤ base → 256 ≤ base * base → SameNumber 256 bytes base digits → length digits ≤ 2 * length bytes
few_places base bytes digits two wide e =
    let z = leading_zeros bytes in
    let rest = drop z bytes in
    let r = length rest in
    let number : number_from_digits 256 rest ≡ number_from_digits base digits =
    sym (number-zeros 256 z rest) ∙ ap (number_from_digits 256) (zeros-split bytes) ∙ sym e.number in
    let small : number_from_digits 256 rest < 256 ^ r = number_lt 256 rest (below_all 256 rest (below-drop 256 z bytes (omega arith) e.below)) in
    let up : 256 ^ r ≤ (base * base) ^ r = pow-le-pow_left wide r in
    let twice : (base * base) ^ r ≡ base ^ (r + r) = mul-pow base base r ∙ sym (pow-add base r r) in
    let few : length (digits_of base (number_from_digits base digits)) ≤ r + r =
    length-digits_of-le base (r + r) (number_from_digits base digits) two (omega (arith, number, small, up, twice)) in
    let all : length digits ≡ z + length (digits_of base (number_from_digits base digits)) =
    ap length (digits-are base digits two e.others_below)
    ∙ length-append (replicate (leading_zeros digits) 0) (digits_of base (number_from_digits base digits))
    ∙ ap (λ (n : ℕ). n + length (digits_of base (number_from_digits base digits))) (length-replicate {A = ℕ} (leading_zeros digits) 0 ∙ e.zeros) in
    let whole : z + r ≡ length bytes = sym (ap (λ (n : ℕ). n + r) (length-replicate {A = ℕ} z 0)) ∙ sym (length-append (replicate z 0) rest) ∙ ap length (zeros-split bytes) in
    omega (arith, few, all, whole)

pub few_digits : (base : Base) (bytes digits : List ℕ) → IsEncoded base bytes digits → length digits ≤ 2 * length bytes
few_digits Base16Lower bytes digits e = few_groups 4 bytes digits (omega arith) e
few_digits Base32Lower bytes digits e = few_groups 5 bytes digits (omega arith) e
few_digits Base32Upper bytes digits e = few_groups 5 bytes digits (omega arith) e
few_digits Base36Lower bytes digits e = few_places 36 bytes digits (omega arith) (omega arith) e
few_digits Base58Btc bytes digits e = few_places 58 bytes digits (omega arith) (omega arith) e
few_digits Base64Url bytes digits e = few_groups 6 bytes digits (omega arith) e

-- ---- how many bytes

either_short : (b : Bool) (xs ys : List ℕ) (n : ℕ) → length xs ≤ n → length ys ≤ n → length (cond b xs ys) ≤ n
either_short true xs ys n p q = p
either_short false xs ys n p q = q

length-groups_of : (more n : ℕ) → length (groups_of more n) ≤ more + 1
length-groups_of zero n = omega arith
length-groups_of (suc more) n =
    either_short (ltb n 128) (n ∷ []) ((128 + n % 128) ∷ groups_of more (n / 128)) (suc more + 1) (omega arith) (omega (arith, length-groups_of more (n / 128)))

length-varint_of : (n : ℕ) → length (varint_of n) ≤ 10
unfolding varint_of
length-varint_of n = omega (arith, length-groups_of 9 n)

length-at : (version : Version) (codec code : ℕ) (digest : List ℕ) → length digest ≤ 64
    → length (head_of (record { version = version; codec = codec; code = code; digest = digest }) ++ digest) ≤ 95
length-at V0 codec code digest few = omega arith
length-at V1 codec code digest few =
    omega (
      arith,
      length-append (varint_of codec ++ varint_of code ++ varint_of (length digest)) digest,
      length-append (varint_of codec ++ varint_of code) (varint_of (length digest)),
      length-append (varint_of codec) (varint_of code),
      length-varint_of codec,
      length-varint_of code,
      length-varint_of (length digest),
    )

length-bytes_of : (link : Link) → length link.digest ≤ 64 → length (bytes_of link) ≤ 95
unfolding bytes_of
length-bytes_of link few = length-at link.version link.codec link.code link.digest few

length-cid : (bytes : List ℕ) (link : Link) → IsCid 64 bytes link → length bytes ≤ 95
length-cid bytes link is = rw (one_encoding 64 bytes link is) (length-bytes_of link (encoded_is_valid 64 bytes link is).1.1)

-- ---- one CID, and no error beside it

length-letters : (base : Base) (bytes letters : List ℕ) (link : Link) → Encodes base bytes letters → IsCid 64 bytes link → length letters ≤ 190
length-letters base bytes letters link e is =
    let len : length letters ≡ length e.digits = ap length e.letters_are ∙ length-map e.digits (letter base) in
    omega (arith, len, few_digits base bytes e.digits e.encoded, length-cid bytes link is)

-- letters of a digest's bytes are letters
no_other : (base : Base) (bytes letters : List ℕ) (i : ℕ) → Encodes base bytes letters → IsFirstOther base letters i → ⊥
no_other base bytes letters i e first =
    let len : length letters ≡ length e.digits = ap length e.letters_are ∙ length-map e.digits (letter base) in
    let below = encoded_below base bytes e.digits e.encoded in
    first.other (letter_at base letters e.digits i e.letters_are below (omega (arith, len, first.within)))

no_digits_error : (base : Base) (bytes letters digits : List ℕ) (error : TextError) → Encodes base bytes letters → AreDigits base letters digits → IsUnencoded base digits error → ⊥
no_digits_error base bytes letters digits error e are wrong =
    not_unencoded base bytes digits error (subst (λ (ds : List ℕ). IsEncoded base bytes ds) (one_digits base letters digits are bytes e) e.encoded) wrong

no_letters_error : (base : Base) (version : Version) (place : ℕ) (bytes letters : List ℕ) (link : Link) (error : TextError) → link.version ≡ version → Encodes base bytes letters → IsCid 64 bytes link
    → IsLettersError base version place letters error → ⊥
no_letters_error base version place bytes letters link UnknownBase v e is wrong = wrong
no_letters_error base version place bytes letters link InvalidLength v e is (inl many) = absurd (omega (arith, many, length-letters base bytes letters link e is))
no_letters_error base version place bytes letters link InvalidLength v e is (inr wrong) = no_digits_error base bytes letters wrong.0 InvalidLength e wrong.1 wrong.2
no_letters_error base version place bytes letters link (InvalidLetter at) v e is wrong = no_other base bytes letters wrong.0 e wrong.2
no_letters_error base version place bytes letters link UnusedBits v e is wrong = no_digits_error base bytes letters wrong.0 UnusedBits e wrong.1 wrong.2
no_letters_error base version place bytes letters link WrongVersion v e is wrong =
    let same = one_bytes base wrong.0 bytes letters wrong.2 e in
    let one : wrong.1 ≡ link = one_meaning 64 bytes wrong.1 link (subst (λ (xs : List ℕ). IsCid 64 xs wrong.1) same wrong.3) is in
    wrong.4 (ap (λ (l : Link). l.version) one ∙ v)
no_letters_error base version place bytes letters link (Cid error) v e is wrong =
    let same = one_bytes base wrong.0 bytes letters wrong.2 e in
    let read : read_cid 64 bytes ≡ Err error = sym (ap (read_cid 64) same) ∙ wrong.3 in
    let found : ◌≡◌ {A = Result Link CidError} (Ok link) (Err error) = sym (encoded_is_read 64 bytes link is) ∙ read in
    absurd cc

same_form : (text : List ℕ) (a b : Form) → form_of text ≡ Some a → form_of text ≡ Some b → a ≡ b
same_form text a b p q = let both : ◌≡◌ {A = Option Form} (Some a) (Some b) = sym p ∙ q in cc

-- a text of a CID has no error
pub no_error : (link : Link) (text : List ℕ) (error : TextError) → IsText link text → IsTextError text error → ⊥
no_error link text error is (inl none) = let both : ◌≡◌ {A = Option Form} None (Some is.form) = sym none.0 ∙ is.has_form in absurd cc
no_error link text error is (inr wrong) =
    let same : wrong.0 ≡ is.form = same_form (drop (path_len text) text) wrong.0 is.form wrong.1 is.has_form in
    no_letters_error is.form.base is.form.version (path_len text + is.form.skip) is.bytes (drop (path_len text + is.form.skip) text) link error is.version is.encodes is.means
    (subst (λ (f : Form). IsLettersError f.base f.version (path_len text + f.skip) (drop (path_len text + f.skip) text) error) same wrong.2)

-- a text is of one CID
pub one_link : (link other : Link) (text : List ℕ) → IsText link text → IsText other text → link ≡ other
one_link link other text a b =
    let same : a.form ≡ b.form = same_form (drop (path_len text) text) a.form b.form a.has_form b.has_form in
    let encodes : Encodes b.form.base a.bytes (drop (path_len text + b.form.skip) text) = subst (λ (f : Form). Encodes f.base a.bytes (drop (path_len text + f.skip) text)) same a.encodes in
    let bytes : a.bytes ≡ b.bytes = one_bytes b.form.base a.bytes b.bytes (drop (path_len text + b.form.skip) text) encodes b.encodes in
    one_meaning 64 b.bytes link other (subst (λ (xs : List ℕ). IsCid 64 xs link) bytes a.means) b.means

-- what is read is the one CID
pub only_this : {C : Type 0} (of : C → Link) (text : List ℕ) (result : Result C TextError) → MatchResult result (λ c. IsText (of c) text) (λ e. IsTextError text e)
    → (link : Link) → IsText link text → IsOkAnd result (λ c. of c ≡ link)
only_this of text (Ok c) read link is = one_link (of c) link text read is
only_this of text (Err e) read link is = absurd (no_error link text e is read)
