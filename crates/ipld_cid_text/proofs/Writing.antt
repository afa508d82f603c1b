-- Texts written: their letters are ASCII, and they read as the CID.
use Rattle.std.proofs.Common.{◌≡◌, ℕ, zero, suc, ◌+◌, ◌*◌, ◌^◌, ◌<◌, ◌≤◌, inl, inr, Bool, true, false, eqb, List, [], ◌∷◌, ◌++◌, length, drop, Some, Result, Ok, Err, refl, sym, ap, subst, ◌∙◌, arith, lit<}
use Rattle.std.specs.Prelude.{map, ◌&&◌, if◌then◌else◌, MatchResult, IfOk}
use Rattle.std.specs.Str.{IsAscii}
use Rattle.std.proofs.lemmas.Str.Ascii.{IsAscii-nil, IsAscii-cons}
use Rattle.std.proofs.lemmas.List.{length-map}
use Rattle.std.proofs.lemmas.Bool.{cases_lt}
use Rattle.std.proofs.lemmas.Nat.{mul-le}
use Rattle.std.proofs.Math.Nat.{pow-le-pow_right, pow-suc}
use Rattle.std.specs.Int.Digits.{number_from_digits}
use Rattle.std.proofs.lemmas.Int.Digits.{number_lt}
use Rattle.ipld_cid.specs.declared.cid.Version.{Version}
use Rattle.ipld_cid.specs.declared.cid.Version.TheVariants.{V0, V1}
use Rattle.ipld_cid.specs.Cid.{Link, IsValid, IsForm, hash_of}
use Rattle.ipld_cid.specs.Bytes.{IsCid, bytes_of, head_of}
use Rattle.ipld_cid.specs.Multihash.{IsBytes}
use Rattle.ipld_cid.proofs.Encodings.{has_encoding}
use Rattle.ipld_cid_text.specs.declared.base.Base.{Base}
use Rattle.ipld_cid_text.specs.declared.base.Base.TheVariants.{Base16Lower, Base32Lower, Base32Upper, Base36Lower, Base58Btc, Base64Url}
use Rattle.ipld_cid_text.specs.Base.{size, letter, prefix, base_of, alphabet}
use Rattle.ipld_cid_text.specs.Digits.{IsBelow, leading_zeros}
use Rattle.ipld_cid_text.specs.Encodes.{Encodes}
use Rattle.ipld_cid_text.specs.Text.{IsPrefixed, IsText, IsTextAt, IsTextIn, has_path, path_len, begins_qm, form_of, multibase_form}
use Rattle.ipld_cid_text.proofs.Places.{below_all, number_after-is}
use Rattle.ipld_cid_text.proofs.Lettering.{encoded_below}
use Rattle.ipld_cid_text.proofs.Tables.{letter-ascii}

letters-ascii : (base : Base) (digits : List ℕ) → IsBelow (size base) digits → IsAscii (map (letter base) digits)
letters-ascii base [] below = IsAscii-nil
letters-ascii base (d ∷ digits) below = IsAscii-cons (letter base d) (map (letter base) digits) (letter-ascii base d (below 0)) (letters-ascii base digits (λ i. below (suc i)))

prefix-ascii : (base : Base) → prefix base < 128
prefix-ascii Base16Lower = omega arith
prefix-ascii Base32Lower = omega arith
prefix-ascii Base32Upper = omega arith
prefix-ascii Base36Lower = omega arith
prefix-ascii Base58Btc = omega arith
prefix-ascii Base64Url = omega arith

-- the letters of bytes are ASCII
pub encoded-ascii : (base : Base) (bytes letters : List ℕ) → Encodes base bytes letters → IsAscii letters
encoded-ascii base bytes letters e = subst IsAscii (sym e.letters_are) (letters-ascii base e.digits (encoded_below base bytes e.digits e.encoded))

prefixed-at : (base : Base) (prefixed : Bool) (letters : List ℕ) → IsAscii letters → IsAscii (if prefixed then prefix base ∷ letters else letters)
prefixed-at base true letters h = IsAscii-cons (prefix base) letters (prefix-ascii base) h
prefixed-at base false letters h = h

-- a text that is written is ASCII
pub prefixed-ascii : (base : Base) (prefixed : Bool) (bytes text : List ℕ) → IsPrefixed base prefixed bytes text → IsAscii text
prefixed-ascii base prefixed bytes text is = subst IsAscii (sym is.whole) (prefixed-at base prefixed is.letters (encoded-ascii base bytes is.letters is.encodes))

-- ---- what is written reads as the CID

pub if_written : {T E : Type 0} (of : T → List ℕ) (result : Result T E) (P Q : List ℕ → Type 0) (R : E → Type 0) → ((t : List ℕ) → P t → Q t) → MatchResult result (λ t. P (of t)) R → IfOk result (λ t. Q (of t))
if_written of (Ok t) P Q R f h = f (of t) h
if_written of (Err e) P Q R f h = tt

and_false : (b : Bool) → (b && false) ≡ false
and_false true = refl
and_false false = refl

-- a text that begins otherwise has no path
no_path : (a : ℕ) (text : List ℕ) → eqb a 47 ≡ false → has_path (a ∷ text) ≡ false
no_path a [] e = refl
no_path a (b ∷ []) e = refl
no_path a (b ∷ c ∷ []) e = refl
no_path a (b ∷ c ∷ d ∷ []) e = refl
no_path a (b ∷ c ∷ d ∷ f ∷ []) e = refl
no_path a (b ∷ c ∷ d ∷ f ∷ g ∷ text) e = rw e refl

no_qm : (a : ℕ) (text : List ℕ) → eqb a 81 ≡ false → begins_qm (a ∷ text) ≡ false
no_qm a [] e = refl
no_qm a (b ∷ text) e = rw e refl

prefix-path : (base : Base) → eqb (prefix base) 47 ≡ false
prefix-path Base16Lower = refl
prefix-path Base32Lower = refl
prefix-path Base32Upper = refl
prefix-path Base36Lower = refl
prefix-path Base58Btc = refl
prefix-path Base64Url = refl

prefix-qm : (base : Base) → eqb (prefix base) 81 ≡ false
prefix-qm Base16Lower = refl
prefix-qm Base32Lower = refl
prefix-qm Base32Upper = refl
prefix-qm Base36Lower = refl
prefix-qm Base58Btc = refl
prefix-qm Base64Url = refl

base_of-prefix : (base : Base) → base_of (prefix base) ≡ Some base
base_of-prefix Base16Lower = refl
base_of-prefix Base32Lower = refl
base_of-prefix Base32Upper = refl
base_of-prefix Base36Lower = refl
base_of-prefix Base58Btc = refl
base_of-prefix Base64Url = refl

form_of-prefixed : (base : Base) (letters : List ℕ) → form_of (prefix base ∷ letters) ≡ Some (record { base = base; version = V1; skip = 1 })
form_of-prefixed base letters =
    rw (no_qm (prefix base) letters (prefix-qm base), and_false (eqb (length (prefix base ∷ letters)) 46), base_of-prefix base) refl

-- multibase
reads_v1 : (base : Base) (link : Link) (letters : List ℕ) → link.version ≡ V1 → IsCid 64 (bytes_of link) link → Encodes base (bytes_of link) letters → IsText link (prefix base ∷ letters)
reads_v1 base link letters v is e =
    let none : path_len (prefix base ∷ letters) ≡ 0 = ap (λ (b : Bool). if b then 6 else 0) (no_path (prefix base) letters (prefix-path base)) in
    record {
      form = record { base = base; version = V1; skip = 1 };
      has_form = ap (λ (n : ℕ). form_of (drop n (prefix base ∷ letters))) none ∙ form_of-prefixed base letters;
      version = v;
      bytes = bytes_of link;
      encodes = subst (λ (n : ℕ). Encodes base (bytes_of link) (drop (n + 1) (prefix base ∷ letters))) (sym none) e;
      means = is;
    }

-- ---- version 0

-- the number of a version 0 CID's bytes
number_v0 : (digest : List ℕ) → length digest ≡ 32 → IsBytes digest
    → (4640 * 256 ^ 32 ≤ number_from_digits 256 (0x12 ∷ 0x20 ∷ digest)) × (number_from_digits 256 (0x12 ∷ 0x20 ∷ digest) < 4641 * 256 ^ 32)
number_v0 digest len are =
    let whole : number_from_digits 256 (0x12 ∷ 0x20 ∷ digest) ≡ 4640 * 256 ^ length digest + number_from_digits 256 digest = number_after-is 256 4640 digest in
    let small : number_from_digits 256 digest < 256 ^ length digest = number_lt 256 digest (below_all 256 digest are) in
    let at : 256 ^ length digest ≡ 256 ^ 32 = ap (λ (n : ℕ). 256 ^ n) len in
    (omega (arith, whole, at), omega (arith, whole, at, small))

-- the first two digits of such a number, as one
front_v0 : (q number v : ℕ) → number ≡ q * 58 ^ 44 + v → v < 58 ^ 44 → 4640 * 256 ^ 32 ≤ number → number < 4641 * 256 ^ 32 → q ≡ 1378
front_v0 q number v whole small low high = omega (arith, whole, small, low, high)

-- how many digits such a number has
places_v0 : (x n number v : ℕ) → suc x < 58 → number ≡ suc x * 58 ^ n + v → v < 58 ^ n → 4640 * 256 ^ 32 ≤ number → number < 4641 * 256 ^ 32 → n ≡ 45
places_v0 x n number v few whole small low high = elim (cases_lt n 45) [
  | inl short ↦ absurd (
      let up : 58 ^ suc n ≤ 58 ^ 45 = pow-le-pow_right {n = 58} (lit< tt) {i = suc n} {j = 45} short in
      let top : suc (suc x) * 58 ^ n ≤ 58 * 58 ^ n = mul-le (suc (suc x)) (58 ^ n) 58 (58 ^ n) few (omega arith) in
      let e : suc (suc x) * 58 ^ n ≡ suc x * 58 ^ n + 58 ^ n = omega arith in
      omega (arith, up, top, e, whole, small, low, pow-suc 58 n))
  | inr long ↦ elim (cases_lt 45 n) [
    | inl more ↦ absurd (
        let up : 58 ^ 46 ≤ 58 ^ n = pow-le-pow_right {n = 58} (lit< tt) {i = 46} {j = n} more in
        let one : 1 * 58 ^ n ≤ suc x * 58 ^ n = mul-le 1 (58 ^ n) (suc x) (58 ^ n) (omega arith) (omega arith) in
        omega (arith, up, one, whole, high))
    | inr few ↦ omega arith
  ]
]

-- digits of such a number are 46, and the first two are `Q` and `m`
digits_v0 : (digits : List ℕ) → IsBelow 58 digits → leading_zeros digits ≡ 0 → 4640 * 256 ^ 32 ≤ number_from_digits 58 digits → number_from_digits 58 digits < 4641 * 256 ^ 32
    → (rest : List ℕ) × (digits ≡ 23 ∷ 44 ∷ rest) × (length rest ≡ 44)
digits_v0 [] below tight low high = absurd (let e : 0 < 4640 * 256 ^ 32 = lit< tt in omega (arith, e, low))
digits_v0 (zero ∷ ds) below tight low high = absurd (let e : suc (leading_zeros ds) ≡ 0 = tight in omega (arith, e))
digits_v0 (suc x ∷ []) below tight low high =
    absurd (let e : number_from_digits 58 (suc x ∷ []) ≡ suc x = omega arith in let few = below 0 in let big : 58 < 4640 * 256 ^ 32 = lit< tt in omega (arith, e, few, big, low))
digits_v0 (suc x ∷ y ∷ ds) below tight low high =
    let first : number_from_digits 58 (suc x ∷ y ∷ ds) ≡ (0 * 58 + suc x) * 58 ^ length (y ∷ ds) + number_from_digits 58 (y ∷ ds) = number_after-is 58 (0 * 58 + suc x) (y ∷ ds) in
    let start : 0 * 58 + suc x ≡ suc x = omega arith in
    let whole : number_from_digits 58 (suc x ∷ y ∷ ds) ≡ suc x * 58 ^ length (y ∷ ds) + number_from_digits 58 (y ∷ ds) =
    first ∙ ap (λ (k : ℕ). k * 58 ^ length (y ∷ ds) + number_from_digits 58 (y ∷ ds)) start in
    let small : number_from_digits 58 (y ∷ ds) < 58 ^ length (y ∷ ds) = number_lt 58 (y ∷ ds) (below_all 58 (y ∷ ds) (λ i. below (suc i))) in
    let places : length (y ∷ ds) ≡ 45 = places_v0 x (length (y ∷ ds)) (number_from_digits 58 (suc x ∷ y ∷ ds)) (number_from_digits 58 (y ∷ ds)) (below 0) whole small low high in
    let len : length ds ≡ 44 = omega (arith, places) in
    let second : number_from_digits 58 (suc x ∷ y ∷ ds) ≡ ((0 * 58 + suc x) * 58 + y) * 58 ^ length ds + number_from_digits 58 ds = number_after-is 58 ((0 * 58 + suc x) * 58 + y) ds in
    let rest : number_from_digits 58 ds < 58 ^ length ds = number_lt 58 ds (below_all 58 ds (λ i. below (suc (suc i)))) in
    let at : 58 ^ length ds ≡ 58 ^ 44 = ap (λ (n : ℕ). 58 ^ n) len in
    let high_part : (0 * 58 + suc x) * 58 + y ≡ 1378 = front_v0 ((0 * 58 + suc x) * 58 + y) _ _ (second ∙ ap (λ (p : ℕ). ((0 * 58 + suc x) * 58 + y) * p + number_from_digits 58 ds) at) (subst (λ (p : ℕ). number_from_digits 58 ds < p) at rest) low high in
    let y_few = below 1 in
    let two : (suc x ≡ 23) × (y ≡ 44) = (omega (arith, high_part, y_few), omega (arith, high_part, y_few)) in
    (ds, ap (λ (k : ℕ). k ∷ y ∷ ds) two.0 ∙ ap (λ (k : ℕ). 23 ∷ k ∷ ds) two.1, len)

-- the letters of a version 0 CID's bytes
letters_v0 : (link : Link) (letters : List ℕ) → link.version ≡ V0 → IsValid 64 link → Encodes Base58Btc (bytes_of link) letters
    → (rest : List ℕ) × (letters ≡ 81 ∷ 109 ∷ rest) × (length letters ≡ 46)
unfolding bytes_of alphabet
letters_v0 link letters v valid e =
    let form : IsForm V0 link.codec (hash_of link) = subst (λ (w : Version). IsForm w link.codec (hash_of link)) v valid.2 in
    let bytes : bytes_of link ≡ 0x12 ∷ 0x20 ∷ link.digest = ap (λ (w : Version). head_of (record { version = w; codec = link.codec; code = link.code; digest = link.digest }) ++ link.digest) v in
    let bounds = number_v0 link.digest form.1.1 valid.1.2 in
    let number : number_from_digits 58 e.digits ≡ number_from_digits 256 (0x12 ∷ 0x20 ∷ link.digest) = e.encoded.number ∙ ap (number_from_digits 256) bytes in
    let zeros : leading_zeros e.digits ≡ 0 = e.encoded.zeros ∙ ap leading_zeros bytes in
    let found = digits_v0 e.digits e.encoded.others_below zeros (omega (arith, bounds.0, number)) (omega (arith, bounds.1, number)) in
    let text : letters ≡ 81 ∷ 109 ∷ map (letter Base58Btc) found.0 = e.letters_are ∙ ap (map (letter Base58Btc)) found.1 in
    (map (letter Base58Btc) found.0, text, ap length text ∙ (let len : length (map (letter Base58Btc) found.0) ≡ length found.0 = length-map found.0 (letter Base58Btc) in omega (arith, len, found.2)))

reads_v0 : (link : Link) (letters : List ℕ) → link.version ≡ V0 → IsValid 64 link → IsCid 64 (bytes_of link) link → Encodes Base58Btc (bytes_of link) letters → IsText link letters
reads_v0 link letters v valid is e =
    let found = letters_v0 link letters v valid e in
    let none : path_len letters ≡ 0 = ap path_len found.1 ∙ ap (λ (b : Bool). if b then 6 else 0) (no_path 81 (109 ∷ found.0) refl) in
    let long : (eqb (length letters) 46) ≡ true = ap (λ (n : ℕ). eqb n 46) found.2 in
    let qm : begins_qm letters ≡ true = ap begins_qm found.1 in
    record {
      form = record { base = Base58Btc; version = V0; skip = 0 };
      has_form = ap (λ (n : ℕ). form_of (drop n letters)) none ∙ ap (λ (b : Bool). if b && begins_qm letters then Some (record { base = Base58Btc; version = V0; skip = 0 }) else multibase_form letters) long
          ∙ ap (λ (b : Bool). if b then Some (record { base = Base58Btc; version = V0; skip = 0 }) else multibase_form letters) qm;
      version = v;
      bytes = bytes_of link;
      encodes = subst (λ (n : ℕ). Encodes Base58Btc (bytes_of link) (drop (n + 0) letters)) (sym none) e;
      means = is;
    }

-- of either version
reads_at : (version : Version) (base : Base) (link : Link) (text : List ℕ) → link.version ≡ version → IsValid 64 link → IsCid 64 (bytes_of link) link
    → IsTextAt version base (bytes_of link) text → IsText link text
reads_at V0 base link text v valid is written = reads_v0 link text v valid is written.1
reads_at V1 base link text v valid is written = subst (λ (t : List ℕ). IsText link t) (sym written.1) (reads_v1 base link written.0 v is written.2)

pub written_reads : (base : Base) (link : Link) (text : List ℕ) → IsValid 64 link → IsTextIn base link text → IsText link text
written_reads base link text valid is = reads_at link.version base link text refl valid (has_encoding 64 link (lit< tt) valid) is
