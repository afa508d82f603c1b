-- Varints: each number below 2 ^ 64 has one, and it is read again whatever follows it.
use Rattle.std.proofs.Common.{◌≡◌, ℕ, zero, suc, ◌+◌, ◌-◌, ◌*◌, ◌/◌, ◌%◌, ◌^◌, ◌<◌, ◌≤◌, cond, ltb, List, [], ◌∷◌, ◌++◌, length, Option, Some, None, Result, Ok, Err, inl, inr, refl, sym, ap, subst, arith}
use Rattle.std.specs.Prelude.{◌⊎◌}
use Rattle.std.proofs.Math.Nat.{pow-suc, one-le-pow}
use Rattle.std.proofs.lemmas.Bool.{cases_lt, lt-ltb, le-ltb}
use Rattle.std.proofs.lemmas.Bool.Decides.{nat_tests}
use Rattle.ipld_cid.specs.declared.error.CidError.{CidError}
use Rattle.ipld_cid.specs.declared.error.CidError.TheVariants.{End, TrailingBytes}
use Rattle.ipld_cid.specs.Multihash.{IsBytes}
use Rattle.ipld_cid.specs.Varint.{IsLeb128, IsVarint, groups_of, varint_of, ◌>>=◌, error_at, unless, read_from, read_varint}

-- ---- one encoding for each number

-- what is above the numbers of at most `more` bytes and one, where ten bytes hold 64 bits
abbrev limit : ℕ → ℕ
limit more = 2 * 128 ^ more

-- one byte more holds 128 times as much
limit_more : (more : ℕ) → limit (suc more) ≡ 128 * limit more
limit_more more = omega (arith, pow-suc 128 more)

-- the higher groups fit one byte fewer
high_fits : (more n : ℕ) → n < limit (suc more) → n / 128 < limit more
high_fits more n fits = omega (arith, limit_more more)

-- one group fits
low_fits : (more n : ℕ) → n < 128 → n < limit (suc more)
low_fits more n small = omega (arith, limit_more more, one-le-pow more 128 (omega arith))

-- the number of a group and a higher number
joined : (n : ℕ) → n ≡ (128 + n % 128 - 128) + 128 * (n / 128)
joined n = omega arith

-- one group more
encode_more : (n high : ℕ) (bytes : List ℕ) → n / 128 ≡ high → IsLeb128 high bytes → IsLeb128 n ((128 + n % 128) ∷ bytes)
encode_more n high [] e encoded = absurd encoded
encode_more n high (c ∷ bytes) e encoded = (omega arith, omega arith, high, omega arith, encoded)

-- the groups of a number encode it
groups_encode : (more n : ℕ) → n < limit more → IsLeb128 n (groups_of more n)
groups_encode zero n fits = (omega arith, refl)
groups_encode (suc more) n fits =
    elim (cases_lt n 128) [
      | inl small ↦ rw (lt-ltb n 128 small) (small, refl)
      | inr large ↦ rw (le-ltb n 128 large) (encode_more n (n / 128) (groups_of more (n / 128)) refl (groups_encode more (n / 128) (high_fits more n fits)))
    ]

-- what the first of several bytes says
first_group : (n b high : ℕ) → 128 ≤ b → b < 256 → n ≡ (b - 128) + 128 * high → (b ≡ 128 + n % 128) × (high ≡ n / 128) × (128 * high ≤ n)
first_group n b high low up is = (omega arith, omega arith, omega arith)

-- no encoding has fewer bytes
groups_shortest : (more n : ℕ) (others : List ℕ) → IsLeb128 n others → length (groups_of more n) ≤ length others
groups_shortest more n [] encoded = absurd encoded
groups_shortest zero n (b ∷ bytes) encoded = omega arith
groups_shortest (suc more) n (b ∷ []) encoded = rw (lt-ltb n 128 (omega arith)) (omega arith)
groups_shortest (suc more) n (b ∷ c ∷ bytes) encoded =
    elim (cases_lt n 128) [
      | inl small ↦ rw (lt-ltb n 128 small) (omega arith)
      | inr large ↦
          let shorter = groups_shortest more encoded.2 (c ∷ bytes) encoded.4 in
          let says = first_group n b encoded.2 encoded.0 encoded.1 encoded.3 in
          rw (le-ltb n 128 large, ← says.1) (omega arith)
    ]

-- two encodings of one length are one
same_length : (n : ℕ) (a b : List ℕ) → IsLeb128 n a → IsLeb128 n b → length a ≡ length b → a ≡ b
same_length n [] b p q same = absurd p
same_length n (x ∷ a) [] p q same = absurd q
same_length n (x ∷ []) (y ∷ []) p q same = cc
same_length n (x ∷ []) (y ∷ z ∷ b) p q same = absurd (omega arith)
same_length n (x ∷ w ∷ a) (y ∷ []) p q same = absurd (omega arith)
same_length n (x ∷ w ∷ a) (y ∷ z ∷ b) p q same =
    let one = first_group n x p.2 p.0 p.1 p.3 in
    let other = first_group n y q.2 q.0 q.1 q.3 in
    let heads : x ≡ y = omega arith in
    let highs : q.2 ≡ p.2 = omega arith in
    let rests : w ∷ a ≡ z ∷ b = same_length p.2 (w ∷ a) (z ∷ b) p.4 (subst (λ h. IsLeb128 h (z ∷ b)) highs q.4) (omega arith) in
    cc

-- the shortest encoding is the groups
groups_alone : (more n : ℕ) (bytes : List ℕ) → n < limit more → IsLeb128 n bytes
    → ((others : List ℕ) → IsLeb128 n others → length bytes ≤ length others) → bytes ≡ groups_of more n
groups_alone more n bytes fits encoded shortest =
    let groups = groups_encode more n fits in
    let fewer = shortest (groups_of more n) groups in
    let more_groups = groups_shortest more n bytes encoded in
    same_length n bytes (groups_of more n) encoded groups (omega arith)

-- a number has no other varint
pub varint_alone : (n : ℕ) (bytes : List ℕ) → IsVarint n bytes → bytes ≡ varint_of n
unfolding varint_of
varint_alone n bytes varint = groups_alone 9 n bytes varint.below varint.encoded varint.shortest

-- each number has a varint
pub varint_encodes : (n : ℕ) → n < 2 ^ 64 → IsVarint n (varint_of n)
unfolding varint_of
varint_encodes n fits = record { below = fits; encoded = groups_encode 9 n fits; shortest = λ others. groups_shortest 9 n others }

-- ---- what reading says

-- a byte with no error
error_at-complete : (place byte : ℕ) → (place ≡ 9 → byte ≤ 1) → (0 < place → 0 < byte) → error_at place byte ≡ None
error_at-complete place byte last first = grind (arith, nat_tests)

-- and what that says of the byte
error_at-sound : (place byte : ℕ) → error_at place byte ≡ None → (place ≡ 9 → byte ≤ 1) × (0 < place → 0 < byte)
error_at-sound place byte sound = grind (arith, nat_tests)

-- what follows a byte with no error
abbrev follows : ℕ → ℕ → List ℕ → Result (ℕ × List ℕ) CidError
follows place b bytes = cond (ltb b 128) (Ok (b, bytes)) (read_from (suc place) bytes >>= λ high. Ok ((b - 128) + 128 * high.0, high.1))

-- what was read had no error
unless_ok : {A : Type 0} (error : Option CidError) (read : Result A CidError) (x : A) → unless error read ≡ Ok x → (error ≡ None) × (read ≡ Ok x)
unless_ok None read x e = (refl, e)
unless_ok (Some error) read x e = absurd cc

-- the value of a step that did not fail
pub bind_ok : {A B : Type 0} (r : Result A CidError) (f : A → Result B CidError) (y : B) → (r >>= f) ≡ Ok y → (x : A) × (r ≡ Ok x) × (f x ≡ Ok y)
bind_ok (Ok x) f y e = (x, refl, e)
bind_ok (Err d) f y e = absurd cc

-- what holds of a value holds of the equal one
pub same_ok : {A : Type 0} (P : A → Type 0) (x y : A) → ◌≡◌ {A = Result A CidError} (Ok x) (Ok y) → P x → P y
same_ok P x y e p = let same : x ≡ y = cc in subst P same p

-- what reading a varint takes from the front
record Groups (place more n : ℕ) (bytes rest : List ℕ) : Type 0 where
  fits : n < limit more
  parts : bytes ≡ groups_of more n ++ rest
  rest_fits : IsBytes rest
  not_zero : 0 < place → 0 < n

-- all bytes but the first
pub IsBytes-rest : (b : ℕ) (bytes : List ℕ) → IsBytes (b ∷ bytes) → IsBytes bytes
IsBytes-rest b bytes h i = h (suc i)

-- the last byte
read_from-last : (place more b : ℕ) (bytes : List ℕ) → place + more ≡ 9 → IsBytes bytes → error_at place b ≡ None → b < 128 → Groups place more b (b ∷ bytes) bytes
read_from-last place zero b bytes slots whole sound small =
    let says = error_at-sound place b sound in
    record { fits = omega arith; parts = refl; rest_fits = whole; not_zero = says.1 }
read_from-last place (suc more) b bytes slots whole sound small =
    let says = error_at-sound place b sound in
    record { fits = low_fits more b small; parts = rw (lt-ltb b 128 small) refl; rest_fits = whole; not_zero = says.1 }

-- a byte with others after it
read_from-more : (place more b high : ℕ) (bytes rest : List ℕ) → place + more ≡ 9 → b < 256 → error_at place b ≡ None → 128 ≤ b
    → ((less : ℕ) → suc place + less ≡ 9 → Groups (suc place) less high bytes rest)
    → Groups place more ((b - 128) + 128 * high) (b ∷ bytes) rest
read_from-more place zero b high bytes rest slots byte sound large others =
    let says = error_at-sound place b sound in
    absurd (omega arith)
read_from-more place (suc more) b high bytes rest slots byte sound large others =
    let groups = others more (omega arith) in
    let n : ℕ = (b - 128) + 128 * high in
    let above : 0 < high = groups.not_zero (omega arith) in
    let fits : high < limit more = groups.fits in
    let says = first_group n b high large byte refl in
    let big : 128 ≤ n = omega arith in
    record {
      fits = omega (arith, limit_more more);
      parts = rw (le-ltb n 128 big, ← says.0, ← says.1) (ap (λ (x : List ℕ). b ∷ x) groups.parts);
      rest_fits = groups.rest_fits;
      not_zero = λ later. omega arith;
    }

-- the groups of the number are what was read, from any place on
groups_take : (place more n : ℕ) (bytes rest : List ℕ) → place + more ≡ 9 → IsBytes bytes → read_from place bytes ≡ Ok (n, rest) → Groups place more n bytes rest
groups_take place more n [] rest slots whole read = absurd cc
groups_take place more n (b ∷ bytes) rest slots whole read =
    let sound = unless_ok (error_at place b) (follows place b bytes) (n, rest) read in
    let here : b < 256 = whole 0 in
    elim (cases_lt b 128) [
      | inl small ↦
          let is = rw (lt-ltb b 128 small) at sound.1 in
          same_ok (λ (x : ℕ × List ℕ). Groups place more x.0 (b ∷ bytes) x.1) (b, bytes) (n, rest) is (read_from-last place more b bytes slots (IsBytes-rest b bytes whole) sound.0 small)
      | inr large ↦
          let is = rw (le-ltb b 128 large) at sound.1 in
          let high = bind_ok (read_from (suc place) bytes) (λ high. Ok ((b - 128) + 128 * high.0, high.1)) (n, rest) is in
          let others = read_from-more place more b high.0.0 bytes high.0.1 slots here sound.0 large
          (λ less e. groups_take (suc place) less high.0.0 bytes high.0.1 e (IsBytes-rest b bytes whole) high.1) in
          same_ok (λ (x : ℕ × List ℕ). Groups place more x.0 (b ∷ bytes) x.1) ((b - 128) + 128 * high.0.0, high.0.1) (n, rest) high.2 others
    ]

-- what is read at the front is the varint of the number
pub read_varint-sound : (n : ℕ) (bytes rest : List ℕ) → IsBytes bytes → read_varint bytes ≡ Ok (n, rest) → (n < 2 ^ 64) × (bytes ≡ varint_of n ++ rest) × IsBytes rest
unfolding read_varint varint_of
read_varint-sound n bytes rest whole read =
    let groups = groups_take 0 9 n bytes rest refl whole read in
    (groups.fits, groups.parts, groups.rest_fits)

-- ---- what was encoded is read

-- the groups of a number are read, from any place on
read_from-groups_of : (more place n : ℕ) (rest : List ℕ) → place + more ≡ 9 → (0 < place → 0 < n) → n < limit more → read_from place (groups_of more n ++ rest) ≡ Ok (n, rest)
read_from-groups_of zero place n rest slots not_zero fits =
    rw (error_at-complete place n (λ e. omega arith) not_zero, lt-ltb n 128 (omega arith)) refl
read_from-groups_of (suc more) place n rest slots not_zero fits =
    elim (cases_lt n 128) [
      | inl small ↦ rw (lt-ltb n 128 small) (rw (error_at-complete place n (λ e. omega arith) not_zero, lt-ltb n 128 small) refl)
      | inr large ↦
          let read = read_from-groups_of more (suc place) (n / 128) rest (omega arith) (λ later. omega arith) (high_fits more n fits) in
          rw (le-ltb n 128 large) (rw (error_at-complete place (128 + n % 128) (λ e. omega arith) (λ later. omega arith), le-ltb (128 + n % 128) 128 (omega arith), read) (ap (λ (m : ℕ). Ok (m, rest)) (sym (joined n))))
    ]

-- the varint of a number is read, whatever follows it
pub read_varint-varint_of : (n : ℕ) (rest : List ℕ) → n < 2 ^ 64 → read_varint (varint_of n ++ rest) ≡ Ok (n, rest)
unfolding read_varint varint_of
read_varint-varint_of n rest fits = read_from-groups_of 9 0 n rest refl (λ later. absurd (omega arith)) fits

-- a front of a varint that is cut
abbrev Whole : List ℕ → List ℕ → List ℕ → List ℕ → Type 0
Whole encoded front tail rest = (middle : List ℕ) × (front ≡ encoded ++ middle) × (rest ≡ middle ++ tail)

-- one byte of a longer varint
cut_more : (more place n b : ℕ) (bytes tail rest : List ℕ) → error_at place b ≡ None → 128 ≤ b → b ≡ 128 + n % 128
    → Whole (groups_of more (n / 128)) bytes tail rest ⊎ (read_from (suc place) bytes ≡ Err End)
    → Whole ((128 + n % 128) ∷ groups_of more (n / 128)) (b ∷ bytes) tail rest ⊎ (read_from place (b ∷ bytes) ≡ Err End)
cut_more more place n b bytes tail rest sound large is (inl w) = inl (w.0, (let front = w.1 in cc), w.2)
cut_more more place n b bytes tail rest sound large is (inr end) = inr (rw (sound, le-ltb b 128 large, end) refl)

-- two lists that are one begin alike and go on alike
heads : (x y : ℕ) (xs ys : List ℕ) → x ∷ xs ≡ y ∷ ys → (x ≡ y) × (xs ≡ ys)
heads x y xs ys e = (cc, cc)

-- a front of the groups of a number has them all, or ends early
groups_cut : (more place n : ℕ) (front tail rest : List ℕ) → place + more ≡ 9 → (0 < place → 0 < n) → n < limit more → front ++ tail ≡ groups_of more n ++ rest
    → Whole (groups_of more n) front tail rest ⊎ (read_from place front ≡ Err End)
groups_cut more place n [] tail rest slots not_zero fits e = inr refl
groups_cut zero place n (b ∷ bytes) tail rest slots not_zero fits e =
    inl (bytes, ap (λ (x : ℕ). x ∷ bytes) cc, sym cc)
groups_cut (suc more) place n (b ∷ bytes) tail rest slots not_zero fits e =
    elim (cases_lt n 128) [
      | inl small ↦
          let here = heads b n (bytes ++ tail) rest (rw (lt-ltb n 128 small) at e) in
          rw (lt-ltb n 128 small) (inl (bytes, ap (λ (x : ℕ). x ∷ bytes) here.0, sym here.1))
      | inr large ↦
          let here = heads b (128 + n % 128) (bytes ++ tail) (groups_of more (n / 128) ++ rest) (rw (le-ltb n 128 large) at e) in
          let sound : error_at place b ≡ None = error_at-complete place b (λ last. absurd (omega arith)) (λ later. omega arith) in
          rw (le-ltb n 128 large) (
          cut_more more place n b bytes tail rest sound (omega arith) here.0
          (groups_cut more (suc place) (n / 128) bytes tail rest (omega arith) (λ later. omega arith) (high_fits more n fits) here.1))
    ]

-- a front of a varint and more has the whole varint, or ends early
pub varint_cut : (n : ℕ) (front tail rest : List ℕ) → n < 2 ^ 64 → front ++ tail ≡ varint_of n ++ rest
    → ((middle : List ℕ) × (front ≡ varint_of n ++ middle) × (rest ≡ middle ++ tail)) ⊎ (read_varint front ≡ Err End)
unfolding read_varint varint_of
varint_cut n front tail rest fits e = groups_cut 9 0 n front tail rest refl (λ later. absurd (omega arith)) fits e

-- ---- no varint ends in trailing bytes

-- a byte is not at error for bytes after it
error_at-never_trailing : (place byte : ℕ) → error_at place byte ≡ Some TrailingBytes → ⊥
error_at-never_trailing place byte e = grind (arith, nat_tests)

-- the error of a byte, or of those after it
unless_err : {A : Type 0} (error : Option CidError) (read : Result A CidError) (d : CidError) → unless error read ≡ Err d → (error ≡ Some d) ⊎ (read ≡ Err d)
unless_err None read d e = inr e
unless_err (Some error) read d e = inl cc

-- the error of steps, of the first or of a later one
pub bind_err : {A B : Type 0} (r : Result A CidError) (f : A → Result B CidError) (d : CidError) → (r >>= f) ≡ Err d → (r ≡ Err d) ⊎ ((x : A) × (r ≡ Ok x) × (f x ≡ Err d))
bind_err (Ok x) f d e = inr (x, refl, e)
bind_err (Err c) f d e = inl cc

-- reading the rest of a varint reports no trailing bytes
reads_early : (place : ℕ) (bytes : List ℕ) → read_from place bytes ≡ Err TrailingBytes → ⊥
reads_early place [] e = cc
reads_early place (b ∷ bytes) e =
    elim (unless_err (error_at place b) (follows place b bytes) TrailingBytes e) [
      | inl error ↦ error_at-never_trailing place b error
      | inr read ↦ elim (cases_lt b 128) [
        | inl small ↦ let is = rw (lt-ltb b 128 small) at read in cc
        | inr large ↦ elim (bind_err (read_from (suc place) bytes) (λ high. Ok ((b - 128) + 128 * high.0, high.1)) TrailingBytes (rw (le-ltb b 128 large) at read)) [
          | inl later ↦ reads_early (suc place) bytes later
          | inr made ↦ let is = made.2 in cc
        ]
      ]
    ]

-- reading a varint reports no trailing bytes
pub varint_early : (bytes : List ℕ) → read_varint bytes ≡ Err TrailingBytes → ⊥
unfolding read_varint
varint_early bytes e = reads_early 0 bytes e
