-- A head that is encoded is read, and what is read is encoded so.
use Rattle.std.proofs.Common.{◌≡◌, ℕ, zero, suc, ◌+◌, ◌*◌, ◌/◌, ◌%◌, ◌^◌, ◌<◌, ◌≤◌, Bool, true, false, cond, ltb, eqb, List, [], ◌∷◌, ◌++◌, ◌⊎◌, length, take, drop, Option, Some, None, refl, sym, ap, subst, ◌∙◌, arith, inl, inr, bytes_eq}
use Rattle.std.specs.Int.{Width, w16, w32, w64, byte_len, from_be_bytes, to_be_bytes}
use Rattle.std.proofs.lemmas.Bool.{cases_lt, ltb-false, ltb-true, eqb-true, le-ltb, lt-ltb, and_parts, and_from}
use Rattle.std.proofs.lemmas.List.{take_at, drop_at, take-append-drop, length-append, length-take, get_or-take, get_or_past}
use Rattle.std.proofs.lemmas.Nat.{be_bytes_2, be_bytes_4, be_bytes_8, from_be_bytes-to_be_bytes_2, from_be_bytes-to_be_bytes_4, from_be_bytes-to_be_bytes_8}
use Rattle.std.proofs.lemmas.Slice.Eq.{bytes_eq-Decides}
use Rattle.ipld_cid.specs.Multihash.{IsBytes}
use Rattle.dag_cbor_format.specs.declared.major.Major.{Major}
use Rattle.dag_cbor_format.specs.declared.major.Major.TheVariants.{Unsigned, Negative, Bytes, Text, List as Array, Map, Tag, Simple}
use Rattle.dag_cbor_format.specs.Head.{number_of, limit_of, IsArgument, head}
use Rattle.dag_cbor_format.specs.HeadReading.{major_at, at_least, read_byte, read_wide, read_argument, argument_of, with_major, read_head, if_encoded, head_at}

IsBytes-take : (n : ℕ) (bytes : List ℕ) → IsBytes bytes → IsBytes (take n bytes)
IsBytes-take n bytes h i =
    elim (cases_lt i n) [
      | inl lt ↦ rw (get_or-take n bytes i 0 lt) (h i)
      | inr le ↦ rw (get_or_past (take n bytes) i 0 (omega (arith, length-take n bytes))) (omega arith)
    ]

-- how a test went
pub chosen : {A : Type 0} (b : Bool) (x y z : A) → cond b x y ≡ z → ((b ≡ true) × (x ≡ z)) ⊎ ((b ≡ false) × (y ≡ z))
chosen true x y z e = inl (refl, e)
chosen false x y z e = inr (refl, e)

-- ---- arguments of some bytes

record IsWide (w : Width) (limit : ℕ) : Type 0 where
  len : (n : ℕ) → length (to_be_bytes w n) ≡ byte_len w
  back : (bytes : List ℕ) → length bytes ≡ byte_len w → IsBytes bytes → to_be_bytes w (from_be_bytes w bytes) ≡ bytes
  again : (n : ℕ) → n < limit → from_be_bytes w (to_be_bytes w n) ≡ n
  below : (bytes : List ℕ) → IsBytes bytes → from_be_bytes w bytes < limit

wide16 : IsWide w16 (2 ^ 16)
wide16 = record {
  len = λ n. refl;
  back = λ bytes len fits. be_bytes_2 bytes _ len fits refl;
  again = λ n lt. from_be_bytes-to_be_bytes_2 n lt;
  below = λ bytes fits. omega (arith, fits 0, fits 1);
}

wide32 : IsWide w32 (2 ^ 32)
wide32 = record {
  len = λ n. refl;
  back = λ bytes len fits. be_bytes_4 bytes _ len fits refl;
  again = λ n lt. from_be_bytes-to_be_bytes_4 n lt;
  below = λ bytes fits. omega (arith, fits 0, fits 1, fits 2, fits 3);
}

wide64 : IsWide w64 (2 ^ 64)
wide64 = record {
  len = λ n. refl;
  back = λ bytes len fits. be_bytes_8 bytes _ len fits refl;
  again = λ n lt. from_be_bytes-to_be_bytes_8 n lt;
  below = λ bytes fits. omega (arith, fits 0, fits 1, fits 2, fits 3, fits 4, fits 5, fits 6, fits 7);
}

at_least-complete : (least n : ℕ) (rest : List ℕ) → least ≤ n → at_least least n rest ≡ Some (n, rest)
at_least-complete least n rest le = rw (le-ltb n least le)

least_read : (least k n : ℕ) (more rest : List ℕ) → at_least least k more ≡ Some (n, rest) → (least ≤ n) × (k ≡ n) × (more ≡ rest)
least_read least k n more rest e =
    elim (chosen (ltb k least) None (Some (k, more)) (Some (n, rest)) e) [
      | inl (t, x) ↦ absurd (cc x)
      | inr (f, x) ↦
          let p : (k, more) ≡ (n, rest) = cc x in
          let kn : k ≡ n = ap (λ (q : ℕ × List ℕ). q.0) p in
          (subst (λ (j : ℕ). least ≤ j) kn (ltb-false k least f), kn, ap (λ (q : ℕ × List ℕ). q.1) p)
    ]

read_wide-to_be_bytes : (w : Width) (limit least : ℕ) (wide : IsWide w limit) (n : ℕ) (rest : List ℕ) → least ≤ n → n < limit → read_wide w least (to_be_bytes w n ++ rest) ≡ Some (n, rest)
read_wide-to_be_bytes w limit least wide n rest le lt =
    let len = wide.len n in
    let long : ltb (length (to_be_bytes w n ++ rest)) (byte_len w) ≡ false = le-ltb _ _ (omega (arith, length-append (to_be_bytes w n) rest)) in
    rw (long, take_at (to_be_bytes w n) rest (byte_len w) len, drop_at (to_be_bytes w n) rest (byte_len w) len, wide.again n lt) (at_least-complete least n rest le)

wide_read : (w : Width) (limit least : ℕ) (wide : IsWide w limit) (bytes : List ℕ) (n : ℕ) (rest : List ℕ) → IsBytes bytes → read_wide w least bytes ≡ Some (n, rest)
    → (least ≤ n) × (n < limit) × (bytes ≡ to_be_bytes w n ++ rest)
wide_read w limit least wide bytes n rest fits e =
    elim (chosen (ltb (length bytes) (byte_len w)) None (at_least least (from_be_bytes w (take (byte_len w) bytes)) (drop (byte_len w) bytes)) (Some (n, rest)) e) [
      | inl (t, x) ↦ absurd (cc x)
      | inr (f, x) ↦
          let long : byte_len w ≤ length bytes = ltb-false _ _ f in
          let r = least_read least _ n _ rest x in
          let front : to_be_bytes w n ≡ take (byte_len w) bytes =
          rw (← r.1) (wide.back (take (byte_len w) bytes) (omega (arith, length-take (byte_len w) bytes)) (IsBytes-take (byte_len w) bytes fits)) in
          (r.0, rw (← r.1) (wide.below (take (byte_len w) bytes) (IsBytes-take (byte_len w) bytes fits)), rw (front, ← r.2) (sym (take-append-drop (byte_len w) bytes)))
    ]

-- ---- heads by their width

head_0 : (m : Major) (n : ℕ) → n < 24 → head m n ≡ (32 * number_of m + n) ∷ []
unfolding head
head_0 m n lt = rw (lt-ltb n 24 lt)

head_8 : (m : Major) (n : ℕ) → 24 ≤ n → n < 2 ^ 8 → head m n ≡ (32 * number_of m + 24) ∷ n ∷ []
unfolding head
head_8 m n le lt = rw (le-ltb n 24 le, lt-ltb n (2 ^ 8) lt)

head_16 : (m : Major) (n : ℕ) → 2 ^ 8 ≤ n → n < 2 ^ 16 → head m n ≡ (32 * number_of m + 25) ∷ to_be_bytes w16 n
unfolding head
head_16 m n le lt = rw (le-ltb n 24 (omega arith), le-ltb n (2 ^ 8) le, lt-ltb n (2 ^ 16) lt)

head_32 : (m : Major) (n : ℕ) → 2 ^ 16 ≤ n → n < 2 ^ 32 → head m n ≡ (32 * number_of m + 26) ∷ to_be_bytes w32 n
unfolding head
head_32 m n le lt = rw (le-ltb n 24 (omega arith), le-ltb n (2 ^ 8) (omega arith), le-ltb n (2 ^ 16) le, lt-ltb n (2 ^ 32) lt)

head_64 : (m : Major) (n : ℕ) → 2 ^ 32 ≤ n → head m n ≡ (32 * number_of m + 27) ∷ to_be_bytes w64 n
unfolding head
head_64 m n le = rw (le-ltb n 24 (omega arith), le-ltb n (2 ^ 8) (omega arith), le-ltb n (2 ^ 16) (omega arith), le-ltb n (2 ^ 32) le)

-- ---- the first byte

major_at-number_of : (m : Major) → major_at (number_of m) ≡ m
major_at-number_of Unsigned = refl
major_at-number_of Negative = refl
major_at-number_of Bytes = refl
major_at-number_of Text = refl
major_at-number_of Array = refl
major_at-number_of Map = refl
major_at-number_of Tag = refl
major_at-number_of Simple = refl

number_of-major_at : (k : ℕ) → k < 8 → number_of (major_at k) ≡ k
number_of-major_at zero h = refl
number_of-major_at (suc zero) h = refl
number_of-major_at (suc (suc zero)) h = refl
number_of-major_at (suc (suc (suc zero))) h = refl
number_of-major_at (suc (suc (suc (suc zero)))) h = refl
number_of-major_at (suc (suc (suc (suc (suc zero))))) h = refl
number_of-major_at (suc (suc (suc (suc (suc (suc zero)))))) h = refl
number_of-major_at (suc (suc (suc (suc (suc (suc (suc zero))))))) h = refl
number_of-major_at (suc (suc (suc (suc (suc (suc (suc (suc k)))))))) h = absurd (omega (arith, h))

first_parts : (m : Major) (low : ℕ) (bytes : List ℕ) → low < 32 → read_head ((32 * number_of m + low) ∷ bytes) ≡ with_major m (argument_of m low bytes)
unfolding read_head
first_parts m low bytes lt =
    let upper : (32 * number_of m + low) / 32 ≡ number_of m = omega arith in
    let additional : (32 * number_of m + low) % 32 ≡ low = omega arith in
    rw (upper, additional, major_at-number_of m)

-- ---- what is encoded is read

small : (m : Major) (n : ℕ) (rest : List ℕ) → n < 24 → argument_of m n rest ≡ Some (n, rest)
unfolding read_argument
small Unsigned n rest lt = rw (lt-ltb n 24 lt)
small Negative n rest lt = rw (lt-ltb n 24 lt)
small Bytes n rest lt = rw (lt-ltb n 24 lt)
small Text n rest lt = rw (lt-ltb n 24 lt)
small Array n rest lt = rw (lt-ltb n 24 lt)
small Map n rest lt = rw (lt-ltb n 24 lt)
small Tag n rest lt = rw (lt-ltb n 24 lt)
small Simple n rest lt = rw (lt-ltb n 24 lt)

large : (m : Major) (n low : ℕ) (bytes : List ℕ) → IsArgument m n → 24 ≤ n → argument_of m low bytes ≡ read_argument low bytes
large Unsigned n low bytes h le = refl
large Negative n low bytes h le = refl
large Bytes n low bytes h le = refl
large Text n low bytes h le = refl
large Array n low bytes h le = refl
large Map n low bytes h le = refl
large Tag n low bytes h le = refl
large Simple n low bytes h le = absurd (omega (arith, h, le))

bounded : (m : Major) (n : ℕ) → IsArgument m n → n < 2 ^ 64
bounded Unsigned n h = h
bounded Negative n h = h
bounded Bytes n h = h
bounded Text n h = h
bounded Array n h = h
bounded Map n h = h
bounded Tag n h = h
bounded Simple n h = omega (arith, h)

argument_24 : (bytes : List ℕ) → read_argument 24 bytes ≡ read_byte bytes
unfolding read_argument
argument_24 bytes = refl

argument_25 : (bytes : List ℕ) → read_argument 25 bytes ≡ read_wide w16 (2 ^ 8) bytes
unfolding read_argument
argument_25 bytes = refl

argument_26 : (bytes : List ℕ) → read_argument 26 bytes ≡ read_wide w32 (2 ^ 16) bytes
unfolding read_argument
argument_26 bytes = refl

argument_27 : (bytes : List ℕ) → read_argument 27 bytes ≡ read_wide w64 (2 ^ 32) bytes
unfolding read_argument
argument_27 bytes = refl

over_large : (m : Major) (n low : ℕ) (more rest : List ℕ) → low < 32 → IsArgument m n → 24 ≤ n → head m n ≡ (32 * number_of m + low) ∷ more
    → read_argument low (more ++ rest) ≡ Some (n, rest) → read_head (head m n ++ rest) ≡ Some (m, n, rest)
over_large m n low more rest lt h le e r =
    ap (λ bs. read_head (bs ++ rest)) e ∙ first_parts m low (more ++ rest) lt ∙ ap (with_major m) (large m n low (more ++ rest) h le ∙ r)

read_head-head : (m : Major) (n : ℕ) (rest : List ℕ) → IsArgument m n → read_head (head m n ++ rest) ≡ Some (m, n, rest)
read_head-head m n rest h =
    elim (cases_lt n 24) [
      | inl lt ↦ ap (λ bs. read_head (bs ++ rest)) (head_0 m n lt) ∙ first_parts m n rest (omega arith) ∙ ap (with_major m) (small m n rest lt)
      | inr a ↦ elim (cases_lt n (2 ^ 8)) [
        | inl lt ↦ over_large m n 24 (n ∷ []) rest (omega arith) h a (head_8 m n a lt) (argument_24 (n ∷ rest) ∙ at_least-complete 24 n rest a)
        | inr b ↦ elim (cases_lt n (2 ^ 16)) [
          | inl lt ↦ over_large m n 25 (to_be_bytes w16 n) rest (omega arith) h a (head_16 m n b lt) (argument_25 (to_be_bytes w16 n ++ rest) ∙ read_wide-to_be_bytes w16 (2 ^ 16) (2 ^ 8) wide16 n rest b lt)
          | inr c ↦ elim (cases_lt n (2 ^ 32)) [
            | inl lt ↦ over_large m n 26 (to_be_bytes w32 n) rest (omega arith) h a (head_32 m n c lt) (argument_26 (to_be_bytes w32 n ++ rest) ∙ read_wide-to_be_bytes w32 (2 ^ 32) (2 ^ 16) wide32 n rest c lt)
            | inr d ↦ over_large m n 27 (to_be_bytes w64 n) rest (omega arith) h a (head_64 m n d) (argument_27 (to_be_bytes w64 n ++ rest) ∙ read_wide-to_be_bytes w64 (2 ^ 64) (2 ^ 32) wide64 n rest d (bounded m n h))
          ]
        ]
      ]
    ]

pub head_at-head : (m : Major) (n : ℕ) (rest : List ℕ) → IsArgument m n → head_at (head m n ++ rest) ≡ Some (m, n, rest)
unfolding head_at
head_at-head m n rest h =
    let tests = and_from (ltb n (limit_of m)) (bytes_eq (head m n ++ rest) (head m n ++ rest)) (lt-ltb n (limit_of m) h) ((bytes_eq-Decides (head m n ++ rest) (head m n ++ rest)).1 refl) in
    rw (read_head-head m n rest h, tests)

-- ---- what is read is encoded so

encoded_where : (bytes : List ℕ) (o : Option (Major × ℕ × List ℕ)) (m : Major) (n : ℕ) (rest : List ℕ) → if_encoded bytes o ≡ Some (m, n, rest) → IsArgument m n × (bytes ≡ head m n ++ rest)
encoded_where bytes None m n rest e = absurd cc
encoded_where bytes (Some h) m n rest e =
    elim (chosen _ (Some h) None (Some (m, n, rest)) e) [
      | inl (t, x) ↦
          let p : h ≡ (m, n, rest) = cc x in
          let tests = and_parts (ltb h.1 (limit_of h.0)) (bytes_eq bytes (head h.0 h.1 ++ h.2)) t in
          subst (λ (q : Major × ℕ × List ℕ). IsArgument q.0 q.1 × (bytes ≡ head q.0 q.1 ++ q.2)) p
          (ltb-true h.1 (limit_of h.0) tests.0, (bytes_eq-Decides bytes (head h.0 h.1 ++ h.2)).0 tests.1)
      | inr (f, x) ↦ absurd (cc x)
    ]

pub head_encoded : (bytes : List ℕ) (m : Major) (n : ℕ) (rest : List ℕ) → head_at bytes ≡ Some (m, n, rest) → IsArgument m n × (bytes ≡ head m n ++ rest)
unfolding head_at
head_encoded bytes m n rest e = encoded_where bytes (read_head bytes) m n rest e

byte_read : (bytes : List ℕ) (n : ℕ) (rest : List ℕ) → IsBytes bytes → read_byte bytes ≡ Some (n, rest) → (24 ≤ n) × (n < 2 ^ 8) × (bytes ≡ n ∷ rest)
byte_read [] n rest fits e = absurd cc
byte_read (b ∷ bs) n rest fits e =
    let r = least_read 24 b n bs rest e in
    (r.0, subst (λ (k : ℕ). k < 2 ^ 8) r.1 (fits 0), ap (λ k. k ∷ bs) r.1 ∙ ap (λ xs. n ∷ xs) r.2)

-- a head of this width, as it was read
as_read : (m : Major) (n low width : ℕ) (bytes more rest : List ℕ) → low ≡ width → bytes ≡ more ++ rest → head m n ≡ (32 * number_of m + width) ∷ more
    → (32 * number_of m + low) ∷ bytes ≡ head m n ++ rest
as_read m n low width bytes more rest l b h =
    ap (λ k. (32 * number_of m + k) ∷ bytes) l ∙ ap (λ xs. (32 * number_of m + width) ∷ xs) b ∙ sym (ap (λ xs. xs ++ rest) h)

abbrev both : ℕ → List ℕ → Option (ℕ × List ℕ)
both n rest = Some (n, rest)

small_read : (m : Major) (low n : ℕ) (bytes rest : List ℕ) → low < 24 → both low bytes ≡ both n rest → (n < 24) × ((32 * number_of m + low) ∷ bytes ≡ head m n ++ rest)
small_read m low n bytes rest lt e =
    let a : ℕ × List ℕ = (low, bytes) in
    let b : ℕ × List ℕ = (n, rest) in
    let p : a ≡ b = cc e in
    subst (λ (q : ℕ × List ℕ). (q.0 < 24) × ((32 * number_of m + low) ∷ bytes ≡ head m q.0 ++ q.1)) p
    (lt, sym (ap (λ xs. xs ++ bytes) (head_0 m low lt)))

argument_read : (m : Major) (low n : ℕ) (bytes rest : List ℕ) → IsBytes bytes → read_argument low bytes ≡ Some (n, rest)
    → (n < 2 ^ 64) × ((32 * number_of m + low) ∷ bytes ≡ head m n ++ rest)
unfolding read_argument
argument_read m low n bytes rest fits e =
    elim (chosen (ltb low 24) _ _ _ e) [
      | inl (t, x) ↦
          let r = small_read m low n bytes rest (ltb-true low 24 t) x in
          (omega (arith, r.0), r.1)
      | inr (f0, e0) ↦ elim (chosen (eqb low 24) _ _ _ e0) [
        | inl (t, x) ↦
            let r = byte_read bytes n rest fits x in
            (omega (arith, r.1), as_read m n low 24 bytes (n ∷ []) rest (eqb-true low 24 t) r.2 (head_8 m n r.0 r.1))
        | inr (f1, e1) ↦ elim (chosen (eqb low 25) _ _ _ e1) [
          | inl (t, x) ↦
              let r = wide_read w16 (2 ^ 16) (2 ^ 8) wide16 bytes n rest fits x in
              (omega (arith, r.1), as_read m n low 25 bytes (to_be_bytes w16 n) rest (eqb-true low 25 t) r.2 (head_16 m n r.0 r.1))
          | inr (f2, e2) ↦ elim (chosen (eqb low 26) _ _ _ e2) [
            | inl (t, x) ↦
                let r = wide_read w32 (2 ^ 32) (2 ^ 16) wide32 bytes n rest fits x in
                (omega (arith, r.1), as_read m n low 26 bytes (to_be_bytes w32 n) rest (eqb-true low 26 t) r.2 (head_32 m n r.0 r.1))
            | inr (f3, e3) ↦ elim (chosen (eqb low 27) _ _ _ e3) [
              | inl (t, x) ↦
                  let r = wide_read w64 (2 ^ 64) (2 ^ 32) wide64 bytes n rest fits x in
                  (r.1, as_read m n low 27 bytes (to_be_bytes w64 n) rest (eqb-true low 27 t) r.2 (head_64 m n r.0))
              | inr (f4, e4) ↦ absurd (cc e4)
            ]
          ]
        ]
      ]
    ]

simple_read : (low n : ℕ) (bytes rest : List ℕ) → argument_of Simple low bytes ≡ Some (n, rest)
    → (n < 24) × ((32 * number_of Simple + low) ∷ bytes ≡ head Simple n ++ rest)
simple_read low n bytes rest e =
    elim (chosen (ltb low 24) _ _ _ e) [
      | inl (t, x) ↦ small_read Simple low n bytes rest (ltb-true low 24 t) x
      | inr (f, x) ↦ absurd (cc x)
    ]

of_major : (m : Major) (low n : ℕ) (bytes rest : List ℕ) → IsBytes bytes → argument_of m low bytes ≡ Some (n, rest)
    → IsArgument m n × ((32 * number_of m + low) ∷ bytes ≡ head m n ++ rest)
of_major Unsigned low n bytes rest fits e = argument_read Unsigned low n bytes rest fits e
of_major Negative low n bytes rest fits e = argument_read Negative low n bytes rest fits e
of_major Bytes low n bytes rest fits e = argument_read Bytes low n bytes rest fits e
of_major Text low n bytes rest fits e = argument_read Text low n bytes rest fits e
of_major Array low n bytes rest fits e = argument_read Array low n bytes rest fits e
of_major Map low n bytes rest fits e = argument_read Map low n bytes rest fits e
of_major Tag low n bytes rest fits e = argument_read Tag low n bytes rest fits e
of_major Simple low n bytes rest fits e = simple_read low n bytes rest e

with_some : (m : Major) (o : Option (ℕ × List ℕ)) (h : Major × ℕ × List ℕ) → with_major m o ≡ Some h → (a : ℕ × List ℕ) × (o ≡ Some a) × ((m, a.0, a.1) ≡ h)
with_some m None h e = absurd cc
with_some m (Some a) h e = (a, refl, cc e)

parts_read : (bytes : List ℕ) (h : Major × ℕ × List ℕ) → IsBytes bytes → read_head bytes ≡ Some h → IsArgument h.0 h.1 × (bytes ≡ head h.0 h.1 ++ h.2)
unfolding read_head
parts_read [] h fits e = absurd cc
parts_read (b ∷ bs) h fits e =
    let m = major_at (b / 32) in
    let w = with_some m (argument_of m (b % 32) bs) h e in
    let byte : b < 256 = fits 0 in
    let number : number_of m ≡ b / 32 = number_of-major_at (b / 32) (omega arith) in
    let first : 32 * number_of m + b % 32 ≡ b = rw number (omega arith) in
    let r = of_major m (b % 32) w.0.0 bs w.0.1 (λ i. fits (suc i)) w.1 in
    subst (λ (q : Major × ℕ × List ℕ). IsArgument q.0 q.1 × (b ∷ bs ≡ head q.0 q.1 ++ q.2)) w.2 (r.0, ap (λ k. k ∷ bs) (sym first) ∙ r.1)

looked_back : (bytes : List ℕ) (o : Option (Major × ℕ × List ℕ)) → ((h : Major × ℕ × List ℕ) → o ≡ Some h → IsArgument h.0 h.1 × (bytes ≡ head h.0 h.1 ++ h.2)) → if_encoded bytes o ≡ o
looked_back bytes None f = refl
looked_back bytes (Some h) f =
    let is = f h refl in
    let tests = and_from (ltb h.1 (limit_of h.0)) (bytes_eq bytes (head h.0 h.1 ++ h.2)) (lt-ltb h.1 (limit_of h.0) is.0) ((bytes_eq-Decides bytes (head h.0 h.1 ++ h.2)).1 is.1) in
    rw tests

-- bytes have nothing read that they don't encode
pub parts_at : (bytes : List ℕ) → IsBytes bytes → head_at bytes ≡ read_head bytes
unfolding head_at
parts_at bytes fits = looked_back bytes (read_head bytes) (λ h e. parts_read bytes h fits e)

-- a head has a byte
pub head_some : (m : Major) (n : ℕ) → 0 < length (head m n)
head_some m n =
    elim (cases_lt n 24) [
      | inl lt ↦ rw (head_0 m n lt) (omega arith)
      | inr a ↦ elim (cases_lt n (2 ^ 8)) [
        | inl lt ↦ rw (head_8 m n a lt) (omega arith)
        | inr b ↦ elim (cases_lt n (2 ^ 16)) [
          | inl lt ↦ rw (head_16 m n b lt) (omega arith)
          | inr c ↦ elim (cases_lt n (2 ^ 32)) [
            | inl lt ↦ rw (head_32 m n c lt) (omega arith)
            | inr d ↦ rw (head_64 m n d) (omega arith)
          ]
        ]
      ]
    ]
