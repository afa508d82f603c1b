-- Varints: what is read is encoded, and what is encoded is read, whatever follows it.
use Rattle.std.proofs.Common.{◌≡◌, ℕ, zero, suc, ◌+◌, ◌-◌, ◌*◌, ◌^◌, ◌<◌, ◌≤◌, Bool, true, false, cond, ltb, List, [], ◌∷◌, ◌++◌, length, Result, Ok, Err, inl, inr, refl, sym, ap, arith}
use Rattle.std.proofs.Math.Nat.{pow-suc, one-le-pow}
use Rattle.std.proofs.lemmas.Bool.{cases_lt, lt-ltb, le-ltb}
use Rattle.std.proofs.lemmas.Bool.Decides.{nat_tests}
use Rattle.ipld_cid.specs.Multihash.{IsBytes}
use Rattle.ipld_cid.specs.Varint.{IsLeb128}
use Rattle.ipld_cid.proofs.Varints.{IsBytes-rest}
use Rattle.pb_wire.specs.declared.error.WireError.{WireError}
use Rattle.pb_wire.specs.declared.error.WireError.TheVariants.{VarintTooLarge}
use Rattle.pb_wire.specs.Steps.{◌>>=◌}
use Rattle.pb_wire.specs.Wire.{IsVarint}
use Rattle.pb_wire.specs.Reading.{exceeds, read_from, read_varint}
use Rattle.pb_wire.proofs.Steps.{bind_ok, same_ok}
use Rattle.pb_wire.proofs.VarintLoop.{exceeds-not}

-- ---- varints

-- what is above the numbers of at most `more` bytes and one, where ten bytes hold 64 bits
abbrev limit : ℕ → ℕ
limit more = 2 * 128 ^ more

-- one byte more holds 128 times as much
limit_more : (more : ℕ) → limit (suc more) ≡ 128 * limit more
limit_more more = omega (arith, pow-suc 128 more)

-- one group fits
low_fits : (more n : ℕ) → n < 128 → n < limit (suc more)
low_fits more n small = omega (arith, limit_more more, one-le-pow more 128 (omega arith))

-- a byte that isn't too much
not_exceeds : (place byte : ℕ) → (place ≡ 9 → byte ≤ 1) → exceeds place byte ≡ false
not_exceeds place byte last = grind (arith, nat_tests)

-- what follows a byte that isn't too much
abbrev follows : ℕ → ℕ → List ℕ → Result (ℕ × List ℕ) WireError
follows place b bytes = cond (ltb b 128) (Ok (b, bytes)) (read_from (suc place) bytes >>= λ high. Ok ((b - 128) + 128 * high.0, high.1))

-- a test that didn't end the reading
pub unless_ok : {A : Type 0} (test : Bool) (error : WireError) (read : Result A WireError) (x : A) → cond test (Err error) read ≡ Ok x → (test ≡ false) × (read ≡ Ok x)
unless_ok true error read x e = absurd cc
unless_ok false error read x e = (refl, e)

-- what reading a varint takes from the front, behind some bytes of it
record Takes (place more n : ℕ) (bytes rest : List ℕ) : Type 0 where
  taken : List ℕ
  fits : n < limit more
  short : length taken ≤ suc more
  encoded : IsLeb128 n taken
  parts : bytes ≡ taken ++ rest
  rest_fits : IsBytes rest

-- one group more
encode_more : (n high b : ℕ) (bytes : List ℕ) → 128 ≤ b → b < 256 → n ≡ (b - 128) + 128 * high → IsLeb128 high bytes → IsLeb128 n (b ∷ bytes)
encode_more n high b [] large byte is encoded = absurd encoded
encode_more n high b (c ∷ bytes) large byte is encoded = (large, byte, high, is, encoded)

takes_last : (place more b : ℕ) (bytes : List ℕ) → place + more ≡ 9 → IsBytes bytes → exceeds place b ≡ false → b < 128 → Takes place more b (b ∷ bytes) bytes
takes_last place zero b bytes slots whole sound small =
    record { taken = b ∷ []; fits = omega (arith, exceeds-not place b sound (omega arith)); short = omega arith; encoded = (small, refl); parts = refl; rest_fits = whole }
takes_last place (suc more) b bytes slots whole sound small =
    record { taken = b ∷ []; fits = low_fits more b small; short = omega arith; encoded = (small, refl); parts = refl; rest_fits = whole }

takes_more : (place more b high : ℕ) (bytes rest : List ℕ) → place + more ≡ 9 → b < 256 → exceeds place b ≡ false → 128 ≤ b
    → ((less : ℕ) → suc place + less ≡ 9 → Takes (suc place) less high bytes rest)
    → Takes place more ((b - 128) + 128 * high) (b ∷ bytes) rest
takes_more place zero b high bytes rest slots byte sound large others = absurd (omega (arith, exceeds-not place b sound (omega arith)))
takes_more place (suc more) b high bytes rest slots byte sound large others =
    let found = others more (omega arith) in
    let fits : high < limit more = found.fits in
    let few : length found.taken ≤ suc more = found.short in
    record {
      taken = b ∷ found.taken;
      fits = omega (arith, limit_more more);
      short = omega arith;
      encoded = encode_more ((b - 128) + 128 * high) high b found.taken large byte refl found.encoded;
      parts = ap (λ (x : List ℕ). b ∷ x) found.parts;
      rest_fits = found.rest_fits;
    }

takes : (place more n : ℕ) (bytes rest : List ℕ) → place + more ≡ 9 → IsBytes bytes → read_from place bytes ≡ Ok (n, rest) → Takes place more n bytes rest
takes place more n [] rest slots whole read = absurd cc
takes place more n (b ∷ bytes) rest slots whole read =
    let sound = unless_ok (exceeds place b) VarintTooLarge (follows place b bytes) (n, rest) read in
    let here : b < 256 = whole 0 in
    elim (cases_lt b 128) [
      | inl small ↦
          let is = rw (lt-ltb b 128 small) at sound.1 in
          same_ok (λ (x : ℕ × List ℕ). Takes place more x.0 (b ∷ bytes) x.1) (b, bytes) (n, rest) is (takes_last place more b bytes slots (IsBytes-rest b bytes whole) sound.0 small)
      | inr large ↦
          let is = rw (le-ltb b 128 large) at sound.1 in
          let high = bind_ok (read_from (suc place) bytes) (λ high. Ok ((b - 128) + 128 * high.0, high.1)) (n, rest) is in
          let others = takes_more place more b high.0.0 bytes high.0.1 slots here sound.0 large
          (λ less e. takes (suc place) less high.0.0 bytes high.0.1 e (IsBytes-rest b bytes whole) high.1) in
          same_ok (λ (x : ℕ × List ℕ). Takes place more x.0 (b ∷ bytes) x.1) ((b - 128) + 128 * high.0.0, high.0.1) (n, rest) high.2 others
    ]

-- what was read at the front of some bytes
pub record Front (P : List ℕ → Type 0) (bytes rest : List ℕ) : Type 0 where
  pub taken : List ℕ
  pub is : P taken
  pub parts : bytes ≡ taken ++ rest
  pub rest_fits : IsBytes rest

-- what is read is a varint at the front
pub varint_sound : (n : ℕ) (bytes rest : List ℕ) → IsBytes bytes → read_varint bytes ≡ Ok (n, rest) → Front (IsVarint n) bytes rest
unfolding read_varint
varint_sound n bytes rest whole read =
    let found = takes 0 9 n bytes rest refl whole read in
    let fits : n < limit 9 = found.fits in
    record { taken = found.taken; is = record { below = fits; short = found.short; encoded = found.encoded }; parts = found.parts; rest_fits = found.rest_fits }

-- bytes that encode a number are read, from any place on
reads : (place more n : ℕ) (taken rest : List ℕ) → place + more ≡ 9 → n < limit more → length taken ≤ suc more → IsLeb128 n taken
    → read_from place (taken ++ rest) ≡ Ok (n, rest)
reads place more n [] rest slots fits short encoded = absurd encoded
reads place zero n (b ∷ []) rest slots fits short encoded =
    rw (not_exceeds place b (λ e. omega arith), lt-ltb b 128 encoded.0, encoded.1) refl
reads place (suc more) n (b ∷ []) rest slots fits short encoded =
    rw (not_exceeds place b (λ e. absurd (omega arith)), lt-ltb b 128 encoded.0, encoded.1) refl
reads place zero n (b ∷ c ∷ taken) rest slots fits short encoded = absurd (omega arith)
reads place (suc more) n (b ∷ c ∷ taken) rest slots fits short encoded =
    let high = encoded.2 in
    let is : n ≡ (b - 128) + 128 * high = encoded.3 in
    let less : high < limit more = omega (arith, limit_more more) in
    let tail = reads (suc place) more high (c ∷ taken) rest (omega arith) less (omega arith) encoded.4 in
    rw (not_exceeds place b (λ e. absurd (omega arith)), le-ltb b 128 encoded.0, tail) (ap (λ (m : ℕ). Ok (m, rest)) (sym is))

-- a varint is read, whatever follows it
pub varint_complete : (n : ℕ) (taken rest : List ℕ) → IsVarint n taken → read_varint (taken ++ rest) ≡ Ok (n, rest)
unfolding read_varint
varint_complete n taken rest varint =
    let fits : n < limit 9 = varint.below in
    reads 0 9 n taken rest refl fits varint.short varint.encoded
