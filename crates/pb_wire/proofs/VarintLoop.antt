-- The loop that reads a varint: what was read so far, before what the bytes from the place on encode.
use Rattle.std.proofs.Common.{◌≡◌, ℕ, suc, ◌+◌, ◌-◌, ◌*◌, ◌%◌, ◌^◌, ◌<◌, ◌≤◌, Bool, true, false, cond, ltb, List, ◌∷◌, length, get_or, drop, Result, Ok, Err, inl, inr, refl, sym, ap, ◌∙◌, arith, add-one}
use Rattle.std.proofs.lemmas.Bool.{cases_eq, lt-ltb, le-ltb}
use Rattle.std.proofs.lemmas.Bool.Decides.{nat_tests}
use Rattle.std.proofs.lemmas.Nat.{pow-add}
use Rattle.std.proofs.lemmas.List.{drop_more, drop_all}
use Rattle.pb_wire.specs.declared.error.WireError.{WireError}
use Rattle.pb_wire.specs.declared.error.WireError.TheVariants.{End, VarintTooLarge}
use Rattle.pb_wire.specs.Steps.{◌>>=◌}
use Rattle.pb_wire.specs.Reading.{exceeds, read_from}

-- a number of `place` groups, and above it what was read
abbrev pub above : ℕ → ℕ → Result (ℕ × List ℕ) WireError → Result (ℕ × List ℕ) WireError
above value place read = read >>= λ high. Ok (value + 2 ^ (7 * place) * high.0, high.1)

pub above_zero : (read : Result (ℕ × List ℕ) WireError) → above 0 0 read ≡ read
above_zero (Ok x) = ap (λ (n : ℕ). Ok (n, x.1)) (omega arith)
above_zero (Err e) = refl

-- one more group
above_more : (value place low : ℕ) (read : Result (ℕ × List ℕ) WireError)
    → above value place (read >>= λ high. Ok (low + 128 * high.0, high.1)) ≡ above (value + low * 2 ^ (7 * place)) (place + 1) read
above_more value place low (Err e) = refl
above_more value place low (Ok x) =
    let wider : 2 ^ (7 * (place + 1)) ≡ 2 ^ (7 * place) * 128 = ap (λ (k : ℕ). 2 ^ k) (omega arith) ∙ pow-add 2 (7 * place) 7 in
    ap (λ (n : ℕ). Ok (n, x.1)) (rw wider (omega arith))

-- what a byte that isn't too much says
pub exceeds-not : (place byte : ℕ) → exceeds place byte ≡ false → place ≡ 9 → byte ≤ 1
exceeds-not place byte sound last = grind (arith, nat_tests)

-- a byte that isn't too much is a group that fits
pub fits_at : (place byte : ℕ) → place ≤ 9 → byte < 256 → exceeds place byte ≡ false → (width : ℕ) × (byte % 128 < 2 ^ width) × (width + 7 * place ≤ 64)
fits_at place byte few fits sound =
    elim (cases_eq place 9) [
      | inl last ↦ (1, omega (arith, exceeds-not place byte sound last), omega arith)
      | inr before ↦ (7, omega arith, omega arith)
    ]

-- what the code does at a byte
abbrev follows : ℕ → ℕ → List ℕ → Result (ℕ × List ℕ) WireError
follows place b bytes = cond (ltb b 128) (Ok (b, bytes)) (read_from (suc place) bytes >>= λ high. Ok ((b - 128) + 128 * high.0, high.1))

-- the next byte of the rest
next_byte : (place : ℕ) (bytes : List ℕ) → place < length bytes → read_from place (drop place bytes) ≡ read_from place (get_or bytes place 0 ∷ drop (suc place) bytes)
next_byte place bytes more = ap (read_from place) (rw add-one at (drop_more bytes place 0 more))

-- a byte that is too much ends the reading
pub stops : (value place : ℕ) (bytes : List ℕ) → place < length bytes
    → above value place (read_from place (drop place bytes)) ≡ read_from 0 bytes
    → exceeds place (get_or bytes place 0) ≡ true → read_from 0 bytes ≡ Err VarintTooLarge
stops value place bytes more so_far found =
    sym so_far ∙ ap (above value place) (next_byte place bytes more)
    ∙ ap (λ (f : Bool). above value place (cond f (Err VarintTooLarge) (follows place (get_or bytes place 0) (drop (suc place) bytes)))) found

-- else what the byte says
sound_byte : (value place : ℕ) (bytes : List ℕ) → place < length bytes
    → above value place (read_from place (drop place bytes)) ≡ read_from 0 bytes
    → exceeds place (get_or bytes place 0) ≡ false
    → read_from 0 bytes ≡ above value place (follows place (get_or bytes place 0) (drop (suc place) bytes))
sound_byte value place bytes more so_far sound =
    sym so_far ∙ ap (above value place) (next_byte place bytes more)
    ∙ ap (λ (f : Bool). above value place (cond f (Err VarintTooLarge) (follows place (get_or bytes place 0) (drop (suc place) bytes)))) sound

-- the last byte
pub finishes : (value place : ℕ) (bytes : List ℕ) → place < length bytes
    → above value place (read_from place (drop place bytes)) ≡ read_from 0 bytes
    → exceeds place (get_or bytes place 0) ≡ false → get_or bytes place 0 < 128
    → read_from 0 bytes ≡ Ok (value + get_or bytes place 0 % 128 * 2 ^ (7 * place), drop (place + 1) bytes)
finishes value place bytes more so_far sound low =
    let last : ltb (get_or bytes place 0) 128 ≡ true = lt-ltb (get_or bytes place 0) 128 low in
    let small : get_or bytes place 0 % 128 ≡ get_or bytes place 0 = omega arith in
    sound_byte value place bytes more so_far sound ∙ rw (last, small, add-one) (ap (λ (n : ℕ). Ok (n, drop (suc place) bytes)) (omega arith))

-- a byte with others after it
pub goes_on : (value place : ℕ) (bytes : List ℕ) → place < length bytes
    → above value place (read_from place (drop place bytes)) ≡ read_from 0 bytes
    → exceeds place (get_or bytes place 0) ≡ false → 128 ≤ get_or bytes place 0 → get_or bytes place 0 < 256
    → above (value + get_or bytes place 0 % 128 * 2 ^ (7 * place)) (place + 1) (read_from (place + 1) (drop (place + 1) bytes)) ≡ read_from 0 bytes
goes_on value place bytes more so_far sound high fits =
    let others : ltb (get_or bytes place 0) 128 ≡ false = le-ltb (get_or bytes place 0) 128 high in
    let group : get_or bytes place 0 % 128 ≡ get_or bytes place 0 - 128 = omega arith in
    let said = rw (others, ← add-one) at (sound_byte value place bytes more so_far sound) in
    rw group (sym (said ∙ above_more value place (get_or bytes place 0 - 128) (read_from (place + 1) (drop (place + 1) bytes))))

-- the bytes end before the varint does
pub runs_out : (value place : ℕ) (bytes : List ℕ) → length bytes ≤ place
    → above value place (read_from place (drop place bytes)) ≡ read_from 0 bytes → read_from 0 bytes ≡ Err End
runs_out value place bytes done so_far = sym so_far ∙ ap (λ (rest : List ℕ). above value place (read_from place rest)) (drop_all place bytes done)

-- a byte with others after it isn't the tenth
pub more_follow : (place byte : ℕ) → place ≤ 9 → exceeds place byte ≡ false → 128 ≤ byte → place + 1 ≤ 9
more_follow place byte few sound high =
    elim (cases_eq place 9) [
      | inl last ↦ absurd (omega (arith, exceeds-not place byte sound last))
      | inr before ↦ omega arith
    ]
