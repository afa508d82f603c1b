-- The loop that reads a varint: what was read so far, before what the bytes from the place on encode.
use Rattle.std.proofs.Common.{◌≡◌, ℕ, suc, ◌+◌, ◌-◌, ◌*◌, ◌%◌, ◌^◌, ◌<◌, ◌≤◌, Bool, true, false, cond, ltb, List, ◌∷◌, length, get_or, drop, Option, Some, None, Result, Ok, Err, eqb, inl, inr, refl, sym, ap, ◌∙◌, arith, add-one}
use Rattle.std.proofs.lemmas.Bool.{cases_eq, cases_lt, lt-ltb, le-ltb}
use Rattle.std.proofs.lemmas.Nat.{or_shifted, or_comm, and_mask, shl_whole, pow-add, mul-le}
use Rattle.std.proofs.lemmas.List.{drop_more, drop_all}
use Rattle.std.specs.Prelude.{bit_or, bit_and}
use Rattle.ipld_cid.specs.declared.error.CidError.{CidError}
use Rattle.ipld_cid.specs.declared.error.CidError.TheVariants.{End, NotShortest, VarintTooLarge}
use Rattle.ipld_cid.specs.Varint.{◌>>=◌, error_at, unless, read_from}

some_is_not_none : {error : CidError} → ◌≡◌ {A = Option CidError} (Some error) None → ⊥
some_is_not_none e = cc

-- a number of `place` groups, and above it what was read
abbrev pub above : ℕ → ℕ → Result (ℕ × List ℕ) CidError → Result (ℕ × List ℕ) CidError
above value place read = read >>= λ high. Ok (value + 2 ^ (7 * place) * high.0, high.1)

pub above_zero : (read : Result (ℕ × List ℕ) CidError) → above 0 0 read ≡ read
above_zero (Ok x) = ap (λ (n : ℕ). Ok (n, x.1)) (omega arith)
above_zero (Err e) = refl

-- one more group
pub above_more : (value place low : ℕ) (read : Result (ℕ × List ℕ) CidError)
    → above value place (read >>= λ high. Ok (low + 128 * high.0, high.1)) ≡ above (value + low * 2 ^ (7 * place)) (place + 1) read
above_more value place low (Err e) = refl
above_more value place low (Ok x) =
    let wider : 2 ^ (7 * (place + 1)) ≡ 2 ^ (7 * place) * 128 = ap (λ (k : ℕ). 2 ^ k) (omega arith) ∙ pow-add 2 (7 * place) 7 in
    ap (λ (n : ℕ). Ok (n, x.1)) (rw wider (omega arith))

-- what the code adds at a place is the group there
pub group_at : (value place byte width : ℕ) → value < 2 ^ (7 * place) → byte % 128 < 2 ^ width → width + 7 * place ≤ 64
    → bit_or value ((bit_and byte 127 * 2 ^ (7 * place)) % 2 ^ 64) ≡ value + byte % 128 * 2 ^ (7 * place)
group_at value place byte width below small capacity =
    rw (and_mask byte 7, shl_whole (byte % 128) width (7 * place) 64 small capacity) (
    or_comm value (byte % 128 * 2 ^ (7 * place)) ∙ or_shifted (byte % 128) (7 * place) value below ∙ omega arith
    )

-- the tenth byte
small_at_9 : (byte : ℕ) → error_at 9 byte ≡ None → byte ≤ 1
small_at_9 byte sound = elim (cases_lt 1 byte) [
  | inl above ↦ absurd (some_is_not_none (ap (λ (b : Bool). cond b (Some VarintTooLarge) (cond (eqb byte 0) (Some NotShortest) None)) (sym (lt-ltb 1 byte above)) ∙ sound))
  | inr le ↦ le
]

-- a byte with no error is a group that fits
pub fits_at : (place byte : ℕ) → place ≤ 9 → byte < 256 → error_at place byte ≡ None → (width : ℕ) × (byte % 128 < 2 ^ width) × (width + 7 * place ≤ 64)
fits_at place byte few fits sound =
    elim (cases_eq place 9) [
      | inl last ↦ (1, omega (arith, small_at_9 byte (rw last at sound)), omega arith)
      | inr before ↦ (7, omega arith, omega arith)
    ]

-- the next byte of the rest
next_byte : (place : ℕ) (bytes : List ℕ) → place < length bytes → read_from place (drop place bytes) ≡ read_from place (get_or bytes place 0 ∷ drop (suc place) bytes)
next_byte place bytes more = ap (read_from place) (rw add-one at (drop_more bytes place 0 more))

-- an error at the place is what reading returns
pub stops : (value place : ℕ) (bytes : List ℕ) (error : CidError) → place < length bytes
    → above value place (read_from place (drop place bytes)) ≡ read_from 0 bytes
    → error_at place (get_or bytes place 0) ≡ Some error → read_from 0 bytes ≡ Err error
stops value place bytes error more so_far found =
    sym so_far ∙ ap (above value place) (next_byte place bytes more)
    ∙ ap (λ (f : Option CidError). above value place (unless f (cond (ltb (get_or bytes place 0) 128) (Ok (get_or bytes place 0, drop (suc place) bytes)) (read_from (suc place) (drop (suc place) bytes) >>= λ high. Ok ((get_or bytes place 0 - 128) + 128 * high.0, high.1))))) found

-- with no error there, what the byte says
sound_byte : (value place : ℕ) (bytes : List ℕ) → place < length bytes
    → above value place (read_from place (drop place bytes)) ≡ read_from 0 bytes
    → error_at place (get_or bytes place 0) ≡ None
    → read_from 0 bytes ≡ above value place (cond (ltb (get_or bytes place 0) 128) (Ok (get_or bytes place 0, drop (suc place) bytes)) (read_from (suc place) (drop (suc place) bytes) >>= λ high. Ok ((get_or bytes place 0 - 128) + 128 * high.0, high.1)))
sound_byte value place bytes more so_far sound =
    sym so_far ∙ ap (above value place) (next_byte place bytes more)
    ∙ ap (λ (f : Option CidError). above value place (unless f (cond (ltb (get_or bytes place 0) 128) (Ok (get_or bytes place 0, drop (suc place) bytes)) (read_from (suc place) (drop (suc place) bytes) >>= λ high. Ok ((get_or bytes place 0 - 128) + 128 * high.0, high.1))))) sound

-- the last byte
pub finishes : (value place : ℕ) (bytes : List ℕ) → place < length bytes
    → above value place (read_from place (drop place bytes)) ≡ read_from 0 bytes
    → error_at place (get_or bytes place 0) ≡ None → get_or bytes place 0 < 128
    → read_from 0 bytes ≡ Ok (value + get_or bytes place 0 % 128 * 2 ^ (7 * place), drop (place + 1) bytes)
finishes value place bytes more so_far sound low =
    let last : ltb (get_or bytes place 0) 128 ≡ true = lt-ltb (get_or bytes place 0) 128 low in
    let small : get_or bytes place 0 % 128 ≡ get_or bytes place 0 = omega arith in
    sound_byte value place bytes more so_far sound ∙ rw (last, small, add-one) (ap (λ (n : ℕ). Ok (n, drop (suc place) bytes)) (omega arith))

-- a byte with others after it
pub goes_on : (value place : ℕ) (bytes : List ℕ) → place < length bytes
    → above value place (read_from place (drop place bytes)) ≡ read_from 0 bytes
    → error_at place (get_or bytes place 0) ≡ None → 128 ≤ get_or bytes place 0 → get_or bytes place 0 < 256
    → above (value + get_or bytes place 0 % 128 * 2 ^ (7 * place)) (place + 1) (read_from (place + 1) (drop (place + 1) bytes)) ≡ read_from 0 bytes
goes_on value place bytes more so_far sound high fits =
    let others : ltb (get_or bytes place 0) 128 ≡ false = le-ltb (get_or bytes place 0) 128 high in
    let group : get_or bytes place 0 % 128 ≡ get_or bytes place 0 - 128 = omega arith in
    let said = rw (others, ← add-one) at (sound_byte value place bytes more so_far sound) in
    rw group (sym (said ∙ above_more value place (get_or bytes place 0 - 128) (read_from (place + 1) (drop (place + 1) bytes))))

-- the bytes end before the varint does
pub runs_out : (value place : ℕ) (bytes : List ℕ) → length bytes ≤ place
    → above value place (read_from place (drop place bytes)) ≡ read_from 0 bytes → read_from 0 bytes ≡ Err End
runs_out value place bytes done so_far = sym so_far ∙ ap (λ (rest : List ℕ). above value place (read_from place rest)) (drop_all place bytes done)

-- the number with one more group
pub below_more : (value place group : ℕ) → value < 2 ^ (7 * place) → group < 128 → value + group * 2 ^ (7 * place) < 2 ^ (7 * (place + 1))
below_more value place group below small =
    let wider : 2 ^ (7 * (place + 1)) ≡ 2 ^ (7 * place) * 128 = ap (λ (k : ℕ). 2 ^ k) (omega arith) ∙ pow-add 2 (7 * place) 7 in
    let groups : (group + 1) * 2 ^ (7 * place) ≤ 128 * 2 ^ (7 * place) = mul-le (group + 1) (2 ^ (7 * place)) 128 (2 ^ (7 * place)) (omega arith) (omega arith) in
    rw wider (omega arith)

-- a byte with others after it isn't the tenth
pub more_follow : (place byte : ℕ) → place ≤ 9 → error_at place byte ≡ None → 128 ≤ byte → place + 1 ≤ 9
more_follow place byte few sound high =
    elim (cases_eq place 9) [
      | inl last ↦ absurd (omega (arith, small_at_9 byte (rw last at sound)))
      | inr before ↦ omega arith
    ]
