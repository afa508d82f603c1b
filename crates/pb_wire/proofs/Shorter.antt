-- What follows a value has fewer bytes.
use Rattle.std.proofs.Common.{◌≡◌, ℕ, suc, ◌+◌, ◌-◌, ◌*◌, ◌<◌, ◌≤◌, cond, ltb, List, [], ◌∷◌, length, take, drop, Result, Ok, inl, inr, refl, arith, length-drop}
use Rattle.std.proofs.lemmas.Bool.{cases_lt, lt-ltb, le-ltb}
use Rattle.pb_wire.specs.declared.error.WireError.{WireError}
use Rattle.pb_wire.specs.declared.error.WireError.TheVariants.{VarintTooLarge}
use Rattle.pb_wire.specs.Steps.{◌>>=◌}
use Rattle.pb_wire.specs.Reading.{exceeds, read_from, read_varint, split, read_content}
use Rattle.pb_wire.proofs.Steps.{bind_ok, same_ok}
use Rattle.pb_wire.proofs.Varints.{unless_ok}

-- the second parts of equal pairs are as long
same_length : {A : Type 0} (a b : A) (x y : List ℕ) → ◌≡◌ {A = Result (A × List ℕ) WireError} (Ok (a, x)) (Ok (b, y)) → length x ≡ length y
same_length {A} a b x y e = same_ok (λ (p : A × List ℕ). length x ≡ length p.1) (a, x) (b, y) e refl

pub varint_shorter : (place n : ℕ) (bytes rest : List ℕ) → read_from place bytes ≡ Ok (n, rest) → length rest < length bytes
varint_shorter place n [] rest read = absurd cc
varint_shorter place n (b ∷ bytes) rest read =
    let sound = unless_ok (exceeds place b) VarintTooLarge (cond (ltb b 128) (Ok (b, bytes)) (read_from (suc place) bytes >>= λ high. Ok ((b - 128) + 128 * high.0, high.1))) (n, rest) read in
    elim (cases_lt b 128) [
      | inl small ↦
          let is = rw (lt-ltb b 128 small) at sound.1 in
          let same = same_length b n bytes rest is in
          omega arith
      | inr large ↦
          let is = rw (le-ltb b 128 large) at sound.1 in
          let high = bind_ok (read_from (suc place) bytes) (λ high. Ok ((b - 128) + 128 * high.0, high.1)) (n, rest) is in
          let same = same_length ((b - 128) + 128 * high.0.0) n high.0.1 rest high.2 in
          let less = varint_shorter (suc place) high.0.0 bytes high.0.1 high.1 in
          omega arith
    ]

split_shorter : (size : ℕ) (bytes c rest : List ℕ) → split size bytes ≡ Ok (c, rest) → length rest ≤ length bytes
split_shorter size bytes c rest e =
    elim (cases_lt (length bytes) size) [
      | inl short ↦ let is = rw (lt-ltb (length bytes) size short) at e in absurd cc
      | inr enough ↦
          let is = rw (le-ltb (length bytes) size enough) at e in
          let same = same_length (take size bytes) c (drop size bytes) rest is in
          omega (arith, length-drop size bytes)
    ]

pub content_shorter : (bytes c rest : List ℕ) → read_content bytes ≡ Ok (c, rest) → length rest < length bytes
unfolding read_content read_varint
content_shorter bytes c rest e =
    let size = bind_ok (read_from 0 bytes) (λ size. split size.0 size.1) (c, rest) e in
    let less = varint_shorter 0 size.0.0 bytes size.0.1 size.1 in
    let no_more = split_shorter size.0.0 size.0.1 c rest size.2 in
    omega arith
