-- Times: what is read is encoded, and what is encoded is read.
use Rattle.std.proofs.Common.{◌≡◌, ℕ, ℤ, ◌+◌, ◌<◌, List, [], ◌++◌, length, Option, Some, None, Result, Ok, inl, inr, refl, sym, ap, subst, ◌∙◌, arith}
use Rattle.std.specs.Int.{w64, cast_signed}
use Rattle.std.proofs.lemmas.List.{append-nil}
use Rattle.std.proofs.lemmas.Bool.{cases_eq, cases_lt, lt-ltb, le-ltb}
use Rattle.ipld_cid.specs.Multihash.{IsBytes}
use Rattle.pb_wire.specs.declared.error.WireError.{WireError}
use Rattle.pb_wire.specs.Steps.{◌>>=◌}
use Rattle.pb_wire.specs.Wire.{IsNumber, IsNumberOf, IsFixed32Of}
use Rattle.pb_wire.specs.Reading.{after_key, fixed32_field}
use Rattle.pb_wire.proofs.Steps.{bind_ok, same_ok}
use Rattle.pb_wire.proofs.Varints.{Front}
use Rattle.pb_wire.proofs.Fields.{other_key, content_opened}
use Rattle.pb_wire.proofs.Optional.{ContentOfFront, fixed32_sound, fixed32_complete, From}
use Rattle.unixfs.specs.declared.error.UnixFsErrorKind.{UnixFsErrorKind}
use Rattle.unixfs.specs.declared.error.Fault.{Fault}
use Rattle.unixfs.specs.Errors.{of_wire, at, before}
use Rattle.unixfs.specs.Data.{TimeParts, fraction_of, IsTime, IsTimeOf}
use Rattle.unixfs.specs.Reading.{read_number, read_bytes, read_end, seconds_in, read_seconds, fraction_in, read_fraction, is_time_key, read_time, time_in, read_mtime}
use Rattle.unixfs.proofs.Fields.{at_ok, at_wire_ok, before_ok}
use Rattle.unixfs.proofs.Values.{number_front, number_there, bytes_front, bytes_back, end_sound}

-- ---- seconds

-- seconds, at the front
record SecondsFront (s : ℤ) (bytes rest : List ℕ) : Type 0 where
  number : ℕ
  are : s ≡ cast_signed w64 number
  front : Front (IsNumber 1 number) bytes rest

seconds_found : (o : Option ℕ) (s : ℤ) (bytes rest : List ℕ) → seconds_in o ≡ Ok s → Front (IsNumberOf 1 o) bytes rest → SecondsFront s bytes rest
unfolding seconds_in
seconds_found None s bytes rest e front = absurd cc
seconds_found (Some n) s bytes rest e front =
    same_ok (λ (x : ℤ). SecondsFront x bytes rest) (cast_signed w64 n) s e
    (record { number = n; are = refl; front = record { taken = front.taken; is = front.is; parts = front.parts; rest_fits = front.rest_fits } })

seconds_front : (bytes : List ℕ) (s : ℤ) (rest : List ℕ) → IsBytes bytes → read_seconds bytes ≡ Ok (s, rest) → SecondsFront s bytes rest
unfolding read_seconds
seconds_front bytes s rest whole e =
    let found = bind_ok (read_number 8 bytes) (λ found. at (length bytes) (seconds_in found.0) >>= λ s. Ok (s, found.1)) (s, rest) e in
    let is = bind_ok (at (length bytes) (seconds_in found.0.0)) (λ s. Ok (s, found.0.1)) (s, rest) found.2 in
    let front = number_front 1 bytes found.0.0 found.0.1 whole found.1 in
    same_ok (λ (p : ℤ × List ℕ). SecondsFront p.0 bytes p.1) (is.0, found.0.1) (s, rest) is.2
    (seconds_found found.0.0 is.0 bytes found.0.1 (at_ok (length bytes) (seconds_in found.0.0) is.0 is.1) front)

seconds_back : (n : ℕ) (s : ℤ) (taken rest : List ℕ) → s ≡ cast_signed w64 n → IsNumber 1 n taken → read_seconds (taken ++ rest) ≡ Ok (s, rest)
unfolding read_seconds seconds_in
seconds_back n s taken rest are is =
    ap (λ (r : Result (Option ℕ × List ℕ) Fault). r >>= λ found. at (length (taken ++ rest)) (seconds_in found.0) >>= λ s. Ok (s, found.1)) (number_there 1 n taken rest is)
    ∙ ap (λ (x : ℤ). Ok (x, rest)) (sym are)

-- ---- nanoseconds

-- a number of nanoseconds that isn't 0
pub fraction_some : (n : ℕ) → (n ≡ 0 → ⊥) → fraction_of n ≡ Some n
fraction_some n not_zero = rw (other_key n 0 not_zero) refl

fraction_in-sound : (o : Option ℕ) (n : ℕ) → fraction_in o ≡ Ok n → (o ≡ fraction_of n) × (n < 1000000000)
unfolding fraction_in
fraction_in-sound None n e = same_ok (λ (x : ℕ). (None ≡ fraction_of x) × (x < 1000000000)) 0 n e (refl, omega arith)
fraction_in-sound (Some m) n e =
    elim (cases_eq m 0) [
      | inl none ↦ let is = rw none at e in absurd cc
      | inr some ↦
          elim (cases_lt 999999999 m) [
            | inl large ↦ let is = rw (other_key m 0 some, lt-ltb 999999999 m large) at e in absurd cc
            | inr small ↦
                let is = rw (other_key m 0 some, le-ltb 999999999 m small) at e in
                same_ok (λ (x : ℕ). (Some m ≡ fraction_of x) × (x < 1000000000)) m n is (sym (fraction_some m some), omega arith)
          ]
    ]

fraction_in-complete : (n : ℕ) → n < 1000000000 → fraction_in (fraction_of n) ≡ Ok n
unfolding fraction_in
fraction_in-complete n small =
    elim (cases_eq n 0) [
      | inl none ↦ ap (λ (x : ℕ). fraction_in (fraction_of x)) none ∙ ap Ok (sym none)
      | inr some ↦ rw (fraction_some n some, other_key n 0 some, le-ltb 999999999 n (omega arith)) refl
    ]

-- nanoseconds, at the front
record FractionFront (n : ℕ) (bytes rest : List ℕ) : Type 0 where
  below : n < 1000000000
  front : Front (IsFixed32Of 2 (fraction_of n)) bytes rest

fraction_front : (bytes : List ℕ) (n : ℕ) (rest : List ℕ) → IsBytes bytes → read_fraction bytes ≡ Ok (n, rest) → FractionFront n bytes rest
unfolding read_fraction
fraction_front bytes n rest whole e =
    let found = bind_ok (at (length bytes) (of_wire (fixed32_field 21 bytes))) (λ found. at (length bytes) (fraction_in found.0) >>= λ n. Ok (n, found.1)) (n, rest) e in
    let is = bind_ok (at (length bytes) (fraction_in found.0.0)) (λ n. Ok (n, found.0.1)) (n, rest) found.2 in
    let said = fraction_in-sound found.0.0 is.0 (at_ok (length bytes) (fraction_in found.0.0) is.0 is.1) in
    let front = fixed32_sound 2 bytes found.0.0 found.0.1 whole (at_wire_ok (length bytes) (fixed32_field 21 bytes) found.0 found.1) in
    same_ok (λ (p : ℕ × List ℕ). FractionFront p.0 bytes p.1) (is.0, found.0.1) (n, rest) is.2
    (record { below = said.1; front = subst (λ (o : Option ℕ). Front (IsFixed32Of 2 o) bytes found.0.1) said.0 front })

fraction_back : (n : ℕ) (taken rest : List ℕ) → n < 1000000000 → IsFixed32Of 2 (fraction_of n) taken → after_key 21 rest ≡ Ok None → read_fraction (taken ++ rest) ≡ Ok (n, rest)
unfolding read_fraction
fraction_back n taken rest small is none =
    ap (λ (r : Result (Option ℕ × List ℕ) WireError). at (length (taken ++ rest)) (of_wire r) >>= λ found. at (length (taken ++ rest)) (fraction_in found.0) >>= λ n. Ok (n, found.1)) (fixed32_complete 2 (fraction_of n) taken rest is none)
    ∙ ap (λ (r : Result ℕ UnixFsErrorKind). at (length (taken ++ rest)) r >>= λ n. Ok (n, rest)) (fraction_in-complete n small)

-- ---- a time

time_sound : (bytes : List ℕ) (t : TimeParts) → IsBytes bytes → read_time bytes ≡ Ok t → IsTime t bytes
unfolding read_time
time_sound bytes t whole e =
    let seconds = bind_ok (read_seconds bytes) (λ seconds. read_fraction seconds.1 >>= λ fraction. read_end is_time_key fraction.1 >>= λ end. Ok (record { seconds = seconds.0; nanoseconds = fraction.0 })) t e in
    let fraction = bind_ok (read_fraction seconds.0.1) (λ fraction. read_end is_time_key fraction.1 >>= λ end. Ok (record { seconds = seconds.0.0; nanoseconds = fraction.0 })) t seconds.2 in
    let end = bind_ok (read_end is_time_key fraction.0.1) (λ end. Ok (record { seconds = seconds.0.0; nanoseconds = fraction.0.0 })) t fraction.2 in
    let first = seconds_front bytes seconds.0.0 seconds.0.1 whole seconds.1 in
    let second = fraction_front seconds.0.1 fraction.0.0 fraction.0.1 first.front.rest_fits fraction.1 in
    let none = end_sound is_time_key fraction.0.1 end.1 in
    same_ok (λ (x : TimeParts). IsTime x bytes) (record { seconds = seconds.0.0; nanoseconds = fraction.0.0 }) t end.2 (record {
      number = first.number;
      seconds = first.front.taken;
      fraction = second.front.taken;
      seconds_are = first.are;
      seconds_encoded = first.front.is;
      below = second.below;
      fraction_encoded = second.front.is;
      encoded = first.front.parts ∙ ap (λ (x : List ℕ). first.front.taken ++ x) (second.front.parts ∙ ap (λ (x : List ℕ). second.front.taken ++ x) none ∙ append-nil second.front.taken);
    })

time_complete : (bytes : List ℕ) (t : TimeParts) → IsTime t bytes → read_time bytes ≡ Ok t
unfolding read_time read_end after_key
time_complete bytes t is =
    let first = seconds_back is.number t.seconds is.seconds (is.fraction ++ []) is.seconds_are is.seconds_encoded in
    let second = fraction_back t.nanoseconds is.fraction [] is.below is.fraction_encoded refl in
    ap read_time (is.encoded ∙ ap (λ (x : List ℕ). is.seconds ++ x) (sym (append-nil is.fraction))) ∙ rw (first, second) refl

-- ---- the field of a time

mtime_found : (bytes : List ℕ) (found : Option (List ℕ)) (after : List ℕ) (o : Option TimeParts) → ContentOfFront 8 found bytes after → time_in (length after) found ≡ Ok o → Front (IsTimeOf o) bytes after
unfolding time_in
mtime_found bytes None after o front e =
    same_ok (λ (x : Option TimeParts). Front (IsTimeOf x) bytes after) None o e (record { taken = front.taken; is = front.is; parts = front.parts; rest_fits = front.rest_fits })
mtime_found bytes (Some message) after o front e =
    let found = bind_ok (before (length after) (read_time message)) (λ t. Ok (Some t)) o e in
    let time = time_sound message found.0 front.content_fits (before_ok (length after) (read_time message) found.0 found.1) in
    same_ok (λ (x : Option TimeParts). Front (IsTimeOf x) bytes after) (Some found.0) o found.2
    (record { taken = front.taken; is = (message, time, front.is); parts = front.parts; rest_fits = front.rest_fits })

pub mtime_front : (bytes : List ℕ) (o : Option TimeParts) (rest : List ℕ) → IsBytes bytes → read_mtime bytes ≡ Ok (o, rest) → Front (IsTimeOf o) bytes rest
unfolding read_mtime
mtime_front bytes o rest whole e =
    let found = bind_ok (read_bytes 66 bytes) (λ found. time_in (length found.1) found.0 >>= λ t. Ok (t, found.1)) (o, rest) e in
    let is = bind_ok (time_in (length found.0.1) found.0.0) (λ t. Ok (t, found.0.1)) (o, rest) found.2 in
    let front = bytes_front 8 bytes found.0.0 found.0.1 whole found.1 in
    same_ok (λ (p : Option TimeParts × List ℕ). Front (IsTimeOf p.0) bytes p.1) (is.0, found.0.1) (o, rest) is.2 (mtime_found bytes found.0.0 found.0.1 is.0 front is.1)

pub mtime_back : (o : Option TimeParts) (taken rest : List ℕ) → IsTimeOf o taken → after_key 66 rest ≡ Ok None → read_mtime (taken ++ rest) ≡ Ok (o, rest)
unfolding read_mtime time_in
mtime_back None taken rest is none =
    ap (λ (r : Result (Option (List ℕ) × List ℕ) Fault). r >>= λ found. time_in (length found.1) found.0 >>= λ t. Ok (t, found.1)) (bytes_back 8 None taken rest is none)
mtime_back (Some t) taken rest is none =
    ap (λ (r : Result (Option (List ℕ) × List ℕ) Fault). r >>= λ found. time_in (length found.1) found.0 >>= λ t. Ok (t, found.1)) (bytes_back 8 (Some is.0) taken rest is.2 none)
    ∙ ap (λ (r : Result TimeParts Fault). (before (length rest) r >>= λ t. Ok (Some t)) >>= λ t. Ok (t, rest)) (time_complete is.0 t is.1)

pub from_mtime : (o : Option TimeParts) (taken rest : List ℕ) → IsTimeOf o taken → From 66 rest → From 66 (taken ++ rest)
from_mtime None taken rest is others = subst (λ (x : List ℕ). From 66 (x ++ rest)) (sym is) others
from_mtime (Some t) taken rest is others = inr (66, is.2.key, is.2.size ++ (is.0 ++ rest), omega arith, is.2.key_encoded, content_opened 8 is.0 taken rest is.2)
