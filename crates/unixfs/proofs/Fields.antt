-- Single fields.
use Rattle.std.proofs.Common.{◌≡◌, ℕ, ◌+◌, ◌<◌, ◌≤◌, List, [], ◌∷◌, length, cond, eqb, Bool, true, false, Option, Some, None, Result, Ok, Err, refl, ap, ◌∙◌, arith, length-append, option_map, Bor, ◌^◌}
use Rattle.std.specs.Prelude.{if◌then◌else◌, ◌==◌, IfSome}
use Rattle.pb_wire.specs.declared.error.WireError.{WireError}
use Rattle.pb_wire.specs.Steps.{◌>>=◌}
use Rattle.pb_wire.specs.Reading.{read_varint, split, read_content, after_key, value_after, number_field, content_field}
use Rattle.pb_wire.proofs.Steps.{bind_ok, same_ok}
use Rattle.pb_wire.proofs.Fields.{split_sound}
use Rattle.pb_wire.proofs.Shorter.{varint_shorter}
use Rattle.unixfs.specs.declared.error.UnixFsErrorKind.{UnixFsErrorKind}
use Rattle.unixfs.specs.declared.error.Fault.{Fault}
use Rattle.unixfs.specs.Errors.{of_wire, at, before}
use Rattle.unixfs.specs.Reading.{read_number, read_bytes}

-- ---- values of steps

pub at_ok : {A : Type 0} (left : ℕ) (r : Result A UnixFsErrorKind) (x : A) → at left r ≡ Ok x → r ≡ Ok x
at_ok left (Ok y) x e = cc
at_ok left (Err k) x e = absurd cc

pub at_wire_ok : {A : Type 0} (left : ℕ) (r : Result A WireError) (x : A) → at left (of_wire r) ≡ Ok x → r ≡ Ok x
at_wire_ok left (Ok y) x e = cc
at_wire_ok left (Err k) x e = absurd cc

pub before_ok : {A : Type 0} (more : ℕ) (r : Result A Fault) (x : A) → before more r ≡ Ok x → r ≡ Ok x
before_ok more (Ok y) x e = cc
before_ok more (Err k) x e = absurd cc

-- ---- what follows a field is shorter

chosen_some : (test : Bool) (x y : List ℕ) → ◌≡◌ {A = Option (List ℕ)} (cond test (Some x) None) (Some y) → x ≡ y
chosen_some true x y e = cc
chosen_some false x y e = absurd cc

key_shorter : (key : ℕ) (bytes rest : List ℕ) → after_key key bytes ≡ Ok (Some rest) → length rest < length bytes
unfolding after_key read_varint
key_shorter key [] rest e = absurd cc
key_shorter key (b ∷ bytes) rest e =
    let found = bind_ok (read_varint (b ∷ bytes)) (λ found. Ok (if found.0 == key then Some found.1 else None)) (Some rest) e in
    let is = chosen_some (eqb found.0.0 key) found.0.1 rest (same_ok (λ (o : Option (List ℕ)). cond (eqb found.0.0 key) (Some found.0.1) None ≡ o) (cond (eqb found.0.0 key) (Some found.0.1) None) (Some rest) found.2 refl) in
    let less = varint_shorter 0 found.0.0 (b ∷ bytes) found.0.1 found.1 in
    let same : length found.0.1 ≡ length rest = ap length is in
    omega arith

-- a value that was read after a key
value_read : {A : Type 0} (read : List ℕ → Result (A × List ℕ) WireError) (bytes : List ℕ) (found : Option (List ℕ)) (x : A) (rest : List ℕ) → value_after read bytes found ≡ Ok (Some x, rest)
    → (after : List ℕ) × (found ≡ Some after) × (read after ≡ Ok (x, rest))
value_read {A} read bytes None x rest e = absurd (same_ok (λ (p : Option A × List ℕ). IfSome p.0 (λ y. ⊥)) (None, bytes) (Some x, rest) e tt)
value_read {A} read bytes (Some after) x rest e =
    let found = bind_ok (read after) (λ found. Ok (Some found.0, found.1)) (Some x, rest) e in
    (after, refl, same_ok (λ (p : Option A × List ℕ). IfSome p.0 (λ y. read after ≡ Ok (y, p.1))) (Some found.0.0, found.0.1) (Some x, rest) found.2 found.1)

pub number_shorter : (key n : ℕ) (bytes rest : List ℕ) → read_number key bytes ≡ Ok (Some n, rest) → length rest < length bytes
unfolding read_number number_field read_varint
number_shorter key n bytes rest e =
    let found = bind_ok (after_key key bytes) (value_after read_varint bytes) (Some n, rest) (at_wire_ok (length bytes) (after_key key bytes >>= value_after read_varint bytes) (Some n, rest) e) in
    let read = value_read read_varint bytes found.0 n rest found.2 in
    let after = key_shorter key bytes read.0 (found.1 ∙ ap Ok read.1) in
    let less = varint_shorter 0 n read.0 rest read.2 in
    omega arith

-- a content, and what follows it
pub bytes_within : (key : ℕ) (bytes c rest : List ℕ) → read_bytes key bytes ≡ Ok (Some c, rest) → length c + length rest ≤ length bytes
unfolding read_bytes content_field read_content read_varint
bytes_within key bytes c rest e =
    let found = bind_ok (after_key key bytes) (value_after read_content bytes) (Some c, rest) (at_wire_ok (length bytes) (after_key key bytes >>= value_after read_content bytes) (Some c, rest) e) in
    let read = value_read read_content bytes found.0 c rest found.2 in
    let after = key_shorter key bytes read.0 (found.1 ∙ ap Ok read.1) in
    let size = bind_ok (read_varint read.0) (λ size. split size.0 size.1) (c, rest) read.2 in
    let parts = split_sound size.0.0 size.0.1 c rest size.2 in
    let less = varint_shorter 0 size.0.0 read.0 size.0.1 size.1 in
    omega (arith, ap length parts.1, length-append c rest)

-- a content that may be there, and what follows it
pub bytes_fit : (bytes : List ℕ) (found : Option (Bor (List ℕ))) (rest : List ℕ) → length bytes < 2 ^ 64 → read_bytes 66 bytes ≡ Ok (option_map (λ c. c.now) found, rest)
    → IfSome found (λ c. length c.now + length rest < 2 ^ 64)
bytes_fit bytes None rest short e = tt
bytes_fit bytes (Some c) rest short e = let within = bytes_within 66 bytes c.now rest e in omega arith
