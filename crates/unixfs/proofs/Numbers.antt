-- The loop over the numbers of a repeated field.
use Rattle.std.proofs.Common.{◌≡◌, ℕ, zero, suc, ◌+◌, ◌<◌, List, [], ◌∷◌, ◌++◌, length, Option, Some, None, Result, Ok, Err, refl, sym, ap, ◌∙◌, arith, append_assoc, length-append}
use Rattle.std.proofs.lemmas.List.{append-nil}
use Rattle.pb_wire.specs.Steps.{◌>>=◌}
use Rattle.pb_wire.specs.Reading.{number_field, after_key}
use Rattle.pb_wire.proofs.Steps.{same_then, same_ok}
use Rattle.unixfs.specs.declared.error.Fault.{Fault}
use Rattle.unixfs.specs.Reading.{read_number, and_others, numbers_within, read_numbers}
use Rattle.unixfs.proofs.Fields.{number_shorter}

-- these numbers before those that were read
abbrev pub after_these : List ℕ → Result (List ℕ × List ℕ) Fault → Result (List ℕ × List ℕ) Fault
after_these these read = read >>= λ others. Ok (these ++ others.0, others.1)

pub after_none : (read : Result (List ℕ × List ℕ) Fault) → after_these [] read ≡ read
after_none (Ok x) = refl
after_none (Err e) = refl

-- what follows a field is read alike by any number of steps that is enough
same_others : (o : Option ℕ) (rest : List ℕ) (x y : Result (List ℕ × List ℕ) Fault) → ((n : ℕ) → o ≡ Some n → x ≡ y) → and_others o rest x ≡ and_others o rest y
same_others None rest x y same = refl
same_others (Some n) rest x y same = ap (λ (r : Result (List ℕ × List ℕ) Fault). r >>= λ ns. Ok (n ∷ ns.0, ns.1)) (same n refl)

within_enough : (more others key : ℕ) (bytes : List ℕ) → length bytes < more → length bytes < others → numbers_within more key bytes ≡ numbers_within others key bytes
within_enough zero others key bytes few many = absurd (omega arith)
within_enough (suc more) zero key bytes few many = absurd (omega arith)
within_enough (suc more) (suc others) key bytes few many =
    same_then (read_number key bytes)
    (λ found. and_others found.0 found.1 (numbers_within more key found.1))
    (λ found. and_others found.0 found.1 (numbers_within others key found.1))
    (λ found read.
    same_others found.0 found.1 (numbers_within more key found.1) (numbers_within others key found.1) (λ n is.
    let less = number_shorter key n bytes found.1 (read ∙ ap (λ (o : Option ℕ). Ok (o, found.1)) is) in
    within_enough more others key found.1 (omega arith) (omega arith)))

-- one step, and then the others
unwound : (key : ℕ) (bytes : List ℕ) → read_numbers key bytes ≡ (read_number key bytes >>= λ found. and_others found.0 found.1 (read_numbers key found.1))
unfolding read_numbers
unwound key bytes =
    same_then (read_number key bytes)
    (λ found. and_others found.0 found.1 (numbers_within (length bytes) key found.1))
    (λ found. and_others found.0 found.1 (numbers_within (suc (length found.1)) key found.1))
    (λ found read.
    same_others found.0 found.1 (numbers_within (length bytes) key found.1) (numbers_within (suc (length found.1)) key found.1) (λ n is.
    let less = number_shorter key n bytes found.1 (read ∙ ap (λ (o : Option ℕ). Ok (o, found.1)) is) in
    within_enough (length bytes) (suc (length found.1)) key found.1 (omega arith) (omega arith)))

-- a number was read
pub numbers_go_on : (key n : ℕ) (bytes rest : List ℕ) → read_number key bytes ≡ Ok (Some n, rest) → read_numbers key bytes ≡ (read_numbers key rest >>= λ ns. Ok (n ∷ ns.0, ns.1))
numbers_go_on key n bytes rest read =
    unwound key bytes ∙ ap (λ (r : Result (Option ℕ × List ℕ) Fault). r >>= λ found. and_others found.0 found.1 (read_numbers key found.1)) read

-- no number follows
pub numbers_end : (key : ℕ) (bytes rest : List ℕ) → read_number key bytes ≡ Ok (None, rest) → read_numbers key bytes ≡ Ok ([], rest)
numbers_end key bytes rest read =
    unwound key bytes ∙ ap (λ (r : Result (Option ℕ × List ℕ) Fault). r >>= λ found. and_others found.0 found.1 (read_numbers key found.1)) read

-- a field was at fault
pub numbers_stop : (key : ℕ) (bytes : List ℕ) (fault : Fault) → read_number key bytes ≡ Err fault → read_numbers key bytes ≡ Err fault
numbers_stop key bytes fault read =
    unwound key bytes ∙ ap (λ (r : Result (Option ℕ × List ℕ) Fault). r >>= λ found. and_others found.0 found.1 (read_numbers key found.1)) read

-- without bytes there is no number
pub numbers_empty : (key : ℕ) (bytes : List ℕ) → length bytes ≡ 0 → read_numbers key bytes ≡ Ok ([], bytes)
unfolding read_numbers read_number number_field after_key
numbers_empty key [] none = refl
numbers_empty key (b ∷ bytes) none = absurd (omega arith)

-- one number more
one_more : (these : List ℕ) (n : ℕ) (r : Result (List ℕ × List ℕ) Fault) → after_these (these ++ n ∷ []) r ≡ after_these these (r >>= λ ns. Ok (n ∷ ns.0, ns.1))
one_more these n (Ok x) = ap (λ (ns : List ℕ). Ok (ns, x.1)) (append_assoc these (n ∷ []) x.0)
one_more these n (Err e) = refl

-- ---- the loop

pub loop_step : (key n : ℕ) (these more bytes rest all : List ℕ) → after_these these (read_numbers key bytes) ≡ read_numbers key all → read_number key bytes ≡ Ok (Some n, rest) → more ≡ these ++ n ∷ []
    → after_these more (read_numbers key rest) ≡ read_numbers key all
loop_step key n these more bytes rest all so_far read is =
    ap (λ (x : List ℕ). after_these x (read_numbers key rest)) is ∙ one_more these n (read_numbers key rest) ∙ ap (after_these these) (sym (numbers_go_on key n bytes rest read)) ∙ so_far

pub loop_ends : (key : ℕ) (these bytes rest all : List ℕ) → after_these these (read_numbers key bytes) ≡ read_numbers key all → read_numbers key bytes ≡ Ok ([], rest) → read_numbers key all ≡ Ok (these, rest)
loop_ends key these bytes rest all so_far read =
    sym so_far ∙ ap (after_these these) read ∙ ap (λ (ns : List ℕ). Ok (ns, rest)) (append-nil these)

pub loop_stops : (key : ℕ) (these bytes all : List ℕ) (fault : Fault) → after_these these (read_numbers key bytes) ≡ read_numbers key all → read_number key bytes ≡ Err fault → read_numbers key all ≡ Err fault
loop_stops key these bytes all fault so_far read = sym so_far ∙ ap (after_these these) (numbers_stop key bytes fault read)

-- a fault isn't a value
pub loop_failed : (key : ℕ) (all rest : List ℕ) (fault : Fault) → read_numbers key all ≡ Err fault → read_numbers key all ≡ Ok ([], rest) → ⊥
loop_failed key all rest fault stopped read = let both = sym stopped ∙ read in absurd cc

some_number : (these : List ℕ) (n : ℕ) (r : Result (List ℕ × List ℕ) Fault) (last : List ℕ) → after_these these (r >>= λ ns. Ok (n ∷ ns.0, ns.1)) ≡ Ok ([], last) → ⊥
some_number these n (Err e) last is = absurd cc
some_number these n (Ok x) last is =
    let some : 0 < length (these ++ n ∷ x.0) = omega (arith, length-append these (n ∷ x.0)) in
    let none : 0 < 0 = same_ok (λ (p : List ℕ × List ℕ). 0 < length p.0) (these ++ n ∷ x.0, x.1) ([], last) is some in
    omega arith

-- there is a number
pub loop_has : (key n : ℕ) (these bytes rest all last : List ℕ) → after_these these (read_numbers key bytes) ≡ read_numbers key all → read_number key bytes ≡ Ok (Some n, rest) → read_numbers key all ≡ Ok ([], last) → ⊥
loop_has key n these bytes rest all last so_far read none =
    some_number these n (read_numbers key rest) last (sym (ap (after_these these) (numbers_go_on key n bytes rest read)) ∙ so_far ∙ none)
