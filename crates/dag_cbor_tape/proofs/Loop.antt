-- The loop over the entries of a tape.
use Rattle.std.proofs.Common.{◌≡◌, ℕ, List, [], ◌∷◌, ◌++◌, length, Option, Some, None, Result, Ok, Err, refl, sym, ap, subst, ◌∙◌, append_assoc, arith}
use Rattle.std.specs.Prelude.{MatchOption}
use Rattle.std.proofs.lemmas.List.{append-nil}
use Rattle.dag_cbor_blocks.specs.declared.tape.TapeEntry.{TapeEntry}
use Rattle.dag_cbor_tape.specs.declared.error.Fault.{Fault}
use Rattle.dag_cbor_tape.specs.Errors.{◌>>=◌}
use Rattle.dag_cbor_tape.specs.Structure.{values}
use Rattle.dag_cbor_tape.specs.Encoding.{encoded, all_encoded, in_tape, block_of}

-- behind an entry of which this is written
joined : (before b : List ℕ) (r : Result (List ℕ) Fault) → ((r >>= λ more. Ok (b ++ more)) >>= λ more. Ok (before ++ more)) ≡ (r >>= λ more. Ok ((before ++ b) ++ more))
joined before b (Ok more) = ap Ok (sym (append_assoc before b more))
joined before b (Err f) = refl

-- what comes before entries
abbrev pub Precedes : List ℕ → List ℕ → List TapeEntry → Result (List ℕ) Fault → Type 0
Precedes over before es whole = (all_encoded over es >>= λ more. Ok (before ++ more)) ≡ whole

step : (over : List ℕ) (e : TapeEntry) (es : List TapeEntry) (before b after : List ℕ) (whole : Result (List ℕ) Fault)
    → encoded over e es ≡ Ok b → after ≡ before ++ b → Precedes over before (e ∷ es) whole → Precedes over after es whole
step over e es before b after whole here is so_far =
    ap (λ (a : List ℕ). all_encoded over es >>= λ more. Ok (a ++ more)) is
    ∙ sym (joined before b (all_encoded over es))
    ∙ sym (ap (λ (r : Result (List ℕ) Fault). (r >>= λ b. all_encoded over es >>= λ more. Ok (b ++ more)) >>= λ more. Ok (before ++ more)) here)
    ∙ so_far

pub loop_step : (over : List ℕ) (e : TapeEntry) (es rest : List TapeEntry) (before b after : List ℕ) (whole : Result (List ℕ) Fault)
    → rest ≡ e ∷ es → encoded over e es ≡ Ok b → after ≡ before ++ b → Precedes over before rest whole → Precedes over after es whole
loop_step over e es rest before b after whole parts here is so_far =
    step over e es before b after whole here is (subst (λ (xs : List TapeEntry). Precedes over before xs whole) parts so_far)

-- an entry is at fault
stops : (over : List ℕ) (e : TapeEntry) (es : List TapeEntry) (before : List ℕ) (f : Fault) (whole : Result (List ℕ) Fault)
    → encoded over e es ≡ Err f → Precedes over before (e ∷ es) whole → whole ≡ Err f
stops over e es before f whole here so_far =
    sym so_far ∙ ap (λ (r : Result (List ℕ) Fault). (r >>= λ b. all_encoded over es >>= λ more. Ok (b ++ more)) >>= λ more. Ok (before ++ more)) here

pub loop_stops : (over : List ℕ) (e : TapeEntry) (es rest : List TapeEntry) (before : List ℕ) (f : Fault) (whole : Result (List ℕ) Fault)
    → rest ≡ e ∷ es → encoded over e es ≡ Err f → Precedes over before rest whole → whole ≡ Err f
loop_stops over e es rest before f whole parts here so_far =
    stops over e es before f whole here (subst (λ (xs : List TapeEntry). Precedes over before xs whole) parts so_far)

-- no entry is left
pub loop_ends : (over before : List ℕ) (rest : List TapeEntry) (whole : Result (List ℕ) Fault) → length rest ≡ 0 → Precedes over before rest whole → whole ≡ Ok before
loop_ends over before [] whole none so_far = sym so_far ∙ ap Ok (append-nil before)
loop_ends over before (e ∷ es) whole none so_far = absurd (omega arith)

-- the other case
pub not_some : {A : Type 0} (o : Option A) (P : Type 0) (Q : A → Type 0) → ((x : A) → o ≡ Some x → ⊥) → MatchOption o P Q → P
not_some None P Q none is = is
not_some (Some x) P Q none is = absurd (none x refl)

pub not_err : (r : Result (Unit {0}) Fault) → ((f : Fault) → r ≡ Err f → ⊥) → r ≡ Ok tt
not_err (Ok done) none = refl
not_err (Err f) none = absurd (none f refl)

-- the block of entries that are one value
pub block_is : (over : List ℕ) (es : List TapeEntry) (r : Result (List ℕ) Fault) → values 1 es ≡ Ok tt → all_encoded over es ≡ r → block_of over es ≡ in_tape (length es) r
unfolding block_of
block_is over es r one is =
    ap (λ (v : Result (Unit {0}) Fault). in_tape (length es) (v >>= λ done. all_encoded over es)) one ∙ ap (in_tape (length es)) is

-- and of those that aren't
pub block_fails : (over : List ℕ) (es : List TapeEntry) (f : Fault) → values 1 es ≡ Err f → block_of over es ≡ in_tape (length es) (Err f)
unfolding block_of
block_fails over es f none = ap (λ (v : Result (Unit {0}) Fault). in_tape (length es) (v >>= λ done. all_encoded over es)) none

-- nothing before
pub nothing_before : (before : List ℕ) (r : Result (List ℕ) Fault) → before ≡ [] → (r >>= λ more. Ok (before ++ more)) ≡ r
nothing_before before (Ok more) is = ap (λ (b : List ℕ). Ok (b ++ more)) is
nothing_before before (Err f) is = refl
