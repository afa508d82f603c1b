-- The loops over the values of a list and the pairs of a map.
use Rattle.std.proofs.Common.{◌≡◌, ℕ, zero, suc, ◌-◌, ◌<◌, Bool, true, false, List, length, Option, Some, Result, Ok, sym, ap, ◌∙◌, arith}
use Rattle.std.specs.Prelude.{if◌then◌else◌}
use Rattle.dag_cbor_format.specs.KeysAscend.{follows}
use Rattle.dag_cbor_format.specs.Reading.{and_key}
use Rattle.dag_cbor_blocks.specs.declared.tape.TapeEntry.{TapeEntry}
use Rattle.dag_cbor_tape.specs.declared.error.Fault.{Fault}
use Rattle.dag_cbor_tape.specs.Errors.{◌>>=◌}
use Rattle.dag_cbor_tape.specs.Structure.{after_value, values, after_key, is_new, pairs, ascending}

-- a value more
pub values_step : (n : ℕ) (es rest : List TapeEntry) (whole : Result (Unit {0}) Fault) → 0 < n → after_value es ≡ Ok rest → values n es ≡ whole → values (n - 1) rest ≡ whole
values_step zero es rest whole some here so_far = absurd (omega arith)
values_step (suc n) es rest whole some here so_far =
    let less : suc n - 1 ≡ n = omega arith in
    ap (λ (k : ℕ). values k rest) less ∙ sym (ap (λ (r : Result (List TapeEntry) Fault). r >>= values n) here) ∙ so_far

-- a pair more
pub pairs_step : (over : List ℕ) (n : ℕ) (seen : List (List ℕ)) (es after rest : List TapeEntry) (key : List ℕ) (d : Unit {0}) (whole : Result (Unit {0}) Fault) → 0 < n
    → after_key over es ≡ Ok (key, after) → is_new seen key (length es) ≡ Ok d → after_value after ≡ Ok rest → pairs over n seen es ≡ whole → pairs over (n - 1) (and_key key seen) rest ≡ whole
pairs_step over zero seen es after rest key d whole some here new there so_far = absurd (omega arith)
pairs_step over (suc n) seen es after rest key d whole some here new there so_far =
    let less : suc n - 1 ≡ n = omega arith in
    ap (λ (k : ℕ). pairs over k (and_key key seen) rest) less
    ∙ sym (ap (λ (r : Result (List TapeEntry) Fault). r >>= pairs over n (and_key key seen)) there)
    ∙ sym (ap (λ (r : Result (Unit {0}) Fault). r >>= λ done. after_value after >>= λ rest. pairs over n (and_key key seen) rest) new)
    ∙ sym (ap (λ (r : Result (List ℕ × List TapeEntry) Fault). r >>= λ k. is_new seen k.0 (length es) >>= λ done. after_value k.1 >>= λ rest. pairs over n (and_key k.0 seen) rest) here)
    ∙ so_far

-- a pair more that ascends
pub ascending_step : (over : List ℕ) (n : ℕ) (last : Option (List ℕ)) (es after rest : List TapeEntry) (key : List ℕ) (whole : Result Bool Fault) → 0 < n
    → after_key over es ≡ Ok (key, after) → follows last key ≡ true → after_value after ≡ Ok rest → ascending over n last es ≡ whole → ascending over (n - 1) (Some key) rest ≡ whole
ascending_step over zero last es after rest key whole some here next there so_far = absurd (omega arith)
ascending_step over (suc n) last es after rest key whole some here next there so_far =
    let less : suc n - 1 ≡ n = omega arith in
    ap (λ (k : ℕ). ascending over k (Some key) rest) less
    ∙ sym (ap (λ (r : Result (List TapeEntry) Fault). r >>= ascending over n (Some key)) there)
    ∙ sym (ap (λ (b : Bool). if b then (after_value after >>= λ rest. ascending over n (Some key) rest) else Ok false) next)
    ∙ sym (ap (λ (r : Result (List ℕ × List TapeEntry) Fault). r >>= λ k. if follows last k.0 then (after_value k.1 >>= λ rest. ascending over n (Some k.0) rest) else Ok false) here)
    ∙ so_far
