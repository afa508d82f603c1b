-- The loop that writes a tape in order.
use Rattle.std.proofs.Common.{◌≡◌, ℕ, ◌<◌, false, cond, List, [], ◌∷◌, ◌++◌, length, map, Result, Ok, Err, refl, sym, ap, subst, ◌∙◌, arith}
use Rattle.std.specs.Prelude.{is_ok, is_err}
use Rattle.std.specs.Borrow.{Bor}
use Rattle.dag_cbor_blocks.specs.declared.tape.TapeEntry.{TapeEntry}
use Rattle.dag_cbor_tape.specs.declared.error.EncodeErrorKind.{EncodeErrorKind}
use Rattle.dag_cbor_tape.specs.Canonicalizing.{Pair, pairs_now, to_do, Steps, NoStep}
use Rattle.dag_cbor_tape.specs.Memory.{IsMemory}
use Rattle.dag_cbor_tape.proofs.Entering.{to_do_more}
use Rattle.dag_cbor_tape.proofs.Ordering.{Good, finished, left_behind, one_written, map_entered, loads, step_good, step_fails, step_less}

abbrev Ranges : Type 0
Ranges = List (Bor (List TapeEntry))

-- a push that did not fail
pub pushed : {A E Y : Type 0} (r : Result A E) (new with without : Y) → is_err r ≡ false → new ≡ (cond (is_ok r) with without) → new ≡ with
pushed (Ok x) new with without e h = h
pushed (Err x) new with without e h = absurd (cc e)

pub starts : (over : List ℕ) (Q : List ℕ → Type 0) (es : List TapeEntry) (out : List ℕ) (none rs : Ranges) (r : Bor (List TapeEntry)) → Good over Q [] (es ∷ []) → out ≡ [] → none ≡ []
    → rs ≡ none ++ r ∷ [] → r.now ≡ es → Good over Q out (to_do rs)
starts over Q es out none rs r good empty nothing is same =
    let one : to_do rs ≡ es ∷ [] = to_do_more none rs r is ∙ ap (λ (x : List TapeEntry). x ∷ to_do none) same ∙ ap (λ (x : Ranges). es ∷ to_do x) nothing in
    subst (λ (x : List (List TapeEntry)). Good over Q out x) (sym one)
    (subst (λ (x : List ℕ). Good over Q x (es ∷ [])) (sym empty) good)

module _ (over : List ℕ) (Q : List ℕ → Type 0) where
  popped : (rs left : Ranges) (r : Bor (List TapeEntry)) (es : List TapeEntry) → rs ≡ left ++ r ∷ [] → r.now ≡ es → to_do rs ≡ es ∷ to_do left
  popped rs left r es is same = to_do_more left rs r is ∙ ap (λ (x : List TapeEntry). x ∷ to_do left) same

  pub goes_down : (out out' : List ℕ) (e : TapeEntry) (es : List TapeEntry) (rs left after : Ranges) (r : Bor (List TapeEntry)) → rs ≡ left ++ r ∷ [] → r.now ≡ e ∷ es
      → Steps over e es out out' (to_do left) (to_do after) → loads (to_do after) < loads (to_do rs)
  goes_down out out' e es rs left after r is same s =
      subst (λ (x : List (List TapeEntry)). loads (to_do after) < loads x) (sym (popped rs left r (e ∷ es) is same)) (step_less over out out' e es (to_do left) (to_do after) s)

  pub goes_on : (out out' : List ℕ) (e : TapeEntry) (es : List TapeEntry) (rs left after : Ranges) (r : Bor (List TapeEntry)) → rs ≡ left ++ r ∷ [] → r.now ≡ e ∷ es
      → Steps over e es out out' (to_do left) (to_do after) → Good over Q out (to_do rs) → Good over Q out' (to_do after)
  goes_on out out' e es rs left after r is same s g =
      step_good over Q out out' e es (to_do left) (to_do after) (subst (Good over Q out) (popped rs left r (e ∷ es) is same) g) s

  pub stops : (out : List ℕ) (e : TapeEntry) (es : List TapeEntry) (rs left : Ranges) (r : Bor (List TapeEntry)) (error : EncodeErrorKind) → rs ≡ left ++ r ∷ [] → r.now ≡ e ∷ es
      → NoStep over e es error → Good over Q out (to_do rs) → IsMemory error
  stops out e es rs left r error is same n g =
      step_fails over Q out e es (to_do left) error (subst (Good over Q out) (popped rs left r (e ∷ es) is same) g) n

-- a range of which nothing is left
module _ (over : List ℕ) (Q : List ℕ → Type 0) where
  skipped : (out : List ℕ) (st rs : List (List TapeEntry)) → st ≡ [] ∷ rs → Good over Q out st → Good over Q out rs
  skipped out st rs is (finished x q) = absurd cc
  skipped out st rs is (left_behind x qs g) = let same : qs ≡ rs = cc in subst (Good over Q x) same g
  skipped out st rs is (one_written x b k e es qs plain kind_there is_written g) = absurd cc
  skipped out st rs is (map_entered x b e inner behind es qs pairs kind_there is_written parts spans splits g) = absurd cc

  nothing : (es : List TapeEntry) → length es ≡ 0 → es ≡ []
  nothing [] none = refl
  nothing (e ∷ es) none = absurd (omega arith)

  pub passes : (out : List ℕ) (rs left : Ranges) (r : Bor (List TapeEntry)) → rs ≡ left ++ r ∷ [] → length r.now ≡ 0 → Good over Q out (to_do rs) → Good over Q out (to_do left)
  passes out rs left r is none g = skipped out (to_do rs) (to_do left) (popped over Q rs left r [] is (nothing r.now none)) g

-- all pairs were pushed
pub all_pushed : (ps : List (Bor (List ℕ) × Bor (List TapeEntry))) (x y : List (List TapeEntry)) → length ps ≡ 0 → map (λ (p : Pair). p.1) (pairs_now ps) ++ x ≡ y → x ≡ y
all_pushed [] x y n h = h
all_pushed (p ∷ ps) x y n h = absurd (omega arith)
