-- A run goes as far as it can.
use Rattle.std.proofs.Common.{◌≡◌, ℕ, zero, suc, ◌+◌, ◌*◌, ◌<◌, ◌≤◌, Bool, true, false, cond, List, [], ◌∷◌, length, Option, Some, None, refl, sym, ap, ◌∙◌, arith}
use Rattle.dag_cbor_format.specs.declared.error.CborError.{CborError}
use Rattle.dag_cbor_format.specs.declared.error.CborError.TheVariants.{DuplicateKey}
use Rattle.dag_cbor_format.specs.Errors.{key_error, link_error}
use Rattle.dag_cbor_format.specs.ItemHeader.{Beginning, scalar, list, map, link, key_at, link_at}
use Rattle.dag_cbor_format.specs.Floats.{beginning_at, beginning_error}
use Rattle.dag_cbor_format.specs.Reading.{Frame, one, many, pairs, value, mark, Out, ended, rejected, yields, begin, begun, among, after_key, after_link, end_step, step_in, step, Ran, outcome, preceded, run, ahead, of_block}
use Rattle.dag_cbor_format.specs.Trace.{tokens_in, Trace, led, after_a_key, traced, trace, trace_ahead, trace_of}
use Rattle.dag_cbor_format.proofs.ItemHeaderLaws.{CidLaws}
use Rattle.dag_cbor_format.proofs.ItemHeaders.{key_is, link_is}
use Rattle.dag_cbor_format.proofs.FloatLaws.{beginning_is}

-- how many steps there can be
abbrev pub weight : List Frame → List ℕ → ℕ
weight fs bs = 2 * length bs + length fs

abbrev pub Shorter : ℕ → Out → Type 0
Shorter w ended = Unit {0}
Shorter w (rejected x) = Unit {0}
Shorter w (yields t fs bs) = weight fs bs < w

begin_shorter : (fs : List Frame) (l : Beginning) (bs rest : List ℕ) → length rest < length bs → Shorter (2 * length bs + length fs) (begin fs l rest)
begin_shorter fs (scalar t) bs rest h = omega arith
begin_shorter fs (list n) bs rest h = omega arith
begin_shorter fs (map n) bs rest h = omega arith
begin_shorter fs link bs rest h = omega arith

item_shorter : (floats : Bool) (fs : List Frame) (bs : List ℕ) (x : CborError) (o : Option (Beginning × List ℕ)) → beginning_at floats bs ≡ o → Shorter (2 * length bs + length fs) (begun fs x o)
item_shorter floats fs bs x None e = tt
item_shorter floats fs bs x (Some (l, rest)) e = begin_shorter fs l bs rest (beginning_is floats bs l rest e).0

weaker : (v w : ℕ) (o : Out) → v ≤ w → Shorter v o → Shorter w o
weaker v w ended le h = tt
weaker v w (rejected x) le h = tt
weaker v w (yields t fs bs) le h = omega (arith, le, h)

after_key_shorter : (b : Bool) (w : ℕ) (x : CborError) (o : Out) → Shorter w o → Shorter w (cond b (rejected x) o)
after_key_shorter true w x o h = tt
after_key_shorter false w x o h = h

key_shorter : (n : ℕ) (seen : List (List ℕ)) (fs : List Frame) (bs : List ℕ) (x : CborError) (o : Option (List ℕ × List ℕ)) → key_at bs ≡ o → Shorter (suc (2 * length bs + length fs)) (after_key n seen fs x o)
key_shorter n seen fs bs x None e = tt
key_shorter n seen fs bs x (Some (k, rest)) e =
    let h = (key_is bs k rest e).0 in
    after_key_shorter (among k seen) (suc (2 * length bs + length fs)) DuplicateKey _ (omega (arith, h))

link_shorter : CidLaws → (fs : List Frame) (bs : List ℕ) (x : CborError) (o : Option (List ℕ × List ℕ)) → link_at bs ≡ o → Shorter (suc (2 * length bs + length fs)) (after_link fs x o)
link_shorter laws fs bs x None e = tt
link_shorter laws fs bs x (Some (b, rest)) e = let h = (link_is laws bs b rest e).shorter in omega (arith, h)

end_shorter : (w : ℕ) (bs : List ℕ) → Shorter w (end_step bs)
end_shorter w [] = tt
end_shorter w (b ∷ bs) = tt

-- a step leaves less
pub step_in_shorter : CidLaws → (floats : Bool) (fs : List Frame) (bs : List ℕ) → Shorter (weight fs bs) (step_in floats fs bs)
step_in_shorter laws floats [] bs = end_shorter (weight [] bs) bs
step_in_shorter laws floats (one ∷ fs) bs = weaker (2 * length bs + length fs) _ _ (omega arith) (item_shorter floats fs bs (beginning_error floats bs) (beginning_at floats bs) refl)
step_in_shorter laws floats (many zero ∷ fs) bs = omega arith
step_in_shorter laws floats (many (suc n) ∷ fs) bs = item_shorter floats (many n ∷ fs) bs (beginning_error floats bs) (beginning_at floats bs) refl
step_in_shorter laws floats (pairs zero seen ∷ fs) bs = omega arith
step_in_shorter laws floats (pairs (suc n) seen ∷ fs) bs = weaker (suc (2 * length bs + length fs)) _ _ (omega arith) (key_shorter n seen fs bs (key_error bs) (key_at bs) refl)
step_in_shorter laws floats (value n seen ∷ fs) bs = item_shorter floats (pairs n seen ∷ fs) bs (beginning_error floats bs) (beginning_at floats bs) refl
step_in_shorter laws floats (mark ∷ fs) bs = weaker (suc (2 * length bs + length fs)) _ _ (omega arith) (link_shorter laws fs bs (link_error bs) (link_at bs) refl)

-- ---- with floats or without

module _ (floats : Bool) where
  -- two runs that are long enough are the same
  abbrev Same : ℕ → ℕ → Type 0
  Same k j = (fs : List Frame) (bs : List ℕ) → weight fs bs < k → weight fs bs < j → trace floats k fs bs ≡ trace floats j fs bs

  same_after : (k j w left : ℕ) (o : Out) → Same k j → w < suc k → w < suc j → Shorter w o → traced left (trace floats k) o ≡ traced left (trace floats j) o
  same_after k j w left ended h a b s = refl
  same_after k j w left (rejected x) h a b s = refl
  same_after k j w left (yields t fs bs) h a b s = ap (led (t, length bs, after_a_key fs)) (h fs bs (omega (arith, s)) (omega (arith, s)))

  same_runs : CidLaws → (k j : ℕ) → Same k j
  same_runs laws zero j fs bs a b = absurd (omega arith)
  same_runs laws (suc k) zero fs bs a b = absurd (omega arith)
  same_runs laws (suc k) (suc j) fs bs a b = same_after k j (weight fs bs) (length bs) (step_in floats fs bs) (same_runs laws k j) a b (step_in_shorter laws floats fs bs)

  pub trace_is : (fs : List Frame) (bs : List ℕ) → trace floats (suc (weight fs bs)) fs bs ≡ trace_ahead floats fs bs
  unfolding trace_ahead
  trace_is fs bs = refl

  traced_is : CidLaws → (w left : ℕ) (o : Out) → Shorter w o → traced left (trace floats w) o ≡ traced left (trace_ahead floats) o
  traced_is laws w left ended s = refl
  traced_is laws w left (rejected x) s = refl
  traced_is laws w left (yields t fs bs) s =
      ap (led (t, length bs, after_a_key fs)) (same_runs laws w (suc (weight fs bs)) fs bs s (omega arith) ∙ trace_is fs bs)

  -- what is ahead is one step, and then what is ahead
  pub trace_unwound : CidLaws → (fs : List Frame) (bs : List ℕ) → trace_ahead floats fs bs ≡ traced (length bs) (trace_ahead floats) (step_in floats fs bs)
  trace_unwound laws fs bs = sym (trace_is fs bs) ∙ traced_is laws (weight fs bs) (length bs) (step_in floats fs bs) (step_in_shorter laws floats fs bs)

-- ---- without floats: tokens and errors alone

abbrev pub ran_of : Trace → Ran
ran_of t = record { tokens = tokens_in t.events; error = t.error }

erased_after : (k left : ℕ) (o : Out) → ((fs : List Frame) (bs : List ℕ) → ran_of (trace false k fs bs) ≡ run k fs bs) → ran_of (traced left (trace false k) o) ≡ outcome (run k) o
erased_after k left ended h = refl
erased_after k left (rejected x) h = refl
erased_after k left (yields t fs bs) h = ap (preceded t) (h fs bs)

erased : (k : ℕ) (fs : List Frame) (bs : List ℕ) → ran_of (trace false k fs bs) ≡ run k fs bs
erased zero fs bs = refl
erased (suc k) fs bs = erased_after k (length bs) (step fs bs) (erased k)

pub ahead_is : (fs : List Frame) (bs : List ℕ) → run (suc (weight fs bs)) fs bs ≡ ahead fs bs
unfolding ahead
ahead_is fs bs = refl

pub erased_ahead : (fs : List Frame) (bs : List ℕ) → ran_of (trace_ahead false fs bs) ≡ ahead fs bs
erased_ahead fs bs = ap ran_of (sym (trace_is false fs bs)) ∙ erased (suc (weight fs bs)) fs bs ∙ ahead_is fs bs

erased_outcome : (left : ℕ) (o : Out) → ran_of (traced left (trace_ahead false) o) ≡ outcome ahead o
erased_outcome left ended = refl
erased_outcome left (rejected x) = refl
erased_outcome left (yields t fs bs) = ap (preceded t) (erased_ahead fs bs)

-- what is ahead is one step, and then what is ahead
pub unwound : CidLaws → (fs : List Frame) (bs : List ℕ) → ahead fs bs ≡ outcome ahead (step fs bs)
unwound laws fs bs = sym (erased_ahead fs bs) ∙ ap ran_of (trace_unwound false laws fs bs) ∙ erased_outcome (length bs) (step fs bs)

-- of a whole block
pub erased_block : (block : List ℕ) → ran_of (trace_of false block) ≡ of_block block
erased_block block = erased_ahead (one ∷ []) block
