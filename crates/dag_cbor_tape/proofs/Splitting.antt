-- The entries of a map, pair by pair.
use Rattle.std.proofs.Common.{◌≡◌, ℕ, suc, ◌-◌, ◌≤◌, List, [], ◌∷◌, ◌++◌, length, take, drop, Option, Some, None, Result, Ok, Err, refl, sym, ap, subst, ◌∙◌, arith, length-drop}
use Rattle.std.proofs.lemmas.List.{take-append-drop, append-nil}
use Rattle.std.specs.Prelude.{option_map}
use Rattle.std.specs.Borrow.{Bor}
use Rattle.dag_cbor_blocks.specs.declared.tape.TapeEntry.{TapeEntry}
use Rattle.dag_cbor_tape.specs.declared.error.Fault.{Fault}
use Rattle.dag_cbor_tape.specs.Entry.{content_of}
use Rattle.dag_cbor_tape.specs.Structure.{after_value}
use Rattle.dag_cbor_tape.specs.Canonicalizing.{Pair, Splits, pairs_now}
use Rattle.dag_cbor_tape.proofs.Sound.{after_sound}

-- nothing, where a value isn't there
pub none_from : {A B : Type 0} (o : Option A) (f : A → B) (t : Option B) → ((x : A) → o ≡ Some x → ⊥) → option_map f o ≡ t → t ≡ None
none_from None f t h e = sym e
none_from (Some x) f t h e = absurd (h x refl)

abbrev Now : Type 0
Now = Bor (List ℕ) × Bor (List TapeEntry)

now_more : (ps : List Now) (p : Now) → pairs_now (ps ++ p ∷ []) ≡ pairs_now ps ++ (p.0.now, p.1.now) ∷ []
now_more [] p = refl
now_more (q ∷ ps) p = ap (λ (xs : List Pair). (q.0.now, q.1.now) ∷ xs) (now_more ps p)

one_more : (ps more : List Pair) (p : Pair) → (ps ++ p ∷ []) ++ more ≡ ps ++ p ∷ more
one_more [] more p = refl
one_more (q ∷ ps) more p = ap (λ (xs : List Pair). q ∷ xs) (one_more ps more p)

none_after : (rest : List TapeEntry) → after_value [] ≡ Ok rest → ⊥
unfolding after_value
none_after rest after = cc

-- a value stands before what follows it
record Cut (values behind : List TapeEntry) : Type 0 where
  value : List TapeEntry
  parts : values ≡ value ++ behind
  own : (first : TapeEntry) → take (suc (length values) - length behind) (first ∷ values) ≡ first ∷ value

cut : (values behind : List TapeEntry) → after_value values ≡ Ok behind → Cut values behind
cut [] behind after = absurd (none_after behind after)
cut (e ∷ es) behind after =
    let s = after_sound e es behind after in
    let n = s.0 in
    let rest : drop n (e ∷ es) ≡ behind = s.3 in
    let long : length behind ≡ suc (length es) - n = ap length (sym rest) ∙ length-drop n (e ∷ es) in
    let few : n ≤ suc (length es) = s.2 in
    let count : suc (suc (length es)) - length behind ≡ suc n = omega arith in
    record {
      value = take n (e ∷ es);
      parts = sym (take-append-drop n (e ∷ es)) ∙ ap (λ (xs : List TapeEntry). take n (e ∷ es) ++ xs) rest;
      own = λ first. ap (λ (m : ℕ). take m (first ∷ (e ∷ es))) count;
    }

module _ (over : List ℕ) where
  pub split_on : (entries rest values behind : List TapeEntry) (first : TapeEntry) (key : List ℕ) (own : List TapeEntry) (ps qs : List Now) (k : Bor (List ℕ)) (o : Bor (List TapeEntry))
      → rest ≡ first ∷ values → content_of over first ≡ Some key → after_value values ≡ Ok behind → own ≡ take (length rest - length behind) rest → k.now ≡ key → o.now ≡ own
      → qs ≡ ps ++ (k, o) ∷ []
      → ((more : List Pair) → Splits over rest more → Splits over entries (pairs_now ps ++ more)) → (more : List Pair) → Splits over behind more → Splits over entries (pairs_now qs ++ more)
  split_on entries rest values behind first key own ps qs k o rest_is content after own_is key_now own_now qs_is on more splits =
      let c = cut values behind after in
      let own_parts : o.now ≡ first ∷ c.value =
      own_now ∙ own_is ∙ ap (λ (xs : List TapeEntry). take (length xs - length behind) xs) rest_is ∙ c.own first in
      let here : Splits over rest ((k.now, o.now) ∷ more) = (
        first,
        c.value,
        behind,
        rest_is ∙ ap (λ (xs : List TapeEntry). first ∷ xs) c.parts,
        content ∙ ap (λ (x : List ℕ). Some x) (sym key_now),
        ap after_value (sym c.parts) ∙ after,
        own_parts,
        splits,
      ) in
      let whole = on ((k.now, o.now) ∷ more) here in
      subst (Splits over entries) (sym (ap (λ (xs : List Pair). xs ++ more) (ap pairs_now qs_is ∙ now_more ps (k, o)) ∙ one_more (pairs_now ps) more (k.now, o.now))) whole

  record Next (first : TapeEntry) (values : List TapeEntry) (more : List Pair) : Type 0 where
    pub pair : Pair
    pub others : List Pair
    pub rest : List TapeEntry
    pub is : more ≡ pair ∷ others
    pub content : content_of over first ≡ Some pair.0
    pub after : after_value values ≡ Ok rest
    pub splits : Splits over rest others

  next_of : (rest values : List TapeEntry) (first : TapeEntry) (more : List Pair) → rest ≡ first ∷ values → Splits over rest more → Next first values more
  next_of rest values first [] is splits = absurd (let none : [] ≡ first ∷ values = sym splits ∙ is in cc)
  next_of rest values first (p ∷ ps) is (e, value, behind, parts, content, after, own, others) =
      let both : e ∷ (value ++ behind) ≡ first ∷ values = sym parts ∙ is in
      let here : e ≡ first = cc in
      let there : value ++ behind ≡ values = cc in
      record {
        pair = p;
        others = ps;
        rest = behind;
        is = refl;
        content = ap (content_of over) (sym here) ∙ content;
        after = ap after_value (sym there) ∙ after;
        splits = others;
      }

  same_ok : (a b : List TapeEntry) → ◌≡◌ {A = Result (List TapeEntry) Fault} (Ok a) (Ok b) → a ≡ b
  same_ok a b e = cc

  pub split_only : (entries rest values behind : List TapeEntry) (first : TapeEntry) → rest ≡ first ∷ values → after_value values ≡ Ok behind
      → ((ps : List Pair) → Splits over entries ps → (more : List Pair) × Splits over rest more) → (ps : List Pair) → Splits over entries ps → (more : List Pair) × Splits over behind more
  split_only entries rest values behind first rest_is after only ps splits =
      let o = only ps splits in
      let n = next_of rest values first o.0 rest_is o.1 in
      let same : n.rest ≡ behind = same_ok n.rest behind (sym n.after ∙ after) in
      (n.others, subst (λ (xs : List TapeEntry). Splits over xs n.others) same n.splits)

  -- the key isn't within, or no value follows it
  pub no_content : (entries rest values : List TapeEntry) (first : TapeEntry) → rest ≡ first ∷ values → content_of over first ≡ None
      → ((ps : List Pair) → Splits over entries ps → (more : List Pair) × Splits over rest more) → (ps : List Pair) → Splits over entries ps → ⊥
  no_content entries rest values first is none only ps splits =
      let o = only ps splits in
      let n = next_of rest values first o.0 is o.1 in
      let clash : Some n.pair.0 ≡ None = sym n.content ∙ none in cc

  pub no_value : (entries rest values : List TapeEntry) (first : TapeEntry) (f : Fault) → rest ≡ first ∷ values → after_value values ≡ Err f
      → ((ps : List Pair) → Splits over entries ps → (more : List Pair) × Splits over rest more) → (ps : List Pair) → Splits over entries ps → ⊥
  no_value entries rest values first f is err only ps splits =
      let o = only ps splits in
      let n = next_of rest values first o.0 is o.1 in
      let clash : ◌≡◌ {A = Result (List TapeEntry) Fault} (Ok n.rest) (Err f) = sym n.after ∙ err in cc

  pub split_end : (entries rest : List TapeEntry) (ps : List Now) → length rest ≡ 0 → ((more : List Pair) → Splits over rest more → Splits over entries (pairs_now ps ++ more))
      → Splits over entries (pairs_now ps)
  split_end entries [] ps n on = subst (Splits over entries) (append-nil (pairs_now ps)) (on [] refl)
  split_end entries (e ∷ es) ps n on = absurd (omega arith)
