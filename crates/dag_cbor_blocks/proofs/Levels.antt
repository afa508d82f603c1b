-- What is open at a position, as it opens and ends.
use Rattle.std.proofs.Common.{◌≡◌, ℕ, Bool, true, false, ◌+◌, ◌*◌, ◌-◌, ◌<◌, ◌≤◌, List, [], ◌∷◌, ◌++◌, length, Option, Some, None, Result, Ok, Err, refl, sym, ap, subst, ◌∙◌, arith}
use Rattle.std.specs.Prelude.{unwrap_or, option_to_list, IfErr, OnOk}
use Rattle.std.specs.declared.alloc.AllocError.{AllocError}
use Rattle.std.proofs.lemmas.List.{append-nil, length-append}
use Rattle.ipld_tokens.specs.Token.{TokenModel}
use Rattle.dag_cbor_format.specs.Reading.{Frame, many, pairs, value, yields, item_step_in, step_in}
use Rattle.dag_cbor_format.specs.Trace.{after_a_key}
use Rattle.dag_cbor_format.proofs.ItemHeaderLaws.{CidLaws}
use Rattle.dag_cbor_format.proofs.Running.{weight, Shorter, step_in_shorter}
use Rattle.dag_cbor_blocks.specs.Position.{framed, inside, kinds_in}
use Rattle.dag_cbor_blocks.specs.Counting.{OpenKind, in_list, in_map}
use Rattle.dag_cbor_blocks.proofs.Frames.{counted}
use Rattle.dag_cbor_blocks.specs.declared.position.Level.{Level}
use Rattle.dag_cbor_blocks.specs.declared.position.Level.TheVariants.{Whole}

inside-append : (os : List Level) (o : Level) (outer : List Frame) → inside (os ++ o ∷ []) outer ≡ framed o (inside os outer)
inside-append [] o outer = refl
inside-append (x ∷ os) o outer = inside-append os o (framed x outer)

-- one more is open, innermost
pub opened : (innermost level put old : Level) (all outer : List Level) → innermost ≡ level → put ≡ old → all ≡ outer ++ put ∷ []
    → framed innermost (inside all []) ≡ framed level (framed old (inside outer []))
opened innermost level put old all outer is same e =
    ap (λ l. framed l (inside all [])) is ∙ ap (λ os. framed level (inside os [])) e ∙ ap (framed level) (inside-append outer put [])
    ∙ ap (λ l. framed level (framed l (inside outer []))) same

on_both : {P Q S : Type 0} (r : Result (Unit {0}) AllocError) → OnOk r P → OnOk r Q → (P → Q → S) → OnOk r S
on_both (Ok u) p q f = f p q
on_both (Err error) p q f = tt

pub on_ok : {P : Type 0} (r : Result (Unit {0}) AllocError) → P → OnOk r P
on_ok (Ok u) p = p
on_ok (Err error) p = tt

on_err : {P Q : Type 0} (r : Result (Unit {0}) AllocError) → IfErr r (λ error. P) → (P → Q) → IfErr r (λ error. Q)
on_err (Ok u) p f = tt
on_err (Err error) p f = f p

-- the same is, where what was innermost is put back
pub restored : (innermost old : Level) (all outer : List Level) → innermost ≡ old → all ≡ outer → framed innermost (inside all []) ≡ framed old (inside outer [])
restored innermost old all outer is same = ap (λ l. framed l (inside all [])) is ∙ ap (λ os. framed old (inside os [])) same

module _ (r : Result (Unit {0}) AllocError) (innermost dest level put old : Level) (all outer : List Level) where
  -- one more is open where there was memory for it
  pub grown : OnOk r (all ≡ outer ++ put ∷ []) → OnOk r (innermost ≡ dest) → dest ≡ level → put ≡ old → OnOk r (framed innermost (inside all []) ≡ framed level (framed old (inside outer [])))
  grown longer same is was = on_both r longer same (λ e f. opened innermost level put old all outer (f ∙ is) was e)

  pub not_longer : OnOk r (all ≡ outer ++ put ∷ []) → OnOk r (length all ≤ length outer + 1)
  not_longer longer = on_both r longer longer (λ e f. omega (arith, ap length e, length-append outer (put ∷ [])))

  -- or it is as before
  pub put_back : (rest was : List ℕ) → IfErr r (λ error. (innermost ≡ put) × (all ≡ outer)) → put ≡ old → rest ≡ was
      → IfErr r (λ error. (framed innermost (inside all []) ≡ framed old (inside outer [])) × (rest ≡ was))
  put_back rest was back is same = on_err r back (λ e. (restored innermost old all outer (e.0 ∙ is) e.1, same))

-- one less is
pub left : (before after : List Level) (popped : Option Level) (innermost : Level) → before ≡ after ++ option_to_list popped → innermost ≡ unwrap_or popped Whole
    → framed innermost (inside after []) ≡ inside before []
left before after None innermost e is = ap (λ l. framed l (inside after [])) is ∙ ap (λ os. inside os []) (sym (append-nil after) ∙ sym e)
left before after (Some level) innermost e is =
    ap (λ l. framed l (inside after [])) is ∙ sym (inside-append after level []) ∙ ap (λ os. inside os []) (sym e)

-- reading a key leaves fewer bytes
pub key_shorter : CidLaws → (n m : ℕ) (seen more : List (List ℕ)) (fs : List Frame) (bytes rest : List ℕ) (t : TokenModel)
    → step_in false (pairs n seen ∷ fs) bytes ≡ yields t (value m more ∷ fs) rest → length rest < length bytes
key_shorter laws n m seen more fs bytes rest t e =
    let h = subst (Shorter (weight (pairs n seen ∷ fs) bytes)) e (step_in_shorter laws false (pairs n seen ∷ fs) bytes) in
    omega (arith, h)

-- the machine reads it so, and then an item
pub key_read : CidLaws → (fs out : List Frame) (n m : ℕ) (seen more : List (List ℕ)) (bytes rest : List ℕ) (t : TokenModel) (outer : ℕ) → fs ≡ pairs n seen ∷ out
    → ((floats : Bool) → step_in floats (pairs n seen ∷ out) bytes ≡ yields t (value m more ∷ out) rest)
    → ((x : List Frame) × (after_a_key x ≡ true) × ((floats : Bool) → step_in floats fs bytes ≡ yields t x rest) × ((floats : Bool) → step_in floats x rest ≡ item_step_in floats (pairs m more ∷ out) rest))
    × (3 * length rest + length (pairs m more ∷ out) + outer ≤ 3 * length bytes + length fs + outer)
    × ((kinds : List OpenKind) × (kinds_in fs ≡ in_map ∷ kinds) × (kinds_in (pairs m more ∷ out) ≡ in_map ∷ kinds))
key_read laws fs out n m seen more bytes rest t outer same e =
    let shorter = key_shorter laws n m seen more out bytes rest t (e false) in
    let tall = ap length same in
    ((value m more ∷ out, refl, λ floats. ap (λ gs. step_in floats gs bytes) same ∙ e floats, λ floats. refl), omega (arith, shorter, tall), (kinds_in out, ap kinds_in same, refl))

-- the machine reads an item of a list
pub item_read : (fs out : List Frame) (n m : ℕ) (bytes : List ℕ) (outer : ℕ) → fs ≡ many n ∷ out → 0 < n → m ≡ n - 1
    → ((bytes ≡ bytes) × ((floats : Bool) → step_in floats fs bytes ≡ item_step_in floats (many m ∷ out) bytes))
    × (3 * length bytes + length (many m ∷ out) + outer ≤ 3 * length bytes + length fs + outer)
    × ((kinds : List OpenKind) × (kinds_in fs ≡ in_list ∷ kinds) × (kinds_in (many m ∷ out) ≡ in_list ∷ kinds))
item_read fs out n m bytes outer same some less =
    let tall = ap length same in
    ((refl, λ floats. ap (λ gs. step_in floats gs bytes) same ∙ counted floats n out bytes some ∙ ap (λ k. item_step_in floats (many k ∷ out) bytes) (sym less)), omega (arith, tall), (kinds_in out, ap kinds_in same, refl))
