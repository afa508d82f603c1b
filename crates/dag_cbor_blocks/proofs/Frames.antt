-- The frames that a reader holds, and the keys that a map has.
use Rattle.std.proofs.Common.{◌≡◌, ℕ, zero, suc, ◌-◌, ◌<◌, Bool, true, false, not, List, [], ◌∷◌, map, Some, Bor, nat_cmp, refl, ap, ◌∙◌, arith}
use Rattle.std.specs.Ordering.{match_ordering}
use Rattle.std.specs.Cmp.Lexicographic.{slice_cmp}
use Rattle.std.specs.List.{list_any}
use Rattle.std.specs.BTreeSet.{insert_key}
use Rattle.std.specs.BTreeMap.{is_at}
use Rattle.std.proofs.lemmas.Map.Text.{is_eq-slice_cmp}
use Rattle.ipld_tokens.specs.Token.{atom, text}
use Rattle.dag_cbor_format.specs.declared.error.CborError.TheVariants.{DuplicateKey}
use Rattle.dag_cbor_format.specs.ItemHeader.{key_at}
use Rattle.dag_cbor_format.specs.Errors.{key_error}
use Rattle.dag_cbor_format.specs.Reading.{Frame, many, pairs, value, rejected, yields, among, and_key, after_key, item_step_in, step_in}
use Rattle.dag_cbor_format.proofs.Keys.{ap-match_ordering}

-- ---- counts

pub counted : (floats : Bool) (n : ℕ) (fs : List Frame) (bs : List ℕ) → 0 < n → step_in floats (many n ∷ fs) bs ≡ item_step_in floats (many (n - 1) ∷ fs) bs
counted floats zero fs bs h = absurd (omega arith)
counted floats (suc n) fs bs h = let less : n ≡ suc n - 1 = omega arith in ap (λ k. item_step_in floats (many k ∷ fs) bs) less

pub counted_pairs : (floats : Bool) (n : ℕ) (seen : List (List ℕ)) (fs : List Frame) (bs : List ℕ) → 0 < n → step_in floats (pairs n seen ∷ fs) bs ≡ after_key (n - 1) seen fs (key_error bs) (key_at bs)
counted_pairs floats zero seen fs bs h = absurd (omega arith)
counted_pairs floats (suc n) seen fs bs h = let less : n ≡ suc n - 1 = omega arith in ap (λ k. after_key k seen fs (key_error bs) (key_at bs)) less

-- ---- keys

abbrev now : Bor (List ℕ) → List ℕ
now k = k.now

pub among_keys : (k : Bor (List ℕ)) (ks : List (Bor (List ℕ))) → list_any (is_at (λ x. slice_cmp nat_cmp k.now x.now)) ks ≡ among k.now (map (λ x. x.now) ks)
among_keys k [] = refl
among_keys k (x ∷ ks) = rw (is_eq-slice_cmp k.now x.now, among_keys k ks)

pub keys_inserted : (k : Bor (List ℕ)) (ks : List (Bor (List ℕ))) → map (λ x. x.now) (insert_key (λ x y. slice_cmp nat_cmp x.now y.now) ks k) ≡ and_key k.now (map (λ x. x.now) ks)
keys_inserted k [] = refl
keys_inserted k (x ∷ ks) =
    ap-match_ordering (map now) (slice_cmp nat_cmp k.now x.now) (k ∷ x ∷ ks) (x ∷ ks) (x ∷ insert_key (λ x y. slice_cmp nat_cmp x.now y.now) ks k)
    ∙ ap (λ l. match_ordering (slice_cmp nat_cmp k.now x.now) (k.now ∷ x.now ∷ map now ks) (x.now ∷ map now ks) (x.now ∷ l)) (keys_inserted k ks)

pub not_true : (b : Bool) → true ≡ not b → b ≡ false
not_true true e = absurd (cc e)
not_true false e = refl

pub not_false : (b : Bool) → false ≡ not b → b ≡ true
not_false true e = refl
not_false false e = absurd (cc e)

pub key_taken : (floats : Bool) (n : ℕ) (seen : List (List ℕ)) (fs : List Frame) (bs k rest : List ℕ) → 0 < n → key_at bs ≡ Some (k, rest) → among k seen ≡ false
    → step_in floats (pairs n seen ∷ fs) bs ≡ yields (atom (text k)) (value (n - 1) (and_key k seen) ∷ fs) rest
key_taken floats n seen fs bs k rest some e fresh = counted_pairs floats n seen fs bs some ∙ ap (after_key (n - 1) seen fs (key_error bs)) e ∙ rw fresh

pub key_rejected : (floats : Bool) (n : ℕ) (seen : List (List ℕ)) (fs : List Frame) (bs k rest : List ℕ) → 0 < n → key_at bs ≡ Some (k, rest) → among k seen ≡ true
    → step_in floats (pairs n seen ∷ fs) bs ≡ rejected DuplicateKey
key_rejected floats n seen fs bs k rest some e old = counted_pairs floats n seen fs bs some ∙ ap (after_key (n - 1) seen fs (key_error bs)) e ∙ rw old
