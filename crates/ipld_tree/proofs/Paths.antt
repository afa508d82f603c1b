-- A path that is cut at its first slash, and looking up one segment after another.
use Rattle.std.proofs.Common.{◌≡◌, ℕ, suc, ◌+◌, ◌<◌, ◌==◌, nat_lt, eqb, ltb, List, [], ◌∷◌, length, take, drop, Option, Some, None, Result, Ok, Err, inl, inr, refl, sym, ap, ◌∙◌, arith}
use Rattle.std.specs.Prelude.{filter}
use Rattle.std.specs.List.{onto_first, position_or_len, before_first, after_first}
use Rattle.std.proofs.lemmas.Bool.{cases_Bool}
use Rattle.ipld_tree.specs.Tree.{Tree}
use Rattle.ipld_tree.specs.Index.{LookupError, name_ref, found_at}
use Rattle.ipld_tree.specs.Path.{parts_of, segments, then_in, found_along}

-- one character in front
shifted : (k n c : ℕ) (cs : List ℕ) → k ≡ suc n → (take k (c ∷ cs) ≡ c ∷ take n cs) × (drop (k + 1) (c ∷ cs) ≡ drop (n + 1) cs)
shifted k n c cs e =
    let more : k + 1 ≡ suc (n + 1) = omega arith in
    (ap (λ (m : ℕ). take m (c ∷ cs)) e, ap (λ (m : ℕ). drop m (c ∷ cs)) more)

-- a path with a slash
pub cut_at : (path : List ℕ) → position_or_len (λ b. b == 47) path < length path
    → parts_of path ≡ before_first (λ b. b == 47) path ∷ parts_of (after_first (λ b. b == 47) path)
cut_at [] within = absurd (omega arith)
cut_at (c ∷ cs) within =
    elim (cases_Bool (eqb c 47)) [
      | inl slash ↦ rw slash refl
      | inr other ↦
          let later : position_or_len (λ b. b == 47) cs < length cs = let here = rw other at within in omega arith in
          let n : ℕ = position_or_len (λ b. b == 47) cs in
          let one = shifted (1 + n) n c cs (omega arith) in
          rw other (ap (onto_first c) (cut_at cs later) ∙ (λ i. sym one.0 i ∷ parts_of (sym one.1 i)))
    ]

-- a path with none
pub not_cut : (path : List ℕ) → position_or_len (λ b. b == 47) path ≡ length path → parts_of path ≡ path ∷ []
not_cut [] none = refl
not_cut (c ∷ cs) none =
    elim (cases_Bool (eqb c 47)) [
      | inl slash ↦ absurd (let here = rw slash at none in omega arith)
      | inr other ↦
          let later : position_or_len (λ b. b == 47) cs ≡ length cs = let here = rw other at none in omega arith in
          rw other (ap (onto_first c) (not_cut cs later))
    ]

-- ---- looking up

abbrev Outcome : Type 0
Outcome = Result (Option Tree) LookupError

abbrev pub filled : List (List ℕ) → List (List ℕ)
filled parts = filter (λ part. nat_lt 0 (length part)) parts

-- what is looked up, and then nothing more
and_done : (next : Tree → Outcome) (found : Outcome) → then_in next found ≡ then_in next (then_in (λ t. Ok (Some t)) found)
and_done next (Err e) = refl
and_done next (Ok None) = refl
and_done next (Ok (Some t)) = refl

-- the first part, and then the others
pub first_part : (part : List ℕ) (parts : List (List ℕ)) (t : Tree) → found_along (filled (part ∷ parts)) t ≡ then_in (found_along (filled parts)) (found_along (filled (part ∷ [])) t)
first_part part parts t =
    elim (cases_Bool (ltb 0 (length part))) [
      | inl some ↦ rw some (and_done (found_along (filled parts)) (found_at t (name_ref part)))
      | inr none ↦ rw none refl
    ]

-- a path with a slash: its first part, and then the path behind it
pub first_step : (path front back : List ℕ) (t : Tree) → front ≡ before_first (λ b. b == 47) path → back ≡ after_first (λ b. b == 47) path → position_or_len (λ b. b == 47) path < length path
    → found_along (segments path) t ≡ then_in (found_along (segments back)) (found_along (filled (front ∷ [])) t)
first_step path front back t p q within =
    let cut : parts_of path ≡ front ∷ parts_of back = rw (p, q) (cut_at path within) in
    ap (λ (parts : List (List ℕ)). found_along (filled parts) t) cut ∙ first_part front (parts_of back) t

-- a path with none
pub last_step : (path : List ℕ) (t : Tree) → position_or_len (λ b. b == 47) path ≡ length path → found_along (segments path) t ≡ found_along (filled (path ∷ [])) t
last_step path t none = ap (λ (parts : List (List ℕ)). found_along (filled parts) t) (not_cut path none)
