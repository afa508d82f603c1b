-- Where the first reserved map of a tree stands.
use Rattle.std.proofs.Common.{◌≡◌, ℕ, suc, ◌+◌, ◌-◌, ◌^◌, false, List, [], ◌∷◌, Option, Some, None, refl, sym, ap, subst, ◌∙◌, inl, inr, arith}
use Rattle.std.specs.Prelude.{◌||◌, if◌then◌else◌, option_map, min}
use Rattle.std.proofs.lemmas.Bool.{cases_Bool}
use Rattle.ipld_tree.specs.Tree.{Tree}
use Rattle.dag_json.specs.Reserved.{is_reserved, any_reserved, first_reserved, Counts}

-- after so many trees, of which none is reserved, the others are left
pub record Passed (all left : List Tree) (place : ℕ) : Type 0 where
  pub count : ℕ
  pub first : first_reserved all ≡ option_map (λ n. count + n) (first_reserved left)
  pub place_is : place ≡ min count (2 ^ 64 - 1)

plus_one : (k : ℕ) (o : Option ℕ) → option_map (λ n. k + n) (option_map suc o) ≡ option_map (λ n. suc k + n) o
plus_one k None = refl
plus_one k (Some n) = ap Some (omega arith)

pub passed_one : (all left more : List Tree) (t : Tree) (place next : ℕ) → Passed all left place → left ≡ t ∷ more → is_reserved t ≡ false → next ≡ min (place + 1) (2 ^ 64 - 1)
    → Passed all more next
passed_one all left more t place next p e none step =
    let was = p.place_is in
    record {
      count = suc p.count;
      first = p.first ∙ ap (λ ts. option_map (λ n. p.count + n) (first_reserved ts)) e
          ∙ ap (λ b. option_map (λ n. p.count + n) (if b then Some 0 else option_map suc (first_reserved more))) none ∙ plus_one p.count (first_reserved more);
      place_is = omega arith;
    }

pub none_found : (all left : List Tree) (place : ℕ) → Passed all left place → left ≡ [] → Counts (first_reserved all) None
none_found all left place p e =
    subst (λ o. Counts o None) (sym (p.first ∙ ap (λ ts. option_map (λ n. p.count + n) (first_reserved ts)) e)) refl

-- where one is reserved there is a first
counted_none : (o : Option ℕ) → Counts o None → o ≡ None
counted_none None h = refl
counted_none (Some n) h = absurd cc

suc_none : (o : Option ℕ) → option_map suc o ≡ None → o ≡ None
suc_none None h = refl
suc_none (Some n) h = absurd cc

none_reserved : (ts : List Tree) → first_reserved ts ≡ None → any_reserved ts ≡ false
none_reserved [] h = refl
none_reserved (t ∷ ts) h =
    elim (cases_Bool (is_reserved t)) [
      | inl here ↦
          let no : ◌≡◌ {A = Option ℕ} (Some 0) None = sym (ap (λ b. if b then Some 0 else option_map suc (first_reserved ts)) here) ∙ h in
          absurd cc
      | inr other ↦
          ap (λ b. b || any_reserved ts) other
          ∙ none_reserved ts (suc_none (first_reserved ts) (sym (ap (λ b. if b then Some 0 else option_map suc (first_reserved ts)) other) ∙ h))
    ]

pub uncounted : (ts : List Tree) (o : Option ℕ) → Counts (first_reserved ts) o → o ≡ None → any_reserved ts ≡ false
uncounted ts o h e = none_reserved ts (counted_none (first_reserved ts) (subst (Counts (first_reserved ts)) e h))
