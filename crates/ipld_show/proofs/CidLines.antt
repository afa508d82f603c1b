-- The lines of a CID's parts, written one after the other.
use Rattle.std.proofs.Common.{◌≡◌, ℕ, List, ◌++◌, Option, Some, None, option_map, sym, ap₂, subst}
use Rattle.std.specs.Prelude.{MatchOption}
use Rattle.std.specs.Io.KnownBytes.{Appends}
use Rattle.std.proofs.KnownBytes.{Appends-trans}
use Rattle.ipld_show.specs.CidParts.{line, code_text}
use Rattle.ipld_show.specs.Scalars.{hex_text}

-- the name that was found
pub named : {V : Type 0} (text : V → List ℕ) (o : Option V) (x : Option (List ℕ)) → MatchOption o (x ≡ None) (λ v. x ≡ Some (text v)) → option_map text o ≡ x
named text None x h = sym h
named text (Some v) x h = sym h

module _ (a b : Option (List ℕ)) (label : List ℕ) where
  pub code_line : (o x : Option (List ℕ)) (code d : ℕ) → o ≡ x → code ≡ d → Appends a b (line label (code_text o code)) → Appends a b (line label (code_text x d))
  code_line o x code d e f = subst (Appends a b) (ap₂ (λ (y : Option (List ℕ)) (k : ℕ). line label (code_text y k)) e f)

  pub hex_line : (s t : List ℕ) → s ≡ t → Appends a b (line label (hex_text s)) → Appends a b (line label (hex_text t))
  hex_line s t e = subst (λ xs. Appends a b (line label (hex_text xs))) e

-- six texts, one after the other
pub six : (o a b c d e n : Option (List ℕ)) (s t u v w x : List ℕ) → Appends o a s → Appends a b t → Appends b c u → Appends c d v → Appends d e w → Appends e n x
    → Appends o n (s ++ (t ++ (u ++ (v ++ (w ++ x)))))
six o a b c d e n s t u v w x p q r k l m =
    Appends-trans o a n s (t ++ (u ++ (v ++ (w ++ x)))) p
    (Appends-trans a b n t (u ++ (v ++ (w ++ x))) q (Appends-trans b c n u (v ++ (w ++ x)) r (Appends-trans c d n v (w ++ x) k (Appends-trans d e n w x l m))))

pub three : (o a b n : Option (List ℕ)) (s t u : List ℕ) → Appends o a s → Appends a b t → Appends b n u → Appends o n (s ++ (t ++ u))
three o a b n s t u p q r = Appends-trans o a n s (t ++ u) p (Appends-trans a b n t u q r)
