-- Tokens written one after another.
use Rattle.std.proofs.Common.{◌≡◌, ℕ, List, [], ◌++◌, refl, sym, ap, ◌∙◌, append_assoc, append-nil}
use Rattle.json.specs.Print.{print}
use Rattle.json.specs.Token.{Token}
use Rattle.json.specs.Written.{Written}
use Rattle.dag_json.specs.Form.{Wrote}

pub Wrote-nil : (a : Written) → Wrote a a []
Wrote-nil a = record { before = refl; tokens = sym (append-nil a.tokens) }

pub Wrote-trans : (a b c : Written) (f g : List Token) → Wrote a b f → Wrote b c g → Wrote a c (f ++ g)
Wrote-trans a b c f g first then = record {
  before = then.before ∙ first.before;
  tokens = then.tokens ∙ ap (λ ts. ts ++ g) first.tokens ∙ append_assoc a.tokens f g;
}

-- ---- what a writer that had written nothing has written

pub all_written : (ts : List Token) (old new : Written) → Wrote old new ts → old.tokens ≡ [] → new.tokens ≡ ts
all_written ts old new w none = w.tokens ∙ ap (λ us. us ++ ts) none

pub all_printed : (out result : List ℕ) (ts : List Token) (old new : Written) → Wrote old new ts → old.before ≡ out → old.tokens ≡ [] → result ≡ new.before ++ print new.tokens
    → result ≡ out ++ print ts
all_printed out result ts old new w before none is =
    is ∙ ap (λ xs. xs ++ print new.tokens) (w.before ∙ before) ∙ ap (λ us. out ++ print us) (all_written ts old new w none)
