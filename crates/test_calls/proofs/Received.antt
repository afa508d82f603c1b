-- What a block decodes to that is known to decode to a value.
use Rattle.std.proofs.Common.{◌≡◌, Option, Some, None, Result, Ok, Err, IfOk, IfErr, sym, ◌∙◌}
use Rattle.std.proofs.lemmas.Option.{same_Some, none-some}
use Rattle.std.specs.Prelude.{⊤, MatchOption}

module _ {T V E F : Type 0} (contents : T → V) (failure_of : E → Option F) (decoded : Option V) (v : V) (round_trip : decoded ≡ Some v) where
  pub received : (r : Result T E) → IfOk r (λ x. decoded ≡ Some (contents x)) → IfOk r (λ x. contents x ≡ v)
  received (Ok x) e = same_Some _ _ (sym e ∙ round_trip)
  received (Err error) e = tt

  pub not_rejected : (P : Type 0) (Failure : F → Type 0) (r : Result T E) → IfErr r (λ error. MatchOption (failure_of error) (decoded ≡ None) Failure)
      → IfErr r (λ error. MatchOption (failure_of error) P (λ _. ⊤))
  not_rejected P Failure (Ok x) e = tt
  not_rejected P Failure (Err error) e = at (failure_of error) e
    where
      at : (o : Option F) → MatchOption o (decoded ≡ None) Failure → MatchOption o P (λ _. ⊤)
      at None none = absurd (none-some v (sym none ∙ round_trip))
      at (Some failure) _ = tt
