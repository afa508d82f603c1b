-- One more token of a consumer's run.
use Rattle.std.proofs.Common.{◌≡◌, List, [], ◌∷◌, ◌++◌, Err, refl, sym, ap, subst, ◌∙◌, append_assoc}
use Rattle.std.proofs.lemmas.List.{append-nil}
use Rattle.ipld_tokens.specs.Token.{TokenModel}
use Rattle.ipld_tokens.specs.ConsumerMachine.{error_of, run, Advances, Consumes, RejectsFirst, RejectsLater}
use Rattle.ipld_tokens.specs.declared.consumer.Rejection.{Rejection}
use Rattle.ipld_tokens.specs.declared.consumer.Rejection.TheVariants as rejection
use Rattle.ipld_tokens.specs.declared.error.TokenError.{TokenError}
use Rattle.ipld_tokens.specs.declared.error.TokenError.TheVariants.{Memory, Source, Token, Cid, End, DuplicateKey}

pub run_append : {S : Type 0} (step : S → TokenModel → S) (s : S) (p q : List TokenModel) → run step s (p ++ q) ≡ run step (run step s p) q
run_append step s [] q = refl
run_append step s (t ∷ p) q = run_append step (step s t) p q

module _ {S : Type 0} (step : S → TokenModel → S) (goes : S → Type 0) (rejects : S → TokenModel → Rejection → Type 0) where
  -- the first token was rejected
  pub rejected_first : (A F : Type 0) (s next : S) (before after : List TokenModel) (t : TokenModel) (r : Rejection) → before ≡ t ∷ after → rejects s t r
      → Advances {A = A} {F = F} step rejects s next before after (Err (error_of r))
  rejected_first A F s next before after t rejection.Memory e h = (t, e, h)
  rejected_first A F s next before after t rejection.Token e h = (t, e, h)
  rejected_first A F s next before after t (rejection.Cid cid_error) e h = (t, e, h)
  rejected_first A F s next before after t rejection.DuplicateKey e h = (t, e, h)

  module _ (start : S) (all p before after : List TokenModel) (s next : S) (split : all ≡ p ++ before) (reached : run step start p ≡ s) where
    pub taken : (t : TokenModel) × (before ≡ t ∷ after) × (next ≡ step s t) → (q : List TokenModel) × (all ≡ q ++ after) × (run step start q ≡ next)
    taken (t, e, h) = (
      p ++ t ∷ [],
      split ∙ ap (λ ts. p ++ ts) e ∙ sym (append_assoc p (t ∷ []) after),
      run_append step start p (t ∷ []) ∙ ap (λ x. step x t) reached ∙ sym h,
    )

    later : (r : Rejection) → goes s → RejectsFirst rejects s before after r → RejectsLater step goes rejects start all after r
    later r g (t, e, h) = (p, t, split ∙ ap (λ ts. p ++ ts) e, subst goes (sym reached) g, subst (λ x. rejects x t r) (sym reached) h)

    pub stopped : (A : Type 0) {B F : Type 0} (reads : S → B → Type 0) (error : TokenError F) → goes s → Advances {A = A} step rejects s next before after (Err error)
        → Consumes step goes rejects reads start all after (Err error)
    stopped A reads Memory g h = later rejection.Memory g h
    stopped A reads (Source fault) g e = (p, split ∙ ap (λ ts. p ++ ts) (sym e), subst goes (sym reached) g)
    stopped A reads Token g h = later rejection.Token g h
    stopped A reads (Cid cid_error) g h = later (rejection.Cid cid_error) g h
    stopped A reads End g (e, none) =
        (subst (λ ts. goes (run step start ts)) (sym (split ∙ ap (λ ts. p ++ ts) e ∙ append-nil p)) (subst goes (sym reached) g), none)
    stopped A reads DuplicateKey g h = later rejection.DuplicateKey g h
