-- Reading a tree within limits, by the machine: what the tokens of a source come to.
use Rattle.std.proofs.Common.{◌≡◌, List, [], ◌∷◌, ◌++◌, Option, Some, None, Result, Ok, Err, refl, sym, ap, subst, ◌∙◌, append_assoc}
use Rattle.std.proofs.lemmas.List.{append-nil}
use Rattle.ipld_tree.specs.TreeOf.{tree_of}
use Rattle.ipld_tree.specs.declared.ipld.Ipld.{Ipld}
use Rattle.ipld_tree.specs.declared.limits.Limits.{Limits}
use Rattle.ipld_tokens.specs.Token.{TokenModel}
use Rattle.ipld_tokens.specs.ConsumerMachine as consuming
use Rattle.ipld_tokens.specs.ReadMachine as reading
use Rattle.ipld_tokens.specs.ReadMachine.{ReadState, done, rejected, start, step, IsGoing}
use Rattle.ipld_tokens.specs.ReaderSteps.{Rejects}
use Rattle.ipld_tokens.specs.Outcome.{Taken}
use Rattle.ipld_tokens.specs.Excess as limit
use Rattle.ipld_tokens.specs.Excess.{Position, after, token_excess, or_later, excess}
use Rattle.ipld_tokens.specs.LimitMachine.{LimitState, within, beyond, spent, unless_beyond, limit_step, limit_start, GoesOn, RejectsWithin}
use Rattle.ipld_tokens.specs.LimitOutcome.{KeepsWithin}
use Rattle.ipld_tokens.specs.LimitContract.{ConsumedWithin, flatten, Beyond, ReadsWithin}
use Rattle.ipld_tokens.specs.declared.consumer.Rejection.{Rejection}
use Rattle.ipld_tokens.specs.declared.consumer.Rejection.TheVariants as rejection
use Rattle.ipld_tokens.specs.declared.error.TokenError.{TokenError}
use Rattle.ipld_tokens.specs.declared.error.TokenError.TheVariants as error
use Rattle.ipld_tokens.specs.declared.limited_reader.Excess.{Excess}
use Rattle.ipld_tokens.specs.declared.limited_reader.Excess.TheVariants as which
use Rattle.ipld_tokens.proofs.Excesses.{over, none_of_both}
use Rattle.ipld_tokens.proofs.TreeRead.{reads}

abbrev limit_run : LimitState → List TokenModel → LimitState
limit_run = consuming.run limit_step

run_spent : (p : List TokenModel) → limit_run spent p ≡ spent
run_spent [] = refl
run_spent (t ∷ p) = run_spent p

-- ---- what tokens within the limits lead to

record IsWithin (limits : Limits) (s : ReadState) (p : Position) (ts : List TokenModel) (limits' : Limits) (s' : ReadState) (p' : Position) : Type 0 where
  pub same_limits : limits ≡ limits'
  pub reads_so : reading.run s ts ≡ s'
  pub opens_so : over p ts ≡ p'
  pub keeps : excess limits p ts ≡ None

not_within : (limits : Limits) (s : ReadState) (p : Position) (e : limit.Excess) (ts : List TokenModel) → limit_run (beyond e) ts ≡ within limits s p → ⊥
not_within limits s p e [] h = cc
not_within limits s p e (t ∷ ts) h = let f : spent ≡ within limits s p = sym (run_spent ts) ∙ h in cc

not_spent : (limits : Limits) (s : ReadState) (p : Position) (ts : List TokenModel) → limit_run spent ts ≡ within limits s p → ⊥
not_spent limits s p ts h = let f : spent ≡ within limits s p = sym (run_spent ts) ∙ h in cc

same_within : (limits l : Limits) (s v : ReadState) (p q : Position) → within limits s p ≡ within l v q → (limits ≡ l) × (s ≡ v) × (p ≡ q)
same_within limits l s v p q h = (cc, cc, cc)

abbrev keeps_next : Limits → Option limit.Excess → Position → List TokenModel → Option limit.Excess
keeps_next limits o p ts = or_later o (excess limits p ts)

within_next : (limits : Limits) (s : ReadState) (p : Position) (t : TokenModel) (ts : List TokenModel) (l : Limits) (v : ReadState) (q : Position)
    → (limit_run (within limits (step s t) (after p t)) ts ≡ within l v q → IsWithin limits (step s t) (after p t) ts l v q)
    → (o : Option limit.Excess) → token_excess limits p t ≡ o → limit_run (unless_beyond o (within limits (step s t) (after p t))) ts ≡ within l v q
    → IsWithin limits s p (t ∷ ts) l v q
within_next limits s p t ts l v q more None e h =
    let w = more h in
    record {
      same_limits = w.same_limits;
      reads_so = w.reads_so;
      opens_so = w.opens_so;
      keeps = ap (λ o. keeps_next limits o (after p t) ts) e ∙ w.keeps;
    }
within_next limits s p t ts l v q more (Some x) e h = absurd (not_within l v q x ts h)

within_is : (limits : Limits) (s : ReadState) (p : Position) (ts : List TokenModel) (l : Limits) (v : ReadState) (q : Position)
    → limit_run (within limits s p) ts ≡ within l v q → IsWithin limits s p ts l v q
within_is limits s p [] l v q h = let e = same_within limits l s v p q h in record { same_limits = e.0; reads_so = e.1; opens_so = e.2; keeps = refl }
within_is limits (reading.open_at ls) p (t ∷ ts) l v q h =
    let s = reading.open_at ls in
    within_next limits s p t ts l v q (within_is limits (step s t) (after p t) ts l v q) (token_excess limits p t) refl h
within_is limits (reading.wanted ls) p (t ∷ ts) l v q h =
    let s = reading.wanted ls in
    within_next limits s p t ts l v q (within_is limits (step s t) (after p t) ts l v q) (token_excess limits p t) refl h
within_is limits (reading.marked ls) p (t ∷ ts) l v q h =
    let s = reading.marked ls in
    within_next limits s p t ts l v q (within_is limits (step s t) (after p t) ts l v q) (token_excess limits p t) refl h
within_is limits (done x) p (t ∷ ts) l v q h = absurd (not_spent l v q ts h)
within_is limits (rejected f) p (t ∷ ts) l v q h = absurd (not_spent l v q ts h)

-- ---- the first token beyond a limit

record IsBeyond (limits : Limits) (s : ReadState) (p : Position) (ts : List TokenModel) (e : limit.Excess) : Type 0 where
  pub front : List TokenModel
  pub last : TokenModel
  pub split : ts ≡ front ++ last ∷ []
  pub goes : IsGoing (reading.run s front)
  pub keeps : excess limits p front ≡ None
  pub exceeds : excess limits p ts ≡ Some e

spent_beyond : (e : limit.Excess) (ts : List TokenModel) → limit_run spent ts ≡ beyond e → ⊥
spent_beyond e ts h = let f : spent ≡ beyond e = sym (run_spent ts) ∙ h in cc

not_beyond : (limits : Limits) (s : ReadState) (p : Position) (e : limit.Excess) → within limits s p ≡ beyond e → ⊥
not_beyond limits s p e h = cc

same_beyond : (x e : limit.Excess) → beyond x ≡ beyond e → x ≡ e
same_beyond x e h = cc

beyond_next : (limits : Limits) (s : ReadState) (p : Position) (t : TokenModel) (ts : List TokenModel) (e : limit.Excess) → IsGoing s
    → (limit_run (within limits (step s t) (after p t)) ts ≡ beyond e → IsBeyond limits (step s t) (after p t) ts e)
    → (o : Option limit.Excess) → token_excess limits p t ≡ o → limit_run (unless_beyond o (within limits (step s t) (after p t))) ts ≡ beyond e
    → IsBeyond limits s p (t ∷ ts) e
beyond_next limits s p t ts e g more None x h =
    let b = more h in
    record {
      front = t ∷ b.front;
      last = b.last;
      split = ap (λ us. t ∷ us) b.split;
      goes = b.goes;
      keeps = ap (λ o. keeps_next limits o (after p t) b.front) x ∙ b.keeps;
      exceeds = ap (λ o. keeps_next limits o (after p t) ts) x ∙ b.exceeds;
    }
beyond_next limits s p t [] e g more (Some y) x h = record {
  front = [];
  last = t;
  split = refl;
  goes = g;
  keeps = refl;
  exceeds = ap (λ o. keeps_next limits o (after p t) []) x ∙ ap Some (same_beyond y e h);
}
beyond_next limits s p t (u ∷ ts) e g more (Some y) x h = absurd (spent_beyond e ts h)

beyond_is : (limits : Limits) (s : ReadState) (p : Position) (ts : List TokenModel) (e : limit.Excess) → limit_run (within limits s p) ts ≡ beyond e → IsBeyond limits s p ts e
beyond_is limits s p [] e h = absurd (not_beyond limits s p e h)
beyond_is limits (reading.open_at ls) p (t ∷ ts) e h =
    let s = reading.open_at ls in
    beyond_next limits s p t ts e tt (beyond_is limits (step s t) (after p t) ts e) (token_excess limits p t) refl h
beyond_is limits (reading.wanted ls) p (t ∷ ts) e h =
    let s = reading.wanted ls in
    beyond_next limits s p t ts e tt (beyond_is limits (step s t) (after p t) ts e) (token_excess limits p t) refl h
beyond_is limits (reading.marked ls) p (t ∷ ts) e h =
    let s = reading.marked ls in
    beyond_next limits s p t ts e tt (beyond_is limits (step s t) (after p t) ts e) (token_excess limits p t) refl h
beyond_is limits (done x) p (t ∷ ts) e h = absurd (spent_beyond e ts h)
beyond_is limits (rejected f) p (t ∷ ts) e h = absurd (spent_beyond e ts h)

-- ---- the tokens of a source

split_state : (x : LimitState) → GoesOn x → (l : Limits) × (s : ReadState) × (q : Position) × (x ≡ within l s q)
split_state (within l s q) g = (l, s, q, refl)
split_state (beyond e) g = absurd g
split_state spent g = absurd g

module _ (limits : Limits) (before tail : List TokenModel) where
  abbrev Later : (LimitState → Type 0) → (LimitState → TokenModel → Rejection → Type 0) → Rejection → Type 0
  Later goes rejects r = consuming.RejectsLater limit_step goes rejects (limit_start limits) before tail r

  abbrev Rejected : Rejection → Type 0
  Rejected r = consuming.RejectsLater step IsGoing Rejects start before tail r × Taken (KeepsWithin limits) before tail

  rejected_in : (r : Rejection) (p : List TokenModel) (t : TokenModel) → before ≡ p ++ t ∷ tail → (l : Limits) (s : ReadState) (q : Position)
      → limit_run (limit_start limits) p ≡ within l s q → GoesOn (limit_run (limit_start limits) p) → RejectsWithin (limit_run (limit_start limits) p) t r → Rejected r
  rejected_in r p t e l s q k g h =
      let w = within_is limits start limit.start p l s q k in
      let goes : IsGoing s = subst GoesOn k g in
      let rejects : RejectsWithin (within l s q) t r = subst (λ x. RejectsWithin x t r) k h in
      let none : token_excess limits (over limit.start p) t ≡ None = ap (λ x. token_excess x (over limit.start p) t) w.same_limits ∙ ap (λ x. token_excess l x t) w.opens_so ∙ rejects.1 in (
        (p, t, e, subst IsGoing (sym w.reads_so) goes, subst (λ x. Rejects x t r) (sym w.reads_so) rejects.0),
        (
          p ++ t ∷ [],
          e ∙ sym (append_assoc p (t ∷ []) tail),
          none_of_both limits limit.start p (t ∷ []) w.keeps (ap (λ o. or_later o None) none),
        ),
      )

  later : (r : Rejection) → Later GoesOn RejectsWithin r → Rejected r
  later r (p, t, e, g, h) =
      let x = split_state (limit_run (limit_start limits) p) g in
      rejected_in r p t e x.0 x.1 x.2 x.3 g h

  stopped_in : (p : List TokenModel) (l : Limits) (s : ReadState) (q : Position) → limit_run (limit_start limits) p ≡ within l s q → IsGoing s
      → IsGoing (reading.run start p) × KeepsWithin limits p
  stopped_in p l s q k g = let w = within_is limits start limit.start p l s q k in (subst IsGoing (sym w.reads_so) g, w.keeps)

  stopped : (p : List TokenModel) → GoesOn (limit_run (limit_start limits) p) → IsGoing (reading.run start p) × KeepsWithin limits p
  stopped p g =
      let x = split_state (limit_run (limit_start limits) p) g in
      stopped_in p x.0 x.1 x.2 x.3 (subst GoesOn x.3 g)

  exceeded : (e : limit.Excess) (p : List TokenModel) → before ≡ p ++ tail → limit_run (limit_start limits) p ≡ beyond e → Beyond limits e before tail
  exceeded e p split h =
      let b = beyond_is limits start limit.start p e h in (
        b.front,
        b.last,
        split ∙ ap (λ ts. ts ++ tail) b.split ∙ append_assoc b.front (b.last ∷ []) tail,
        b.goes,
        b.keeps,
        sym (ap (excess limits limit.start) b.split) ∙ b.exceeds,
      )

  -- reading within limits is reading, up to the first token beyond one
  pub reads_within : {F : Type 0} (r : Result (Result Ipld Excess) (TokenError F)) → ConsumedWithin limits before tail r → ReadsWithin limits before tail (flatten r)
  reads_within (Ok (Ok v)) (p, e, (l, q, h)) = let w = within_is limits start limit.start p l (done (tree_of v)) q h in (p, e, (w.reads_so, w.keeps))
  reads_within (Ok (Err which.TooDeep)) (p, e, h) = exceeded limit.too_deep p e h
  reads_within (Ok (Err which.TooMany)) (p, e, h) = exceeded limit.too_many p e h
  reads_within {F} (Err error.Memory) h = let x = later rejection.Memory h in (reads before tail {F = F} (Err error.Memory) x.0, x.1)
  reads_within (Err (error.Source fault)) (p, e, g) = let x = stopped p g in ((p, e, x.0), (p, e, x.1))
  reads_within {F} (Err error.Token) h = let x = later rejection.Token h in (reads before tail {F = F} (Err error.Token) x.0, x.1)
  reads_within {F} (Err (error.Cid cid_error)) h = let x = later (rejection.Cid cid_error) h in (reads before tail {F = F} (Err (error.Cid cid_error)) x.0, x.1)
  reads_within (Err error.End) (g, e) = let x = stopped before g in ((x.0, e), (before, sym (ap (λ ts. before ++ ts) e ∙ append-nil before), x.1))
  reads_within {F} (Err error.DuplicateKey) h = let x = later rejection.DuplicateKey h in (reads before tail {F = F} (Err error.DuplicateKey) x.0, x.1)
