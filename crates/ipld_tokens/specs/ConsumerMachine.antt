-- This file defines the reading of one item by a state machine: the state after some tokens, and
-- the result of taking the tokens of a source.
use Rattle.std.specs.Prelude.{◌≡◌, List, [], ◌∷◌, ◌++◌, Result, Ok, Err, MatchResult}
use Rattle.ipld_tokens.specs.Token.{TokenModel}
use Rattle.ipld_tokens.specs.declared.consumer.Rejection.{Rejection}
use Rattle.ipld_tokens.specs.declared.consumer.Rejection.TheVariants as rejection
use Rattle.ipld_tokens.specs.declared.error.TokenError.{TokenError}
use Rattle.ipld_tokens.specs.declared.error.TokenError.TheVariants.{Memory, Source, Token, Cid, End, DuplicateKey}

-- the error of a rejection
abbrev pub error_of : {F : Type 0} → Rejection → TokenError F
error_of rejection.Memory = Memory
error_of rejection.Token = Token
error_of (rejection.Cid cid_error) = Cid cid_error
error_of rejection.DuplicateKey = DuplicateKey

-- the state after the tokens, one after another, from the state `s`
abbrev pub run : {S : Type 0} → (S → TokenModel → S) → S → List TokenModel → S
run step s [] = s
run step s (t ∷ ts) = run step (step s t) ts

-- True if a successful call leads to the machine's state after the token `t`, and a failed one
-- returns a rejection that `rejects` allows.
abbrev pub Takes : {S A : Type 0} → (S → TokenModel → S) → (S → TokenModel → Rejection → Type 0) → S → TokenModel → S → Result A Rejection → Type 0
Takes step rejects s t next result = MatchResult result (λ _. next ≡ step s t) (rejects s t)

-- True if the first token of `before` was rejected with `r`, and `after` are the others.
abbrev pub RejectsFirst : {S : Type 0} → (S → TokenModel → Rejection → Type 0) → S → List TokenModel → List TokenModel → Rejection → Type 0
RejectsFirst rejects s before after r = (t : TokenModel) × (before ≡ t ∷ after) × rejects s t r

-- True if a successful call takes one token, and `next` is the state after it. A rejected token is
-- also taken. If the source fails, no token is taken, and `End` is returned only if no token
-- remains.
abbrev pub Advances : {S A F : Type 0} → (S → TokenModel → S) → (S → TokenModel → Rejection → Type 0) → S → S → List TokenModel → List TokenModel → Result A (TokenError F) → Type 0
Advances step rejects s next before after (Ok u) = (t : TokenModel) × (before ≡ t ∷ after) × (next ≡ step s t)
Advances step rejects s next before after (Err Memory) = RejectsFirst rejects s before after rejection.Memory
Advances step rejects s next before after (Err (Source fault)) = after ≡ before
Advances step rejects s next before after (Err Token) = RejectsFirst rejects s before after rejection.Token
Advances step rejects s next before after (Err (Cid cid_error)) = RejectsFirst rejects s before after (rejection.Cid cid_error)
Advances step rejects s next before after (Err End) = (before ≡ []) × (after ≡ [])
Advances step rejects s next before after (Err DuplicateKey) = RejectsFirst rejects s before after rejection.DuplicateKey

-- True if a token was rejected with `r`, in a state that satisfies `goes`, and `after` are the
-- tokens after it.
abbrev pub RejectsLater : {S : Type 0} → (S → TokenModel → S) → (S → Type 0) → (S → TokenModel → Rejection → Type 0) → S → List TokenModel → List TokenModel → Rejection → Type 0
RejectsLater step goes rejects s before after r =
    (p : List TokenModel) × (t : TokenModel) × (before ≡ p ++ t ∷ after) × goes (run step s p) × rejects (run step s p) t r

-- True if a successful call takes tokens, and `reads` relates the state after them to the result.
-- An error comes in a state that satisfies `goes`: a token is rejected, the source fails, or no
-- token remains.
abbrev pub Consumes : {S A F : Type 0} → (S → TokenModel → S) → (S → Type 0) → (S → TokenModel → Rejection → Type 0) → (S → A → Type 0) → S → List TokenModel → List TokenModel
    → Result A (TokenError F) → Type 0
Consumes step goes rejects reads s before after (Ok x) = (p : List TokenModel) × (before ≡ p ++ after) × reads (run step s p) x
Consumes step goes rejects reads s before after (Err Memory) = RejectsLater step goes rejects s before after rejection.Memory
Consumes step goes rejects reads s before after (Err (Source fault)) = (p : List TokenModel) × (before ≡ p ++ after) × goes (run step s p)
Consumes step goes rejects reads s before after (Err Token) = RejectsLater step goes rejects s before after rejection.Token
Consumes step goes rejects reads s before after (Err (Cid cid_error)) = RejectsLater step goes rejects s before after (rejection.Cid cid_error)
Consumes step goes rejects reads s before after (Err End) = goes (run step s before) × (after ≡ [])
Consumes step goes rejects reads s before after (Err DuplicateKey) = RejectsLater step goes rejects s before after rejection.DuplicateKey
