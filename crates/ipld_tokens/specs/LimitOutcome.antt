-- This file states the outcome of a call that reads a tree within limits from tokens, case by case.
use Rattle.std.specs.Prelude.{◌≡◌, Bool, false, List, [], ◌∷◌, ◌++◌, Some, None, Result, Ok, Err}
use Rattle.ipld_tree.specs.declared.limits.Limits.{Limits}
use Rattle.ipld_tokens.specs.Token.{TokenModel}
use Rattle.ipld_tokens.specs.CutTrees.{IsUnfinished}
use Rattle.ipld_tokens.specs.Excess as limit
use Rattle.ipld_tokens.specs.Excess.{Excess, too_deep, too_many, excess}
use Rattle.ipld_tokens.specs.Outcome.{is_source}
use Rattle.ipld_tokens.specs.declared.error.TokenError.{TokenError}
use Rattle.ipld_tokens.specs.declared.error.TokenError.TheVariants as error
use Rattle.ipld_tokens.specs.declared.error.ReadError.{ReadError}
use Rattle.ipld_tokens.specs.declared.error.ReadError.TheVariants.{TooDeep, TooMany, Token}

-- True if the taken tokens do not open a list or a map too deep, and do not begin a value too many.
abbrev pub KeepsWithin : Limits → List TokenModel → Type 0
KeepsWithin limits taken = excess limits limit.start taken ≡ None

-- True if the taken tokens end with the first token beyond a limit, which exceeds `e`. The tokens
-- before it are unfinished.
abbrev pub EndsBeyond : Limits → Excess → List TokenModel → Type 0
EndsBeyond limits e taken =
    (front : List TokenModel) × (t : TokenModel) × IsUnfinished front × (taken ≡ front ++ t ∷ []) × KeepsWithin limits front × (excess limits limit.start taken ≡ Some e)

-- True if `P` holds, or the result is not the error `TooDeep`.
abbrev pub IfTooDeep : {A F : Type 0} → Result A (ReadError F) → Type 0 → Type 0
IfTooDeep (Err TooDeep) P = P
IfTooDeep _ P = Unit {0}

-- True if `P` holds, or the result is not the error `TooMany`.
abbrev pub IfTooMany : {A F : Type 0} → Result A (ReadError F) → Type 0 → Type 0
IfTooMany (Err TooMany) P = P
IfTooMany _ P = Unit {0}

-- True if `P` holds of the result as one without limits, or the error is a limit.
abbrev pub UnlessBeyond : {A F : Type 0} → Result A (ReadError F) → (Result A (TokenError F) → Type 0) → Type 0
UnlessBeyond (Ok x) P = P (Ok x)
UnlessBeyond (Err TooDeep) P = Unit {0}
UnlessBeyond (Err TooMany) P = Unit {0}
UnlessBeyond (Err (Token token_error)) P = P (Err token_error)

-- True if the error is not a limit, and `P` holds of the result as one without limits.
abbrev pub IsWithinAnd : {A F : Type 0} → Result A (ReadError F) → (Result A (TokenError F) → Type 0) → Type 0
IsWithinAnd (Ok x) P = P (Ok x)
IsWithinAnd (Err TooDeep) P = ⊥
IsWithinAnd (Err TooMany) P = ⊥
IsWithinAnd (Err (Token token_error)) P = P (Err token_error)

-- True if an allocation or the source failed.
abbrev pub HasStopped : {F : Type 0} → TokenError F → Type 0
HasStopped error.Memory = Unit {0}
HasStopped (error.Source fault) = Unit {0}
HasStopped _ = ⊥

-- True if the error is the limit `e` and `P` holds, or an allocation or the source failed.
abbrev pub BeyondUnless : {A F : Type 0} → Excess → Result A (ReadError F) → Type 0 → Type 0
BeyondUnless e (Ok x) P = ⊥
BeyondUnless e (Err TooDeep) P = (e ≡ too_deep) × P
BeyondUnless e (Err TooMany) P = (e ≡ too_many) × P
BeyondUnless e (Err (Token token_error)) P = HasStopped token_error

-- True if the error is a limit, or an allocation or the source failed.
abbrev pub ExceedsUnless : {A F : Type 0} → Result A (ReadError F) → Type 0
ExceedsUnless (Ok x) = ⊥
ExceedsUnless (Err TooDeep) = Unit {0}
ExceedsUnless (Err TooMany) = Unit {0}
ExceedsUnless (Err (Token token_error)) = HasStopped token_error

-- Returns whether the error is that of the source.
abbrev pub is_source_error : {A F : Type 0} → Result A (ReadError F) → Bool
is_source_error (Ok x) = false
is_source_error (Err TooDeep) = false
is_source_error (Err TooMany) = false
is_source_error {A} {F} (Err (Token token_error)) = is_source {A = A} {F = F} (Err token_error)
