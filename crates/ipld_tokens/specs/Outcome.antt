-- This file states the outcome of a call that reads an item from tokens, case by case: success, a
-- failed allocation, a failed source, or an error of the tokens.
use Rattle.std.specs.Prelude.{◌≡◌, Bool, true, false, List, ◌++◌, Result, Ok, Err}
use Rattle.ipld_cid.specs.declared.error.CidError.{CidError}
use Rattle.ipld_tokens.specs.Token.{TokenModel}
use Rattle.ipld_tokens.specs.declared.error.TokenError.{TokenError}
use Rattle.ipld_tokens.specs.declared.error.TokenError.TheVariants.{Memory, Source, Token, Cid, End, DuplicateKey}

-- True if zero or more tokens were taken from the front of `before`, and `after` are the others.
abbrev pub Leaves : List TokenModel → List TokenModel → Type 0
Leaves before after = (taken : List TokenModel) × (before ≡ taken ++ after)

-- True if tokens that satisfy `P` were taken from the front of `before`, and `after` are the
-- others.
abbrev pub Taken : (List TokenModel → Type 0) → List TokenModel → List TokenModel → Type 0
Taken P before after = (taken : List TokenModel) × (before ≡ taken ++ after) × P taken

-- True if `P` holds, or the result is not the error `Memory`.
abbrev pub IfMemory : {A F : Type 0} → Result A (TokenError F) → Type 0 → Type 0
IfMemory (Err Memory) P = P
IfMemory _ P = Unit {0}

-- True if `P` holds, or the result is not the error `Token`.
abbrev pub IfToken : {A F : Type 0} → Result A (TokenError F) → Type 0 → Type 0
IfToken (Err Token) P = P
IfToken _ P = Unit {0}

-- True if `P` holds of the error of the bytes, or the result is not the error `Cid`.
abbrev pub IfCid : {A F : Type 0} → Result A (TokenError F) → (CidError → Type 0) → Type 0
IfCid (Err (Cid cid_error)) P = P cid_error
IfCid _ P = Unit {0}

-- True if `P` holds, or the result is not the error `End`.
abbrev pub IfEnd : {A F : Type 0} → Result A (TokenError F) → Type 0 → Type 0
IfEnd (Err End) P = P
IfEnd _ P = Unit {0}

-- True if `P` holds of the error of the source, or the result is not the error `Source`.
abbrev pub IfSource : {A F : Type 0} → Result A (TokenError F) → (F → Type 0) → Type 0
IfSource (Err (Source fault)) P = P fault
IfSource _ P = Unit {0}

-- True if `P` holds, or the result is not the error `DuplicateKey`.
abbrev pub IfDuplicateKey : {A F : Type 0} → Result A (TokenError F) → Type 0 → Type 0
IfDuplicateKey (Err DuplicateKey) P = P
IfDuplicateKey _ P = Unit {0}

-- True if `P` holds, or neither an allocation nor the source failed.
abbrev pub IfStopped : {A F : Type 0} → Result A (TokenError F) → Type 0 → Type 0
IfStopped (Err Memory) P = P
IfStopped (Err (Source fault)) P = P
IfStopped _ P = Unit {0}

-- Returns whether the result is the error `Source`.
abbrev pub is_source : {A F : Type 0} → Result A (TokenError F) → Bool
is_source (Err (Source fault)) = true
is_source _ = false

-- True if the condition for the result holds: `found` for a value, and `token`, `cid`, `end` or
-- `repeated` for an error of the tokens. Always true if an allocation or the source failed.
abbrev pub outcome_of : {A F : Type 0} → Result A (TokenError F) → (A → Type 0) → Type 0 → (CidError → Type 0) → Type 0 → Type 0 → Type 0
outcome_of (Ok x) found token cid end repeated = found x
outcome_of (Err Memory) found token cid end repeated = Unit {0}
outcome_of (Err (Source fault)) found token cid end repeated = Unit {0}
outcome_of (Err Token) found token cid end repeated = token
outcome_of (Err (Cid cid_error)) found token cid end repeated = cid cid_error
outcome_of (Err End) found token cid end repeated = end
outcome_of (Err DuplicateKey) found token cid end repeated = repeated

-- True if the call returned a value that satisfies `P`, or an allocation or the source failed.
abbrev pub FindsUnless : {A F : Type 0} → Result A (TokenError F) → (A → Type 0) → Type 0
FindsUnless result P = outcome_of result P ⊥ (λ _. ⊥) ⊥ ⊥

-- True if the result is the error `Token` and `P` holds, or an allocation or the source failed.
abbrev pub TokenUnless : {A F : Type 0} → Result A (TokenError F) → Type 0 → Type 0
TokenUnless result P = outcome_of result (λ _. ⊥) P (λ _. ⊥) ⊥ ⊥

-- True if the result is the error `Cid` with `reason` and `P` holds, or an allocation or the source
-- failed.
abbrev pub CidUnless : {A F : Type 0} → CidError → Result A (TokenError F) → Type 0 → Type 0
CidUnless reason result P = outcome_of result (λ _. ⊥) ⊥ (λ cid_error. (cid_error ≡ reason) × P) ⊥ ⊥

-- True if the result is the error `DuplicateKey` and `P` holds, or an allocation or the source
-- failed.
abbrev pub KeyUnless : {A F : Type 0} → Result A (TokenError F) → Type 0 → Type 0
KeyUnless result P = outcome_of result (λ _. ⊥) ⊥ (λ _. ⊥) ⊥ P

-- True if the result is the error `Token` or `Cid` and `P` holds, or an allocation or the source
-- failed.
abbrev pub RejectsUnless : {A F : Type 0} → Result A (TokenError F) → Type 0 → Type 0
RejectsUnless result P = outcome_of result (λ _. ⊥) P (λ _. P) ⊥ ⊥

-- True if the result is the error `End`, or an allocation or the source failed.
abbrev pub EndsUnless : {A F : Type 0} → Result A (TokenError F) → Type 0
EndsUnless result = outcome_of result (λ _. ⊥) ⊥ (λ _. ⊥) (Unit {0}) ⊥
