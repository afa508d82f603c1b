-- This file specifies the results of a source of tokens.
use Rattle.std.specs.Prelude.{◌≡◌, List, [], ◌∷◌, Option, Some, None, Result, Ok, Err}
use Rattle.ipld_tokens.specs.Token.{TokenModel, erase}
use Rattle.ipld_tokens.specs.declared.token.Token.{Token}

-- True if a returned token is the first of `before`, and `after` are the others. `None` is returned
-- only if no token remains and the source may end. An error is one that `may_fail` allows, and
-- leaves the remaining tokens unchanged.
abbrev pub NextToken : {F : Type 0} → (F → Type 0) → Type 0 → List TokenModel → List TokenModel → Result (Option Token) F → Type 0
NextToken may_fail may_end before after (Ok (Some token)) = before ≡ erase token ∷ after
NextToken may_fail may_end before after (Ok None) = (before ≡ []) × (after ≡ []) × may_end
NextToken may_fail may_end before after (Err fault) = (after ≡ before) × may_fail fault
