-- This file specifies the result of extracting links in terms of the machine.
use Rattle.std.specs.Prelude.{◌≡◌, ℕ, List, Result}
use Rattle.ipld_tokens.specs.Token.{TokenModel}
use Rattle.ipld_tokens.specs.ConsumerMachine.{Consumes}
use Rattle.ipld_tokens.specs.ExtractMachine.{ExtractState, done, step, start, IsGoing}
use Rattle.ipld_tokens.specs.ExtractContract.{links_at}
use Rattle.ipld_tokens.specs.ExtractorState.{Rejects}
use Rattle.ipld_tokens.specs.declared.extract_links.ExtractLinks.{ExtractLinks}
use Rattle.ipld_tokens.specs.declared.error.TokenError.{TokenError}

-- True if an item is complete, and its links are those of `x`.
abbrev pub HasLinks : {S : ℕ} → ExtractState → ExtractLinks S → Type 0
HasLinks s x = s ≡ done (links_at x)

-- True if a call takes tokens and returns a result as the machine does from its start.
abbrev pub Extracts : {F : Type 0} (S : ℕ) → List TokenModel → List TokenModel → Result (ExtractLinks S) (TokenError F) → Type 0
Extracts S = Consumes (step S) IsGoing (Rejects S) HasLinks start
