-- This file specifies the result of reading a tree within limits from a source of tokens, in terms
-- of the machine.
use Rattle.std.specs.Prelude.{◌≡◌, List, [], ◌∷◌, ◌++◌, Some, Result, Ok, Err}
use Rattle.ipld_tree.specs.TreeOf.{tree_of}
use Rattle.ipld_tree.specs.declared.ipld.Ipld.{Ipld}
use Rattle.ipld_tree.specs.declared.limits.Limits.{Limits}
use Rattle.ipld_tokens.specs.Token.{TokenModel}
use Rattle.ipld_tokens.specs.ConsumerMachine.{Consumes}
use Rattle.ipld_tokens.specs.ReadMachine.{done, run, start, IsGoing}
use Rattle.ipld_tokens.specs.ReadContract.{Reads}
use Rattle.ipld_tokens.specs.Outcome.{Taken}
use Rattle.ipld_tokens.specs.Excess as limit
use Rattle.ipld_tokens.specs.Excess.{too_deep, too_many, excess}
use Rattle.ipld_tokens.specs.LimitOutcome.{KeepsWithin}
use Rattle.ipld_tokens.specs.LimitMachine.{limit_step, limit_start, GoesOn, RejectsWithin, HasOutput}
use Rattle.ipld_tokens.specs.declared.error.TokenError.{TokenError}
use Rattle.ipld_tokens.specs.declared.error.ReadError.{ReadError}
use Rattle.ipld_tokens.specs.declared.error.ReadError.TheVariants.{TooDeep, TooMany, Token}
use Rattle.ipld_tokens.specs.declared.limited_reader.Excess.{Excess}
use Rattle.ipld_tokens.specs.declared.limited_reader.Excess.TheVariants as which

-- True if a call takes tokens and returns a result as the machine with limits does from its start.
abbrev pub ConsumedWithin : {F : Type 0} → Limits → List TokenModel → List TokenModel → Result (Result Ipld Excess) (TokenError F) → Type 0
ConsumedWithin limits = Consumes limit_step GoesOn RejectsWithin HasOutput (limit_start limits)

-- the result of the call, from the result of the machine
abbrev pub flatten : {F : Type 0} → Result (Result Ipld Excess) (TokenError F) → Result Ipld (ReadError F)
flatten (Ok (Ok v)) = Ok v
flatten (Ok (Err which.TooDeep)) = Err TooDeep
flatten (Ok (Err which.TooMany)) = Err TooMany
flatten (Err token_error) = Err (Token token_error)

-- True if the last taken token is the first beyond a limit and exceeds `e`, and `after` are the
-- others. Before it, the machine is neither complete nor rejected.
abbrev pub Beyond : Limits → limit.Excess → List TokenModel → List TokenModel → Type 0
Beyond limits e before after =
    (p : List TokenModel) × (t : TokenModel) × (before ≡ p ++ t ∷ after) × IsGoing (run start p) × KeepsWithin limits p × (excess limits limit.start (p ++ t ∷ []) ≡ Some e)

-- True if the result matches the machine without limits and the taken tokens are within the limits,
-- or the error is a limit and `Beyond` holds for it.
abbrev pub ReadsWithin : {F : Type 0} → Limits → List TokenModel → List TokenModel → Result Ipld (ReadError F) → Type 0
ReadsWithin limits before after (Ok v) = Taken (λ ts. (run start ts ≡ done (tree_of v)) × KeepsWithin limits ts) before after
ReadsWithin limits before after (Err TooDeep) = Beyond limits too_deep before after
ReadsWithin limits before after (Err TooMany) = Beyond limits too_many before after
ReadsWithin limits before after (Err (Token token_error)) = Reads before after (Err token_error) × Taken (KeepsWithin limits) before after
