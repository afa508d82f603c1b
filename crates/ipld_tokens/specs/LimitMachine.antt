-- This file defines the state machine that reads a tree within limits. It is the machine that reads
-- a tree, and stops at the first token beyond a limit.
use Rattle.std.specs.Prelude.{◌≡◌, ℕ, Bool, true, false, List, [], ◌∷◌, Option, Some, None, Result, Ok, Err}
use Rattle.ipld_tree.specs.TreeOf.{tree_of}
use Rattle.ipld_tree.specs.declared.ipld.Ipld.{Ipld}
use Rattle.ipld_tree.specs.declared.limits.Limits.{Limits}
use Rattle.ipld_tokens.specs.Token.{TokenModel, some, variant, seq, seq_end, map, map_end}
use Rattle.ipld_tokens.specs.ReadMachine as reading
use Rattle.ipld_tokens.specs.ReadMachine.{ReadState, done, rejected, is_done, IsGoing}
use Rattle.ipld_tokens.specs.Excess as limit
use Rattle.ipld_tokens.specs.Excess.{Position, too_deep, too_many, after, token_excess}
use Rattle.ipld_tokens.specs.ReaderSteps.{Rejects}
use Rattle.ipld_tokens.specs.ReaderState.{state_of}
use Rattle.ipld_tokens.specs.declared.consumer.Rejection.{Rejection}
use Rattle.ipld_tokens.specs.declared.limited_reader.Excess.{Excess}
use Rattle.ipld_tokens.specs.declared.limited_reader.Excess.TheVariants.{TooDeep, TooMany}
use Rattle.ipld_tokens.specs.declared.limited_reader.LimitedReader.{LimitedReader}

pub data LimitState : Type 0 where
  -- within the limits: the state of reading, and the position of the tokens read so far
  within : Limits → ReadState → Position → LimitState
  -- a token exceeded this limit
  beyond : limit.Excess → LimitState
  -- a token came after the end: a complete tree, a rejection or an exceeded limit
  spent : LimitState

abbrev pub unless_beyond : Option limit.Excess → LimitState → LimitState
unless_beyond None s = s
unless_beyond (Some e) s = beyond e

abbrev pub next_within : Limits → ReadState → Position → TokenModel → LimitState
next_within limits (done v) p t = spent
next_within limits (rejected f) p t = spent
next_within limits s p t = unless_beyond (token_excess limits p t) (within limits (reading.step s t) (after p t))

abbrev pub limit_step : LimitState → TokenModel → LimitState
limit_step (within limits s p) t = next_within limits s p t
limit_step (beyond e) t = spent
limit_step spent t = spent

abbrev pub limit_start : Limits → LimitState
limit_start limits = within limits reading.start limit.start

-- True if the state is within the limits, and neither complete nor rejected.
abbrev pub GoesOn : LimitState → Type 0
GoesOn (within limits s p) = IsGoing s
GoesOn (beyond e) = ⊥
GoesOn spent = ⊥

-- Returns whether the tree is complete, a limit was exceeded, or the state is `spent`.
abbrev pub has_ended : LimitState → Bool
has_ended (within limits s p) = is_done s
has_ended (beyond e) = true
has_ended spent = true

-- True if the token `t` is within the limits, and the rejection `r` is possible for it.
abbrev pub RejectsWithin : LimitState → TokenModel → Rejection → Type 0
RejectsWithin (within limits s p) t r = Rejects s t r × (token_excess limits p t ≡ None)
RejectsWithin (beyond e) t r = ⊥
RejectsWithin spent t r = ⊥

abbrev pub excess_of : Excess → limit.Excess
excess_of TooDeep = too_deep
excess_of TooMany = too_many

-- True if the state is complete with the tree of the result, or beyond the limit in the result.
abbrev pub HasOutput : LimitState → Result Ipld Excess → Type 0
HasOutput s (Ok v) = (limits : Limits) × (p : Position) × (s ≡ within limits (done (tree_of v)) p)
HasOutput s (Err e) = s ≡ beyond (excess_of e)

-- ---- the state of a reader

abbrev pub kind : reading.Container → limit.OpenKind
kind (reading.in_list ts) = limit.in_list
kind (reading.in_key ms) = limit.in_key
kind (reading.in_value ms key) = limit.in_value

abbrev pub kinds : List reading.Container → List limit.OpenKind
kinds [] = []
kinds (l ∷ ls) = kind l ∷ kinds ls

-- the position of a reader in a state, after `n` values have begun
abbrev pub position : ReadState → ℕ → Position
position (reading.open_at ls) n = limit.open_at (kinds ls) n
position (reading.wanted ls) n = limit.wanted (kinds ls) n
position (reading.marked ls) n = limit.marked (kinds ls) n
position (done v) n = limit.open_at [] n
position (rejected f) n = limit.open_at [] n

abbrev pub begun : Position → ℕ
begun (limit.open_at os n) = n
begun (limit.wanted os n) = n
begun (limit.marked os n) = n

abbrev pub unless_exceeded : Limits → Option Excess → ReadState → ℕ → LimitState
unless_exceeded limits None s n = within limits s (position s n)
unless_exceeded limits (Some e) s n = beyond (excess_of e)

abbrev pub limit_state : LimitedReader → LimitState
limit_state r = unless_exceeded r.limits r.excess (state_of r.reader) r.values

-- ---- one token

-- Returns whether the token begins a value, if a value may come.
abbrev pub begins_value : TokenModel → Bool
begins_value some = false
begins_value (variant name) = false
begins_value seq_end = false
begins_value map_end = false
begins_value t = true

-- Returns whether the token opens a list or a map, if a value may come.
abbrev pub opens : TokenModel → Bool
opens seq = true
opens map = true
opens t = false

-- True if `t` is within the limits and `n` values have begun after it, or the error is the limit
-- that it exceeds.
abbrev pub Counts : {A : Type 0} → Limits → Position → TokenModel → ℕ → Result A Excess → Type 0
Counts limits p t n (Ok u) = (token_excess limits p t ≡ None) × (n ≡ begun (after p t))
Counts limits p t n (Err e) = token_excess limits p t ≡ Some (excess_of e)
