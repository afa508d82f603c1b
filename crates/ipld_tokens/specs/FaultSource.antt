-- This file models a source over a slice that fails after n calls. Its tokens and hints are those
-- of a source over the slice that does not fail.
use Rattle.std.specs.Prelude.{ℕ, Bool, List, [], Option}
use Rattle.ipld_tokens.specs.Token.{TokenModel}
use Rattle.ipld_tokens.specs.SliceSource as slice
use Rattle.ipld_tokens.specs.declared.fault_source.FaultSource.{FaultSource}

-- the tokens that remain in the source
abbrev pub tokens_left : FaultSource → List TokenModel
tokens_left source = slice.tokens_left source.source

-- the hints of the tokens that remain
abbrev pub hints_left : FaultSource → List (Option (Option ℕ))
hints_left source = slice.hints_left source.source

-- the number of calls that still succeed
abbrev pub calls_left : FaultSource → ℕ
calls_left source = source.calls

-- Returns whether the source has failed.
abbrev pub has_stopped : FaultSource → Bool
has_stopped source = source.stopped

-- the bytes that the tokens come from: an empty list
abbrev pub origin_of : FaultSource → List ℕ
origin_of source = []
