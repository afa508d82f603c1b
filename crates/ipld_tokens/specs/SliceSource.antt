-- This file models a source of tokens over a slice.
use Rattle.std.specs.Prelude.{ℕ, Bool, false, List, [], map, Option}
use Rattle.ipld_tokens.specs.Token.{TokenModel, erase}
use Rattle.ipld_tokens.specs.Hints.{hint_of}
use Rattle.ipld_tokens.specs.declared.slice_source.SliceSource.{SliceSource}

-- the tokens that remain in the source
abbrev pub tokens_left : SliceSource → List TokenModel
tokens_left source = map erase source.tokens.now

-- the hints of the tokens that remain
abbrev pub hints_left : SliceSource → List (Option (Option ℕ))
hints_left source = map hint_of source.tokens.now

-- Returns false, because the source never fails.
abbrev pub has_stopped : SliceSource → Bool
has_stopped source = false

-- the bytes that the tokens come from: an empty list
abbrev pub origin_of : SliceSource → List ℕ
origin_of source = []
