-- This file defines the tokens that are an item, and those that are the beginning of one.
use Rattle.std.specs.Prelude.{◌≡◌, ℕ, List, ◌∷◌, ◌++◌}
use Rattle.ipld_tokens.specs.Token.{TokenModel}
use Rattle.ipld_tokens.specs.Item.{Item, tokens_of}

-- True if the tokens are those of one item.
abbrev pub IsItem : ℕ → List TokenModel → Type 0
IsItem S tokens = (i : Item S) × (tokens_of i ≡ tokens)

-- True if the tokens are the beginning of an item that has at least one more token.
abbrev pub IsOpen : ℕ → List TokenModel → Type 0
IsOpen S tokens = (i : Item S) × (next : TokenModel) × (rest : List TokenModel) × (tokens_of i ≡ tokens ++ next ∷ rest)
