-- This file models a source of the tokens of a tree.
use Rattle.std.specs.Prelude.{◌≡◌, ℕ, Bool, List, [], ◌∷◌, ◌++◌}
use Rattle.std.specs.Borrow.{Bor}
use Rattle.ipld_cid.specs.Bytes.{bytes_of}
use Rattle.ipld_cid.specs.LinkOf.{link_of}
use Rattle.ipld_cid.specs.declared.cid.CidGeneric.{CidGeneric}
use Rattle.ipld_tokens.specs.Token.{TokenModel, bytes}
use Rattle.ipld_tokens.specs.IpldTokens.{all_left}
use Rattle.ipld_tokens.specs.declared.tree_tokens.TokenCursor.{TokenCursor}
use Rattle.ipld_tokens.specs.declared.tree_tokens.TokenCursor.TheVariants.{Encoding}
use Rattle.ipld_tokens.specs.declared.tree_tokens.IpldTokens.{IpldTokens}

-- the tokens that remain in the source
abbrev pub tokens_left : IpldTokens → List TokenModel
tokens_left source = all_left source.stack.items

abbrev pub has_stopped : IpldTokens → Bool
has_stopped source = source.failed

-- the bytes that the tokens come from: an empty list
abbrev pub origin_of : IpldTokens → List ℕ
origin_of source = []

-- True if the innermost cursor has only the bytes of a link, and they are the next token. The
-- tokens of the outer cursors follow.
abbrev pub IsAtLink : IpldTokens → Type 0
IsAtLink source =
    (outer : List TokenCursor) × (cid : Bor (CidGeneric 64)) × (source.stack.items ≡ outer ++ Encoding cid ∷ [])
    × (tokens_left source ≡ bytes (bytes_of (link_of cid.now)) ∷ all_left outer)
