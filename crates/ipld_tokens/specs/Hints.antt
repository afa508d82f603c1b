-- This file defines the length hints of lists and maps (serde's data model).
use Rattle.std.specs.Prelude.{◌≡◌, ℕ, suc, List, ◌∷◌, ◌++◌, length, Option, Some, None, Result, Ok, Err}
use Rattle.ipld_tree.specs.Tree.{Tree, Items, no_items, item, Members}
use Rattle.ipld_tree.specs.Tree as tree
use Rattle.ipld_tree.specs.IsWhole.{keys_in}
use Rattle.ipld_tokens.specs.Token.{TokenModel}
use Rattle.ipld_tokens.specs.TreeTokens.{tokens_of_tree}
use Rattle.ipld_tokens.specs.declared.token.Token.{Token}
use Rattle.ipld_tokens.specs.declared.token.Token.TheVariants as token

-- the length hint of a token that begins a list or a map (the hint itself may be absent)
abbrev pub hint_of : Token → Option (Option ℕ)
hint_of (token.Seq hint) = Some hint
hint_of (token.Map hint) = Some hint
hint_of _ = None

-- True if a returned token has the first hint of `before`, and `after` are the other hints. If no
-- token is returned, `after` equals `before`.
abbrev pub KeepsHints : {F : Type 0} → List (Option (Option ℕ)) → List (Option (Option ℕ)) → Result (Option Token) F → Type 0
KeepsHints before after (Ok (Some t)) = before ≡ hint_of t ∷ after
KeepsHints before after (Ok None) = after ≡ before
KeepsHints before after (Err cid_error) = after ≡ before

abbrev pub count_of : Items → ℕ
count_of no_items = 0
count_of (item t ts) = suc (count_of ts)

-- True if the hint of the token is the length of the tree, for `Seq` and a list or `Map` and a map.
-- True for other tokens and trees.
abbrev pub Counts : Token → Tree → Type 0
Counts (token.Seq hint) (tree.list ts) = hint ≡ Some (count_of ts)
Counts (token.Map hint) (tree.entries ms) = hint ≡ Some (length (keys_in ms))
Counts _ _ = Unit {0}

-- True if `before` begins with the tokens of a list (for `Seq`) or a map (for `Map`) whose length
-- is the hint of the token. True for every other token.
abbrev pub CountsFirst : Token → List TokenModel → Type 0
CountsFirst (token.Seq hint) before =
    (ts : Items) × (rest : List TokenModel) × (before ≡ tokens_of_tree (tree.list ts) ++ rest) × (hint ≡ Some (count_of ts))
CountsFirst (token.Map hint) before =
    (ms : Members) × (rest : List TokenModel) × (before ≡ tokens_of_tree (tree.entries ms) ++ rest) × (hint ≡ Some (length (keys_in ms)))
CountsFirst _ before = Unit {0}

-- True if `CountsFirst` holds of a returned token, or no token is returned.
abbrev pub Counted : {F : Type 0} → List TokenModel → Result (Option Token) F → Type 0
Counted before (Ok (Some t)) = CountsFirst t before
Counted before (Ok None) = Unit {0}
Counted before (Err cid_error) = Unit {0}
