-- This file defines how far a tree is read from tokens (the kinds of serde's data model, read as
-- the IPLD data model), and the tokens that are rejected.
use Rattle.std.specs.Prelude.{◌≡◌, ◌⊎◌, true, List, [], ◌∷◌, ◌++◌, ℕ, Some, IsSome, Err}
use Rattle.ipld_cid.specs.declared.error.CidError.{CidError}
use Rattle.ipld_cid.specs.Bytes.{read_cid}
use Rattle.ipld_tree.specs.Tree.{Tree, Members}
use Rattle.ipld_tokens.specs.Token.{TokenModel, character, text, atom, bytes, some, link, seq, map}
use Rattle.ipld_tokens.specs.Item.{Item, tokens_of, Parts, parts_tokens, Pairs, pairs_tokens}
use Rattle.ipld_tokens.specs.ItemTree.{key_text, has_key, tree_of_item, items_of_parts, members_of_pairs}

-- a tree up to the cut in its tokens
pub data CutTree : Type 0 where
  -- a value must come, or the end of the list if the cut is directly inside a list
  at_value : CutTree
  -- after a link mark, before the bytes of a CID
  at_bytes : CutTree
  -- in an option, with the cut before or in its value
  inside_option : CutTree → CutTree
  -- in a list, after these items, with the cut before or in the next value
  inside_list : Parts 64 → CutTree → CutTree
  -- in a map, after these pairs, before a key or the end of the map
  at_key : Pairs 64 → CutTree
  -- in a map, after these pairs and this key, with the cut before or in its value
  inside_map : Pairs 64 → Item 64 → CutTree → CutTree

-- the tokens before the cut
abbrev pub tokens_before : CutTree → List TokenModel
tokens_before at_value = []
tokens_before at_bytes = link ∷ []
tokens_before (inside_option c) = some ∷ tokens_before c
tokens_before (inside_list is c) = seq ∷ (parts_tokens is ++ tokens_before c)
tokens_before (at_key ps) = map ∷ pairs_tokens ps
tokens_before (inside_map ps key c) = map ∷ (pairs_tokens ps ++ (tokens_of key ++ tokens_before c))

-- True if the complete items and pairs before the cut have trees, and a key whose value is cut is a
-- string or a character.
abbrev pub IsRead : CutTree → Type 0
IsRead at_value = Unit {0}
IsRead at_bytes = Unit {0}
IsRead (inside_option c) = IsRead c
IsRead (inside_list is c) = IsSome (items_of_parts is) × IsRead c
IsRead (at_key ps) = IsSome (members_of_pairs ps)
IsRead (inside_map ps key c) = IsSome (members_of_pairs ps) × IsSome (key_text key) × IsRead c

-- True if the taken tokens are those before a cut that satisfies `IsRead`. So no value is complete.
abbrev pub IsUnfinished : List TokenModel → Type 0
IsUnfinished taken = (c : CutTree) × IsRead c × (taken ≡ tokens_before c)

-- True if the taken tokens are an item that has a tree.
abbrev pub IsTreeItem : List TokenModel → Type 0
IsTreeItem taken = (i : Item 64) × IsSome (tree_of_item i) × (taken ≡ tokens_of i)

-- True if the tokens of an item that has a tree begin with the taken tokens.
abbrev pub BeginsTree : List TokenModel → Type 0
BeginsTree taken = (i : Item 64) × (t : Tree) × (more : List TokenModel) × (tokens_of i ≡ taken ++ more) × (tree_of_item i ≡ Some t)

-- True if the taken tokens end with a link mark and bytes that satisfy `P`, and are unfinished up
-- to the mark.
abbrev pub EndsInLink : (List ℕ → Type 0) → List TokenModel → Type 0
EndsInLink P taken = (front : List TokenModel) × (b : List ℕ) × IsUnfinished (front ++ link ∷ []) × P b × (taken ≡ front ++ link ∷ bytes b ∷ [])

-- True if the taken tokens end with a link mark and bytes, and reading the bytes as a CID fails
-- with `cid_error`.
abbrev pub EndsInBadCid : CidError → List TokenModel → Type 0
EndsInBadCid cid_error = EndsInLink (λ b. read_cid 64 b ≡ Err cid_error)

-- True if the pairs are a map that has the key.
abbrev pub HasKey : Pairs 64 → Item 64 → Type 0
HasKey ps key = (ms : Members) × (k : List ℕ) × (members_of_pairs ps ≡ Some ms) × (key_text key ≡ Some k) × (has_key k ms ≡ true)

-- True if the taken tokens end with the value of a key that its map already has.
abbrev pub EndsWithRepeatedKey : List TokenModel → Type 0
EndsWithRepeatedKey taken =
    (front : List TokenModel) × (ps : Pairs 64) × (key value : Item 64) × IsUnfinished (front ++ map ∷ []) × HasKey ps key × IsSome (tree_of_item value)
    × (taken ≡ front ++ map ∷ (pairs_tokens ps ++ (tokens_of key ++ tokens_of value)))

-- True if the taken tokens end with an invalid token. The tokens before it are unfinished. With it
-- they are neither unfinished nor an item that has a tree. It is not bytes after a link mark, and
-- does not end the value of a repeated key.
abbrev pub EndsWrong : List TokenModel → Type 0
EndsWrong taken =
    (front : List TokenModel) × (t : TokenModel) × IsUnfinished front × (taken ≡ front ++ t ∷ []) × (IsUnfinished taken → ⊥) × (IsTreeItem taken → ⊥)
    × (EndsInLink (λ b. Unit {0}) taken → ⊥) × (EndsWithRepeatedKey taken → ⊥)

-- True if the token is a string, a character or bytes, which are copied.
abbrev pub IsCopied : TokenModel → Type 0
IsCopied (atom (text s)) = Unit {0}
IsCopied (atom (character c)) = Unit {0}
IsCopied (bytes b) = Unit {0}
IsCopied _ = ⊥

-- True if the token is the mark of an option or of a link.
abbrev pub IsMark : TokenModel → Type 0
IsMark some = Unit {0}
IsMark link = Unit {0}
IsMark _ = ⊥

-- True if the taken tokens end with a token that needs memory. Either it is copied, at a place that
-- also allows the mark of an option. Or the taken tokens are unfinished, and it is not a mark: it
-- begins a list or a map, is a key, or completes a value in a list or a map.
abbrev pub EndsAllocating : List TokenModel → Type 0
EndsAllocating taken =
    (front : List TokenModel) × (t : TokenModel) × (taken ≡ front ++ t ∷ [])
    × ((IsUnfinished (front ++ some ∷ []) × IsCopied t) ⊎ (IsUnfinished taken × (IsMark t → ⊥)))
