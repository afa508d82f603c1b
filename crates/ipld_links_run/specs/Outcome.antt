-- The outcomes of the words `links` and `refs` for tokens.
use Rattle.std.specs.Prelude.{◌≡◌, ℕ, List, ◌∷◌, ◌++◌, codes, Some, Result, Ok, Err}
use Rattle.ipld_cid.specs.declared.error.CidError.{CidError}
use Rattle.ipld_cid.specs.Cid.{Link}
use Rattle.ipld_tree.specs.Tree.{Tree}
use Rattle.ipld_tree.specs.Walk.{links_of}
use Rattle.ipld_tokens.specs.Token.{TokenModel}
use Rattle.ipld_tokens.specs.Item.{Item, tokens_of, links_in}
use Rattle.ipld_tokens.specs.ItemTree.{tree_of_item}
use Rattle.ipld_tokens.specs.Fronts.{IsOpen}
use Rattle.ipld_tokens.specs.CutTrees.{EndsWrong, EndsInBadCid, EndsWithRepeatedKey, IsUnfinished}
use Rattle.ipld_tokens.specs.ExtractContract.{IsRejected, IsLinkBytes}

-- links, or the name of the error
abbrev pub Outcome : Type 0
Outcome = Result (List Link) (List ℕ)

-- The cases of tokens for `links`. An item comes first, or a token with which no item is possible,
-- or the tokens are only the beginning of an item. Such a token is `cid` if it is bytes after a
-- link mark, and otherwise `token`.
pub data ItemCase (tokens : List TokenModel) : Type 0 where
  item : (i : Item 64) (rest : List TokenModel) → tokens ≡ tokens_of i ++ rest → ItemCase tokens
  token : (front rest : List TokenModel) (t : TokenModel) → tokens ≡ front ++ t ∷ rest → IsRejected 64 front t → (IsLinkBytes front t → ⊥) → ItemCase tokens
  cid : (front rest : List TokenModel) (t : TokenModel) → tokens ≡ front ++ t ∷ rest → IsRejected 64 front t → IsLinkBytes front t → ItemCase tokens
  end : IsOpen 64 tokens → ItemCase tokens

-- the links of the item, or the name of the error
abbrev pub outcome_in : {tokens : List TokenModel} → ItemCase tokens → Outcome
outcome_in (item i rest is) = Ok (links_in i)
outcome_in (token front rest t is fails other) = Err (codes "Token")
outcome_in (cid front rest t is fails bytes) = Err (codes "Cid")
outcome_in (end begins) = Err (codes "End")

-- True if the outcome is the links of the item that comes first, or the name of the error. The
-- errors are a token with which no item is possible, bytes that are not a CID, and an item that is
-- not complete.
pub record LinksOutcome (tokens : List TokenModel) (outcome : Outcome) : Type 0 where
  pub case : ItemCase tokens
  pub exact : (c : ItemCase tokens) → outcome ≡ outcome_in c

-- The cases of tokens for `refs`. An item that has a tree comes first, or the tokens are only the
-- beginning of a tree. Or their front ends with a token that can't be there, with bytes after a
-- link mark that are not a CID, or with the value of a repeated key.
pub data TreeCase (tokens : List TokenModel) : Type 0 where
  tree : (i : Item 64) (t : Tree) (rest : List TokenModel) → tokens ≡ tokens_of i ++ rest → tree_of_item i ≡ Some t → TreeCase tokens
  wrong_token : (front rest : List TokenModel) → tokens ≡ front ++ rest → EndsWrong front → TreeCase tokens
  wrong_cid : (front rest : List TokenModel) (error : CidError) → tokens ≡ front ++ rest → EndsInBadCid error front → TreeCase tokens
  repeated_key : (front rest : List TokenModel) → tokens ≡ front ++ rest → EndsWithRepeatedKey front → TreeCase tokens
  unfinished : IsUnfinished tokens → TreeCase tokens

-- the links of the tree, or the name of the error
abbrev pub tree_outcome_in : {tokens : List TokenModel} → TreeCase tokens → Outcome
tree_outcome_in (tree i t rest is has) = Ok (links_of t)
tree_outcome_in (wrong_token front rest is ends) = Err (codes "Token")
tree_outcome_in (wrong_cid front rest error is ends) = Err (codes "Cid")
tree_outcome_in (repeated_key front rest is ends) = Err (codes "DuplicateKey")
tree_outcome_in (unfinished begins) = Err (codes "End")

-- True if the outcome is the links of the tree that comes first, or the name of the error.
pub record ReferencesOutcome (tokens : List TokenModel) (outcome : Outcome) : Type 0 where
  pub case : TreeCase tokens
  pub exact : (c : TreeCase tokens) → outcome ≡ tree_outcome_in c
