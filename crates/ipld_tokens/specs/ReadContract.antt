-- This file specifies the result of reading a tree from a source of tokens.
use Rattle.std.specs.Prelude.{◌≡◌, List, [], ◌∷◌, ◌++◌, Some, Result, Ok, Err}
use Rattle.ipld_tree.specs.Tree.{Tree}
use Rattle.ipld_tree.specs.TreeOf.{tree_of}
use Rattle.ipld_tree.specs.declared.ipld.Ipld.{Ipld}
use Rattle.ipld_tokens.specs.Token.{TokenModel}
use Rattle.ipld_tree.specs.Walk.{links_of}
use Rattle.ipld_tokens.specs.Item.{Item, tokens_of, links_in}
use Rattle.ipld_tokens.specs.ItemTree.{tree_of_item}
use Rattle.ipld_tokens.specs.ItemOrder.{KeysAscend}
use Rattle.ipld_tokens.specs.LinkTimes.{SameLinks}
use Rattle.ipld_tokens.specs.ReadMachine.{done, rejected, bad_token, bad_cid, repeated_key, step, run, start, IsGoing, Allocates}
use Rattle.ipld_tokens.specs.declared.error.TokenError.{TokenError}
use Rattle.ipld_tokens.specs.declared.error.TokenError.TheVariants as error
use Rattle.ipld_tokens.specs.Outcome.{Taken}
use Rattle.ipld_tokens.specs.ConsumerMachine.{Consumes}
use Rattle.ipld_tokens.specs.ReaderSteps.{Rejects, HasTree}

-- True if `before` begins with an item whose tree is `t`, and `after` are the other tokens. Every
-- link appears equally often in the item and in the tree. If the keys of the item ascend, the links
-- are also in the same order.
abbrev pub ReadsItem : List TokenModel → List TokenModel → Tree → Type 0
ReadsItem before after t =
    (i : Item 64) × (before ≡ tokens_of i ++ after) × (tree_of_item i ≡ Some t) × SameLinks i t × (KeysAscend i → links_in i ≡ links_of t)

-- True if a call takes tokens and returns a result as the machine does from its start.
abbrev pub Consumed : {F : Type 0} → List TokenModel → List TokenModel → Result Ipld (TokenError F) → Type 0
Consumed = Consumes step IsGoing Rejects HasTree start

-- True if the result matches the state of the machine after the taken tokens, or is `Memory` and
-- the last taken token needs memory.
abbrev pub Reads : {F : Type 0} → List TokenModel → List TokenModel → Result Ipld (TokenError F) → Type 0
Reads before after (Ok v) = Taken (λ ts. run start ts ≡ done (tree_of v)) before after
Reads before after (Err error.Memory) = (p : List TokenModel) × (t : TokenModel) × (before ≡ p ++ t ∷ after) × Allocates (run start p) t
Reads before after (Err (error.Source fault)) = Taken (λ ts. IsGoing (run start ts)) before after
Reads before after (Err error.Token) = Taken (λ ts. run start ts ≡ rejected bad_token) before after
Reads before after (Err (error.Cid cid_error)) = Taken (λ ts. run start ts ≡ rejected (bad_cid cid_error)) before after
Reads before after (Err error.End) = IsGoing (run start before) × (after ≡ [])
Reads before after (Err error.DuplicateKey) = Taken (λ ts. run start ts ≡ rejected repeated_key) before after
