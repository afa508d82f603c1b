-- The tokens and trees that the writer has left to write.
use Rattle.std.specs.Prelude.{◌≡◌, ℕ, ◌+◌, ◌*◌, ◌<◌, Bool, true, false, List, [], ◌∷◌, ◌++◌, length, Option, Some, None}
use Rattle.std.specs.Borrow.{Bor}
use Rattle.std.specs.Slice.Iter.{iter_rest}
use Rattle.ipld_tree.specs.Tree.{Tree}
use Rattle.ipld_tree.specs.TreeOf.{tree_of, items_of, members_of}
use Rattle.ipld_tree.specs.Walk.{preorder, items_preorder, members_preorder}
use Rattle.ipld_tree.specs.declared.ipld.Ipld.{Ipld}
use Rattle.json.specs.Token.{Token}
use Rattle.json.specs.Tree.{json_tokens, items_tokens, members_tokens}
use Rattle.json.specs.Written.{Written}
use Rattle.dag_json.specs.Form.{json_of, items_json, members_json, Wrote}
use Rattle.dag_json.specs.Reserved.{any_reserved, has_reserved}
use Rattle.dag_json.specs.declared.encode.JsonCursor.{JsonCursor}
use Rattle.dag_json.specs.declared.encode.JsonCursor.TheVariants.{Itself, Items, Entries}

-- the tokens that a cursor has left to write, and the trees that it has left (`trees_of`)
abbrev pub tokens_of : JsonCursor → List Token
tokens_of (Itself None) = []
tokens_of (Itself (Some x)) = json_tokens (json_of (tree_of x.now))
tokens_of (Items xs) = items_tokens (items_json (items_of (iter_rest xs)))
tokens_of (Entries es) = members_tokens (members_json (members_of es))

abbrev pub trees_of : JsonCursor → List Tree
trees_of (Itself None) = []
trees_of (Itself (Some x)) = preorder (tree_of x.now)
trees_of (Items xs) = items_preorder (items_of (iter_rest xs))
trees_of (Entries es) = members_preorder (members_of es)

-- the elements of all cursors, beginning with the innermost cursor, which is the last in the list
abbrev pub all_of : {A : Type 0} → (JsonCursor → List A) → List JsonCursor → List A
all_of f [] = []
all_of f (c ∷ cs) = all_of f cs ++ f c

abbrev pub all_tokens : List JsonCursor → List Token
all_tokens cs = all_of tokens_of cs

abbrev pub all_trees : List JsonCursor → List Tree
all_trees cs = all_of trees_of cs

-- the tokens that are left if a cursor is open inside others, and the trees (`trees_left`)
abbrev pub tokens_left : JsonCursor → List JsonCursor → List Token
tokens_left innermost outer = tokens_of innermost ++ all_tokens outer

abbrev pub trees_left : JsonCursor → List JsonCursor → List Tree
trees_left innermost outer = trees_of innermost ++ all_trees outer

-- True if the tokens before the next value `x` were written, and `after` has the cursor's tokens
-- and trees after `x`. Without a next value, all tokens of the cursor were written, and it had no
-- trees left.
abbrev pub Advances : JsonCursor → Written → Option (Bor Ipld) → JsonCursor → Written → Type 0
Advances before old None after new = Wrote old new (tokens_of before) × (trees_of before ≡ [])
Advances before old (Some x) after new =
    (front : List Token) × Wrote old new front × (tokens_of before ≡ front ++ (json_tokens (json_of (tree_of x.now)) ++ tokens_of after))
    × (trees_of before ≡ preorder (tree_of x.now) ++ trees_of after)

-- True if the first tokens of a tree were written, and the cursors have the rest of it. The tree
-- has a reserved map if and only if the rest has one. There are fewer cursors than twice the tokens
-- that were written.
pub record Begins (t : Tree) (old : Written) (cursors : List JsonCursor) (new : Written) : Type 0 where
  pub front : List Token
  pub wrote : Wrote old new front
  pub tokens : json_tokens (json_of t) ≡ front ++ all_tokens cursors
  pub reserved : has_reserved t ≡ any_reserved (all_trees cursors)
  pub shrinks : length cursors < 2 * length front

-- True if the first tokens of a tree were written, and the cursors of the rest were put inside the
-- others.
pub record Opens (t : Tree) (innermost : JsonCursor) (outer : List JsonCursor) (old : Written) (innermost' : JsonCursor) (outer' : List JsonCursor) (new : Written) : Type 0 where
  pub cursors : List JsonCursor
  pub inside : outer' ++ innermost' ∷ [] ≡ (outer ++ innermost ∷ []) ++ cursors
  pub begins : Begins t old cursors new

-- True if the first of the remaining tokens were written. A remaining tree is reserved after it if
-- and only if one was before.
pub record Goes (tokens : List Token) (trees : List Tree) (old : Written) (tokens' : List Token) (trees' : List Tree) (new : Written) : Type 0 where
  pub front : List Token
  pub wrote : Wrote old new front
  pub same : tokens ≡ front ++ tokens'
  pub reserved : any_reserved trees ≡ any_reserved trees'

abbrev pub load : JsonCursor → List JsonCursor → ℕ
load innermost outer = 2 * length (tokens_left innermost outer) + length outer

-- True if an iteration of the loop wrote the first of the remaining tokens and decreased the load.
-- If the bool is false, it wrote all remaining tokens, and no tree was left.
abbrev pub StepOf : Bool → JsonCursor → List JsonCursor → Written → JsonCursor → List JsonCursor → Written → Type 0
StepOf false innermost outer old innermost' outer' new = Wrote old new (tokens_left innermost outer) × (trees_left innermost outer ≡ [])
StepOf true innermost outer old innermost' outer' new =
    Goes (tokens_left innermost outer) (trees_left innermost outer) old (tokens_left innermost' outer') (trees_left innermost' outer') new
    × (load innermost' outer' < load innermost outer)
