-- A path into a tree (IPLD data model, pathing): a key for every map and an index for every list on
-- the way.
use Rattle.std.specs.Prelude.{ℕ, List, [], ◌∷◌, Option, Some, None, option_and_then}
use Rattle.ipld_tree.specs.Tree.{Tree, list, entries}
use Rattle.ipld_tree.specs.Index.{item_at, value_at}

-- a key of a map, or an index of a list
pub data Step : Type 0 where
  key : List ℕ → Step
  index : ℕ → Step

-- the value of the key, if the tree is a map that has it
abbrev pub at_key : List ℕ → Tree → Option Tree
at_key k (entries ms) = value_at k ms
at_key k t = None

-- the item at the index, if the tree is a list that has it
abbrev pub at_index : ℕ → Tree → Option Tree
at_index n (list ts) = item_at n ts
at_index n t = None

-- the value that a step leads to, if any
abbrev pub step_into : Step → Tree → Option Tree
step_into (key k) t = at_key k t
step_into (index n) t = at_index n t

-- the value at the end of the steps, if any. Without steps it is the tree itself.
abbrev pub at_path : List Step → Tree → Option Tree
at_path [] t = Some t
at_path (s ∷ ss) t = option_and_then (at_path ss) (step_into s t)
