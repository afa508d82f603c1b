-- The walk of a tree: the tree, then the values inside it, in order (IPLD data model). Keys of maps
-- are not values, and are not visited.
use Rattle.std.specs.Prelude.{ℕ, suc, ◌+◌, max, List, [], ◌∷◌, ◌++◌}
use Rattle.ipld_cid.specs.Cid.{Link}
use Rattle.ipld_tree.specs.Tree.{Tree, null, boolean, integer, text, bytes, list, entries, link, Items, no_items, item, Members, no_members, member}

abbrev mutual
  -- The tree and then the values inside it, in order.
  pub preorder : Tree → List Tree
  preorder null = null ∷ []
  preorder (boolean b) = boolean b ∷ []
  preorder (integer n) = integer n ∷ []
  preorder (text s) = text s ∷ []
  preorder (bytes b) = bytes b ∷ []
  preorder (list ts) = list ts ∷ items_preorder ts
  preorder (entries ms) = entries ms ∷ members_preorder ms
  preorder (link l) = link l ∷ []

  pub items_preorder : Items → List Tree
  items_preorder no_items = []
  items_preorder (item t ts) = preorder t ++ items_preorder ts

  pub members_preorder : Members → List Tree
  members_preorder no_members = []
  members_preorder (member k t ms) = preorder t ++ members_preorder ms

abbrev mutual
  -- The number of levels that lists and maps nest.
  pub nest : Tree → ℕ
  nest null = 0
  nest (boolean b) = 0
  nest (integer n) = 0
  nest (text s) = 0
  nest (bytes b) = 0
  nest (list ts) = suc (items_nest ts)
  nest (entries ms) = suc (members_nest ms)
  nest (link l) = 0

  pub items_nest : Items → ℕ
  items_nest no_items = 0
  items_nest (item t ts) = max (nest t) (items_nest ts)

  pub members_nest : Members → ℕ
  members_nest no_members = 0
  members_nest (member k t ms) = max (nest t) (members_nest ms)

-- 1 for a list or a map, and 0 for other trees
abbrev pub container : Tree → ℕ
container null = 0
container (boolean b) = 0
container (integer n) = 0
container (text s) = 0
container (bytes b) = 0
container (list ts) = 1
container (entries ms) = 1
container (link l) = 0

-- The number of lists and maps among the trees.
abbrev pub containers : List Tree → ℕ
containers [] = 0
containers (t ∷ ts) = container t + containers ts

-- a list of the link if the tree is one, and otherwise an empty list
abbrev pub own_link : Tree → List Link
own_link null = []
own_link (boolean b) = []
own_link (integer n) = []
own_link (text s) = []
own_link (bytes b) = []
own_link (list ts) = []
own_link (entries ms) = []
own_link (link l) = l ∷ []

-- the links among the trees, in their order, repeats included
abbrev pub links_among : List Tree → List Link
links_among [] = []
links_among (t ∷ ts) = own_link t ++ links_among ts

-- The links of the walk, in order, repeats included.
abbrev pub links_of : Tree → List Link
links_of t = links_among (preorder t)
