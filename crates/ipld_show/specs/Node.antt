-- The tree of a node of DAG-PB (IPLD's DAG-PB specification, "Logical Format"). It is a map of
-- `Data`, if the node has data, and `Links`. A link is a map of `Hash`, `Name` and `Tsize`, the
-- last two if the link has them.
use Rattle.std.specs.Prelude.{ℕ, pos, List, [], ◌∷◌, codes, Option, Some, None}
use Rattle.ipld_tree.specs.Tree.{Tree, integer, text, bytes, list, entries, link, Items, no_items, item, Members, no_members, member}
use Rattle.dag_pb.specs.Node.{LinkParts, NodeParts}

-- a member before others, if there is a value
abbrev pub optional : {A : Type 0} → List ℕ → (A → Tree) → Option A → Members → Members
optional key tree None others = others
optional key tree (Some x) others = member key (tree x) others

-- The tree of a link of DAG-PB (DAG-PB specification, "Logical Format").
abbrev pub link_tree : LinkParts → Tree
link_tree l = entries (member (codes "Hash") (link l.hash) (optional (codes "Name") text l.name (optional (codes "Tsize") (λ n. integer (pos n)) l.tsize no_members)))

-- the trees of links
abbrev pub link_trees : List LinkParts → Items
link_trees [] = no_items
link_trees (l ∷ ls) = item (link_tree l) (link_trees ls)

-- The tree of a node of DAG-PB (DAG-PB specification, "Logical Format").
abbrev pub node_tree : NodeParts → Tree
node_tree node = entries (optional (codes "Data") bytes node.content (member (codes "Links") (list (link_trees node.links)) no_members))
