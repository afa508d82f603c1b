-- The balanced layout of a file. The parts of a level are cut into groups of as many as a node has
-- links, of which the last may have fewer, and each group gets a node. This is repeated until one
-- node has links to all parts that are left: the root.
use Rattle.std.specs.Prelude.{◌≡◌, ◌<◌, ◌≤◌, ℕ, List, [], ◌∷◌, ◌++◌, length, map, flat_map}
use Rattle.std.specs.List.{All, concat}
use Rattle.ipld_block.specs.Digest.{digest_by}
use Rattle.unixfs.specs.Files.{Names}
use Rattle.unixfs_build.specs.Blocks.{Built, BuiltBlock, node_of, node_over, leaf_of, no_attributes, Holds}
use Rattle.unixfs_build.specs.declared.layout.Attributes.{Attributes}
use Rattle.unixfs_build.specs.declared.layout.Layout.{Layout}

-- the nodes over groups of parts
abbrev pub nodes_over : Layout → List (List Built) → List Built
nodes_over layout groups = map (λ (group : List Built). (node_over layout group).part) groups

-- the parts of groups, one after another
abbrev pub joined : List (List Built) → List Built
joined groups = flat_map (λ (group : List Built). group) groups

-- True if the node over a group has a block that holds it.
abbrev pub HasNode : Layout → List Built → Type 0
HasNode layout group = Holds (node_over layout group).part [] group

-- True if a group has as many parts as a node has links, and a node.
pub record IsFullGroup (layout : Layout) (group : List Built) : Type 0 where
  pub full : length group ≡ layout.width
  pub node : HasNode layout group

-- True if this is the root over these parts, of which there are two or more.
pub data IsRootOver (layout : Layout) (attributes : Attributes) : List Built → Built → Type 0 where
  top : {parts : List Built} {root : Built} → 1 < length parts → length parts ≤ layout.width
      → root ≡ (node_of layout.version attributes [] parts).part → Holds root [] parts → IsRootOver layout attributes parts root
  below : {parts : List Built} {root : Built} (groups : List (List Built)) (last : List Built) → layout.width < length parts
      → parts ≡ joined groups ++ last → All (λ (group : List Built). IsFullGroup layout group) groups
      → 0 < length last → length last ≤ layout.width → HasNode layout last
      → IsRootOver layout attributes (nodes_over layout groups ++ (node_over layout last).part ∷ []) root
      → IsRootOver layout attributes parts root

-- the leaf of a chunk that isn't the root
abbrev pub leaf_part : Layout → List ℕ → Built
leaf_part layout chunk = (leaf_of layout no_attributes chunk).part

-- True if the leaf of a chunk has a block that holds it.
abbrev pub HasLeaf : Layout → List ℕ → Type 0
HasLeaf layout chunk = Holds (leaf_part layout chunk) chunk []

-- True if this is the root of a file of these chunks: its only leaf, or the root over all leaves.
pub data IsRootOf (layout : Layout) (attributes : Attributes) (chunks : List (List ℕ)) (root : Built) : Type 0 where
  only_leaf : (chunk : List ℕ) → chunks ≡ chunk ∷ [] → root ≡ (leaf_of layout attributes chunk).part → Holds root chunk [] → IsRootOf layout attributes chunks root
  over_leaves : All (λ (chunk : List ℕ). HasLeaf layout chunk) chunks → IsRootOver layout attributes (map (leaf_part layout) chunks) root → IsRootOf layout attributes chunks root

-- True if the last of these blocks is the root over these parts.
pub record EndsInRoot (layout : Layout) (attributes : Attributes) (parts : List Built) (blocks : List BuiltBlock) : Type 0 where
  pub others : List BuiltBlock
  pub root : BuiltBlock
  pub is_last : blocks ≡ others ++ root ∷ []
  pub is_root : IsRootOver layout attributes parts root.part

-- True if the last of these blocks is the root of a file of these chunks, and names their bytes.
pub record EndsInFile (layout : Layout) (attributes : Attributes) (chunks : List (List ℕ)) (blocks : List BuiltBlock) : Type 0 where
  pub others : List BuiltBlock
  pub root : BuiltBlock
  pub is_last : blocks ≡ others ++ root ∷ []
  pub is_root : IsRootOf layout attributes chunks root.part
  pub named : Names digest_by root.part.link (concat chunks)
  pub size : root.part.size ≡ length (concat chunks)
