-- The parts that wait for a node, level by level. The lowest level is the first.
use Rattle.std.specs.Prelude.{◌≡◌, ◌<◌, ◌≤◌, suc, nat_lt, if◌then◌else◌, List, [], ◌∷◌, ◌++◌, length}
use Rattle.std.specs.List.{All}
use Rattle.unixfs_build.specs.Blocks.{Built, BuiltBlock, node_of, node_over, no_attributes}
use Rattle.unixfs_build.specs.Faults.{IsBlockFault}
use Rattle.unixfs_build.specs.Roots.{IsFullGroup, nodes_over, joined}
use Rattle.unixfs_build.specs.declared.error.BuildError.{BuildError}
use Rattle.unixfs_build.specs.declared.error.BuildError.TheVariants.{Memory}
use Rattle.unixfs_build.specs.declared.layout.Attributes.{Attributes}
use Rattle.unixfs_build.specs.declared.layout.Layout.{Layout}

-- The levels after a part was added to the lowest. A level that is then full becomes a node of the
-- level above it.
abbrev pub added : Layout → List (List Built) → Built → List (List Built)
added layout [] part = (part ∷ []) ∷ []
added layout (low ∷ above) part =
    if nat_lt (suc (length low)) layout.width then (low ++ part ∷ []) ∷ above
    else [] ∷ added layout above (node_over layout (low ++ part ∷ [])).part

-- the nodes that are made when a part is added, from the lowest up
abbrev pub new_nodes : Layout → List (List Built) → Built → List BuiltBlock
new_nodes layout [] part = []
new_nodes layout (low ∷ above) part =
    if nat_lt (suc (length low)) layout.width then []
    else node_over layout (low ++ part ∷ []) ∷ new_nodes layout above (node_over layout (low ++ part ∷ [])).part

-- the nodes that are made when a part is the last, from the lowest up
abbrev pub last_nodes : Layout → Attributes → List (List Built) → Built → List BuiltBlock
last_nodes layout attributes [] part = []
last_nodes layout attributes (low ∷ []) part = node_of layout.version attributes [] (low ++ part ∷ []) ∷ []
last_nodes layout attributes (low ∷ next ∷ above) part =
    node_over layout (low ++ part ∷ []) ∷ last_nodes layout attributes (next ∷ above) (node_over layout (low ++ part ∷ [])).part

-- True if a part can't be added for this reason: an allocation failed, or a node that is made for it
-- is too large.
pub data AddFault (layout : Layout) : List (List Built) → Built → BuildError → Type 0 where
  no_memory : {levels : List (List Built)} {part : Built} {error : BuildError} → error ≡ Memory → AddFault layout levels part error
  of_full : {levels : List (List Built)} {part : Built} {error : BuildError} (low : List Built) (above : List (List Built))
      → levels ≡ low ∷ above → layout.width ≤ suc (length low) → IsBlockFault no_attributes (node_over layout (low ++ part ∷ [])) error
      → AddFault layout levels part error
  upper : {levels : List (List Built)} {part : Built} {error : BuildError} (low : List Built) (above : List (List Built))
      → levels ≡ low ∷ above → layout.width ≤ suc (length low) → AddFault layout above (node_over layout (low ++ part ∷ [])).part error
      → AddFault layout levels part error

-- True if the nodes over all parts can't be made for this reason.
pub data LastFault (layout : Layout) (attributes : Attributes) : List (List Built) → Built → BuildError → Type 0 where
  no_room : {levels : List (List Built)} {part : Built} {error : BuildError} → error ≡ Memory → LastFault layout attributes levels part error
  of_root : {levels : List (List Built)} {part : Built} {error : BuildError} (low : List Built) → levels ≡ low ∷ []
      → IsBlockFault attributes (node_of layout.version attributes [] (low ++ part ∷ [])) error → LastFault layout attributes levels part error
  of_node : {levels : List (List Built)} {part : Built} {error : BuildError} (low next : List Built) (above : List (List Built)) → levels ≡ low ∷ next ∷ above
      → IsBlockFault no_attributes (node_over layout (low ++ part ∷ [])) error → LastFault layout attributes levels part error
  higher : {levels : List (List Built)} {part : Built} {error : BuildError} (low next : List Built) (above : List (List Built)) → levels ≡ low ∷ next ∷ above
      → LastFault layout attributes (next ∷ above) (node_over layout (low ++ part ∷ [])).part error → LastFault layout attributes levels part error

-- True if these parts wait on the levels: the last of them on the lowest level, and above it the
-- nodes over the groups of the others.
pub data Wait (layout : Layout) : List (List Built) → List Built → Type 0 where
  nothing : {levels : List (List Built)} {parts : List Built} → levels ≡ [] → parts ≡ [] → Wait layout levels parts
  level : {levels : List (List Built)} {parts : List Built} (low : List Built) (above : List (List Built)) (groups : List (List Built))
      → levels ≡ low ∷ above → parts ≡ joined groups ++ low → length low < layout.width
      → All (λ (group : List Built). IsFullGroup layout group) groups → (above ≡ [] → 0 < length low)
      → Wait layout above (nodes_over layout groups) → Wait layout levels parts
