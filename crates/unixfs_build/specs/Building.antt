-- What the calls of a `FileBuilder` do.
use Rattle.std.specs.Prelude.{◌≡◌, ◌<◌, ℕ, List, [], ◌∷◌, length, map}
use Rattle.std.specs.List.{All}
use Rattle.unixfs_build.specs.Blocks.{Built, BuiltBlock, leaf_of, no_attributes}
use Rattle.unixfs_build.specs.Faults.{IsBlockFault}
use Rattle.unixfs_build.specs.Roots.{HasLeaf, leaf_part}
use Rattle.unixfs_build.specs.Levels.{added, new_nodes, last_nodes, AddFault, LastFault, Wait}
use Rattle.unixfs_build.specs.declared.builder.FileBuilder.{FileBuilder}
use Rattle.unixfs_build.specs.declared.error.BuildError.{BuildError}
use Rattle.unixfs_build.specs.declared.layout.Attributes.{Attributes}
use Rattle.unixfs_build.specs.declared.layout.Layout.{Layout}

-- True if these chunks, and no others, were pushed to a builder.
pub record HasChunks (chunks : List (List ℕ)) (builder : FileBuilder) : Type 0 where
  pub wide : 1 < builder.layout.width
  pub leaves : All (λ (chunk : List ℕ). HasLeaf builder.layout chunk) chunks
  pub waiting : Wait builder.layout builder.levels.items (map (leaf_part builder.layout) chunks)

-- the blocks that are made when a chunk is pushed
abbrev pub pushed_blocks : FileBuilder → List ℕ → List BuiltBlock
pushed_blocks builder chunk = leaf_of builder.layout no_attributes chunk ∷ new_nodes builder.layout builder.levels.items (leaf_part builder.layout chunk)

-- True if a builder has a chunk more.
pub record Pushes (old new : FileBuilder) (chunk : List ℕ) : Type 0 where
  pub layout : new.layout ≡ old.layout
  pub levels : new.levels.items ≡ added old.layout old.levels.items (leaf_part old.layout chunk)

-- True if a builder is as it was.
pub record Stays (old new : FileBuilder) : Type 0 where
  pub layout : new.layout ≡ old.layout
  pub levels : new.levels.items ≡ old.levels.items

-- True if a chunk can't be pushed for this reason.
pub data PushFault (builder : FileBuilder) (chunk : List ℕ) (error : BuildError) : Type 0 where
  of_leaf : IsBlockFault no_attributes (leaf_of builder.layout no_attributes chunk) error → PushFault builder chunk error
  of_node : AddFault builder.layout builder.levels.items (leaf_part builder.layout chunk) error → PushFault builder chunk error

-- the blocks that are made of the last chunk
abbrev pub finished_on : Layout → Attributes → List (List Built) → List ℕ → List BuiltBlock
finished_on layout attributes [] chunk = leaf_of layout attributes chunk ∷ []
finished_on layout attributes (low ∷ above) chunk = leaf_of layout no_attributes chunk ∷ last_nodes layout attributes (low ∷ above) (leaf_part layout chunk)

-- the same, of a builder
abbrev pub finished_blocks : FileBuilder → Attributes → List ℕ → List BuiltBlock
finished_blocks builder attributes chunk = finished_on builder.layout attributes builder.levels.items chunk

-- True if a file can't be finished for this reason.
pub data FinishFault (builder : FileBuilder) (attributes : Attributes) (chunk : List ℕ) (error : BuildError) : Type 0 where
  of_only_leaf : builder.levels.items ≡ [] → IsBlockFault attributes (leaf_of builder.layout attributes chunk) error → FinishFault builder attributes chunk error
  of_last_leaf : 0 < length builder.levels.items → IsBlockFault no_attributes (leaf_of builder.layout no_attributes chunk) error → FinishFault builder attributes chunk error
  of_last_node : 0 < length builder.levels.items → LastFault builder.layout attributes builder.levels.items (leaf_part builder.layout chunk) error → FinishFault builder attributes chunk error
