-- The reasons why a block isn't made.
use Rattle.std.specs.Prelude.{◌≡◌, ◌⊎◌, ◌+◌, ◌<◌, ◌≤◌, ◌^◌, ℕ, List, sum, Some}
use Rattle.unixfs.specs.declared.data.UnixTime.{UnixTime}
use Rattle.unixfs_build.specs.Blocks.{Built, BuiltBlock, sizes_of, totals_of, IsTooLarge}
use Rattle.unixfs_build.specs.declared.error.BuildError.{BuildError}
use Rattle.unixfs_build.specs.declared.error.BuildError.TheVariants.{Memory, TooLarge, Nanoseconds}
use Rattle.unixfs_build.specs.declared.layout.Attributes.{Attributes}

-- True if the parts of a node have 2^64 bytes or more, or their blocks do.
abbrev pub AreTooLarge : ℕ → List Built → Type 0
AreTooLarge head parts = (2 ^ 64 ≤ head + sum (sizes_of parts)) ⊎ (2 ^ 64 ≤ sum (totals_of parts))

-- True if the links to these parts aren't made for this reason.
abbrev pub IsLinkFault : ℕ → List Built → BuildError → Type 0
IsLinkFault head parts error = (error ≡ Memory) ⊎ ((error ≡ TooLarge) × AreTooLarge head parts)

-- True if a node with these attributes isn't encoded for this reason.
pub data IsEncodeFault (attributes : Attributes) (error : BuildError) : Type 0 where
  out_of_memory : error ≡ Memory → IsEncodeFault attributes error
  time : (mtime : UnixTime) → error ≡ Nanoseconds mtime.nanoseconds → attributes.mtime ≡ Some mtime → 999999999 < mtime.nanoseconds → IsEncodeFault attributes error

-- True if a block with these attributes isn't made for this reason.
pub data IsBlockFault (attributes : Attributes) (block : BuiltBlock) (error : BuildError) : Type 0 where
  not_encoded : IsEncodeFault attributes error → IsBlockFault attributes block error
  too_large : error ≡ TooLarge → IsTooLarge block.part → IsBlockFault attributes block error
