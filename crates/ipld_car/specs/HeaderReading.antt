-- The results of reading the block of a header.
use Rattle.std.specs.Prelude.{◌≡◌, ◌-◌, ◌^◌, ℕ, List, map, Result, Ok, Err, Vec}
use Rattle.std.specs.declared.alloc.Global.{Global}
use Rattle.ipld_cid.specs.Cid.{Link}
use Rattle.ipld_cid.specs.LinkOf.{link_of}
use Rattle.ipld_cid.specs.declared.cid.CidGeneric.{CidGeneric}
use Rattle.ipld_tree.specs.Tree.{Tree}
use Rattle.ipld_tree.specs.declared.limits.Limits.{Limits}
use Rattle.dag_cbor_format.specs.declared.error.CborError.TheVariants.{Memory as OutOfMemory}
use Rattle.dag_cbor_format.specs.Encoding.{EncodesTree}
use Rattle.dag_cbor_blocks.specs.declared.block_error.BlockErrorKind.TheVariants.{Cbor}
use Rattle.dag_cbor_blocks.specs.Within.{Stops}
use Rattle.ipld_car.specs.declared.error.CarErrorKind.{CarErrorKind}
use Rattle.ipld_car.specs.declared.error.CarErrorKind.TheVariants.{Memory, HeaderBlock, NotAHeader}
use Rattle.ipld_car.specs.Header.{header_tree}

-- the limits for the block of a header: two levels, and 2^64 - 1 values, for any number of roots
abbrev pub header_limits : Limits
header_limits = record { levels = 2; values = 2 ^ 64 - 1 }

-- True if the bytes encode a tree that is not the tree of a header.
abbrev pub IsOtherBlock : List ℕ → Type 0
IsOtherBlock block = (t : Tree) × EncodesTree t block × ((roots : List Link) → t ≡ header_tree roots → ⊥)

-- True if the result is the roots of the header that the bytes encode, or the reason why they do
-- not encode a header. It is also true if an allocation failed.
abbrev pub ReadsRoots : List ℕ → Result (Vec (CidGeneric 64) Global) CarErrorKind → Type 0
ReadsRoots block (Ok roots) = EncodesTree (header_tree (map link_of roots.items)) block
ReadsRoots block (Err Memory) = Unit {0}
ReadsRoots block (Err (HeaderBlock kind)) = Stops header_limits block kind × (kind ≡ Cbor OutOfMemory → ⊥)
ReadsRoots block (Err NotAHeader) = IsOtherBlock block
ReadsRoots block (Err _) = ⊥
