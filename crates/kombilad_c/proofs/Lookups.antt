-- The blocks of a search, at their places in the bytes.
use Rattle.std.proofs.Common.{◌≡◌, ℕ, zero, suc, ◌<◌, List, [], ◌∷◌, length, get_or, Some, None, refl, sym, ap, ◌∙◌, arith}
use Rattle.std.specs.Prelude.{map}
use Rattle.ipld_cid.specs.Cid.{Link}
use Rattle.unixfs_folders.specs.Lookups.{Descends, at_root, at_shard}
use Rattle.kombilad_c.specs.declared.positions.Span.{Span}
use Rattle.kombilad_c.specs.Lookup.{content_at, block_at}

-- the block with an index
there : (bytes : List ℕ) (places : List Span) (index : ℕ) (d : Span) → index < length places → block_at index (map (content_at bytes) places) ≡ Some (content_at bytes (get_or places index d))
there bytes [] index d few = absurd (omega (arith, few))
there bytes (p ∷ places) zero d few = refl
there bytes (p ∷ places) (suc index) d few = there bytes places index d (omega (arith, few))

pub block_there : (bytes : List ℕ) (places : List Span) (index : ℕ) (d : Span) (block : List ℕ) → block ≡ content_at bytes (get_or places index d) → index < length places
    → block_at index (map (content_at bytes) places) ≡ Some block
block_there bytes places index d block is few = there bytes places index d few ∙ ap Some (sym is)

-- without a hash function a search is at its root
pub at_top : (root at : Link) (name : List ℕ) (depth : ℕ) → Descends (λ code bytes. None) root name depth at → depth ≡ 0
at_top root at name depth (at_root top is) = top
at_top root at name depth (at_shard above from slots slot rest walk shard hash link deep) = absurd (let no = shard.1.is_block in cc)
