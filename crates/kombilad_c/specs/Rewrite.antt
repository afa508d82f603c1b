-- The result of the export that rewrites a block.
use Rattle.std.specs.Prelude.{◌⊎◌, ℕ, List}
use Rattle.ipld_tree.specs.declared.limits.Limits.{Limits}
use Rattle.dag_cbor_tape.specs.Canonical.{IsCanonicalOf}
use Rattle.kombilad_c.specs.Block.{IsWithin, IsStopped}
use Rattle.kombilad_c.specs.Fill.{Variable, Fills, IsUntouched}
use Rattle.kombilad_c.specs.Tape.{IsTooLong}

-- True if the canonical block of the value that the block encodes goes to the buffer. Or an entry
-- of its tape would have a length of 2^32 or more, and nothing is written. Or reading the block
-- stopped, and only the offset is written.
abbrev pub Rewrites :
    Limits → List ℕ → (status : ℕ) → Variable (List ℕ) → (needed offset : Variable ℕ) → Type 0
Rewrites limits block status buffer needed offset =
    (IsWithin limits block offset.before offset.after × (written : List ℕ)
    × IsCanonicalOf block written
    × Fills written status buffer.before buffer.after needed.after)
    ⊎ (IsTooLong limits block status offset.before offset.after
    × IsUntouched buffer.before buffer.after needed.before needed.after)
    ⊎ (IsStopped limits block status offset.after
    × IsUntouched buffer.before buffer.after needed.before needed.after)
