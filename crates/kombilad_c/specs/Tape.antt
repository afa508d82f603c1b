-- The result of the export that lists the values of a block.
use Rattle.std.specs.Prelude.{◌≡◌, ◌⊎◌, ℕ, true, false, List}
use Rattle.ipld_tree.specs.declared.limits.Limits.{Limits}
use Rattle.dag_cbor_blocks.specs.Tape.{IsTapeOf, all_short}
use Rattle.dag_cbor_blocks.specs.declared.tape.TapeEntry.{TapeEntry}
use Rattle.kombilad_c.specs.Block.{IsWithin, IsStopped}
use Rattle.kombilad_c.specs.Fill.{Variable, Fills, IsUntouched}

-- True if an entry of the block's tape has a length of 2^32 or more. The status is 8, and the
-- offset is as before.
pub record IsTooLong (limits : Limits) (block : List ℕ) (status before after : ℕ) : Type 0 where
  pub entries : List TapeEntry
  pub is_tape : IsTapeOf entries block
  pub long : all_short entries ≡ false
  pub within : IsWithin limits block before after
  pub failed : status ≡ 8

-- True if the entries of the block's values and keys, with lengths below 2^32, go to the buffer. Or
-- one of them would be longer, and nothing is written. Or reading the block stopped, and only the
-- offset is written.
abbrev pub ListsTape :
    Limits → List ℕ → (status : ℕ) → Variable (List TapeEntry) → (needed offset : Variable ℕ) → Type 0
ListsTape limits block status buffer needed offset =
    (IsWithin limits block offset.before offset.after × (entries : List TapeEntry)
    × IsTapeOf entries block × (all_short entries ≡ true)
    × Fills entries status buffer.before buffer.after needed.after)
    ⊎ (IsTooLong limits block status offset.before offset.after
    × IsUntouched buffer.before buffer.after needed.before needed.after)
    ⊎ (IsStopped limits block status offset.after
    × IsUntouched buffer.before buffer.after needed.before needed.after)

-- True if the status is one of a call that lists a block's values: 0 or 2
abbrev pub IsListed : ℕ → Type 0
IsListed status = (status ≡ 0) ⊎ (status ≡ 2)
