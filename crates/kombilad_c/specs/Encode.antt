-- The result of the export that writes the block of a tape.
use Rattle.std.specs.Prelude.{◌≡◌, ◌⊎◌, ℕ, List, length, Err}
use Rattle.ipld_tokens.specs.Item.{Item}
use Rattle.dag_cbor_blocks.specs.declared.tape.TapeEntry.{TapeEntry}
use Rattle.dag_cbor_tape.specs.declared.error.EncodeError.{EncodeError}
use Rattle.dag_cbor_tape.specs.Canonical.{Orders}
use Rattle.dag_cbor_tape.specs.Describes.{Describes}
use Rattle.dag_cbor_tape.specs.Encoding.{block_of}
use Rattle.dag_cbor_tape.specs.Memory.{IsOutOfMemory}
use Rattle.kombilad_c.specs.Fill.{Variable, Fills, IsUntouched}
use Rattle.kombilad_c.specs.Status.{encode_status}

-- True if the entries have no block, or an allocation failed. The status is the number of the
-- error, and `at` is the number of its entry.
pub record IsAtFault (over : List ℕ) (entries : List TapeEntry) (status at : ℕ) : Type 0 where
  pub error : EncodeError
  pub why : IsOutOfMemory (length entries) error ⊎ (block_of over entries ≡ Err error)
  pub failed : status ≡ encode_status error.kind
  pub place : at ≡ error.entry

-- True if the canonical block of the item that the entries describe goes to the buffer. Or an entry
-- is invalid, or an allocation failed, and only the number of the entry is written.
abbrev pub WritesTape :
    (over : List ℕ) → List TapeEntry → (status : ℕ) → Variable (List ℕ) → (needed at : Variable ℕ) → Type 0
WritesTape over entries status buffer needed at =
    ((item : Item 64) × (written : List ℕ) × (block : List ℕ)
    × Describes over item entries written × Orders item written block
    × Fills block status buffer.before buffer.after needed.after × (at.after ≡ at.before))
    ⊎ (IsAtFault over entries status at.after
    × IsUntouched buffer.before buffer.after needed.before needed.after)

-- True if the canonical block of the item goes to the buffer, or an allocation failed. `written`
-- are the bytes of the item in the order of the tape.
abbrev pub WritesItem : Item 64 → (written : List ℕ) → (status : ℕ) → (before after : List ℕ) → (needed : ℕ) → Type 0
WritesItem item written status before after needed =
    ((block : List ℕ) × Orders item written block × Fills block status before after needed) ⊎ (status ≡ 1)
