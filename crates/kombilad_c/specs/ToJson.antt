-- The result of the export that writes a block as DAG-JSON.
use Rattle.std.specs.Prelude.{◌≡◌, ◌⊎◌, ℕ, true, List, [], None}
use Rattle.ipld_tree.specs.declared.limits.Limits.{Limits}
use Rattle.dag_cbor_format.specs.Trace.{error_in}
use Rattle.dag_cbor_blocks.specs.Counting.{limit_passed}
use Rattle.ipld_show.specs.DataItem.{DataItem, BeginsWithItem}
use Rattle.ipld_show.specs.JsonText.{IsJson, IsJsonError}
use Rattle.ipld_show.specs.declared.error.ShowError.TheVariants.{Reserved}
use Rattle.kombilad_c.specs.Block.{IsStopped}
use Rattle.kombilad_c.specs.Fill.{Variable, Fills, IsUntouched}

-- True if the bytes are a block that passes no limit, and encode this data item.
pub record EncodesItem (limits : Limits) (block : List ℕ) (d : DataItem) : Type 0 where
  pub valid : error_in true block ≡ None
  pub within : limit_passed true limits block ≡ None
  pub item : BeginsWithItem d block []

-- True if a map in the item of the block is reserved: as DAG-JSON, it would be read as a link or as
-- bytes. The status is 169, and `offset` is the first byte of the map.
pub record HasReservedMap (limits : Limits) (block : List ℕ) (status offset : ℕ) : Type 0 where
  pub item : DataItem
  pub encodes : EncodesItem limits block item
  pub reserved : IsJsonError item (Reserved offset)
  pub failed : status ≡ 169

-- True if the DAG-JSON of the data item that the block encodes goes to the buffer. Or a map in it
-- is reserved, or reading the block stopped, and only the offset is written.
abbrev pub WritesJson :
    Limits → List ℕ → (status : ℕ) → Variable (List ℕ) → (needed offset : Variable ℕ) → Type 0
WritesJson limits block status buffer needed offset =
    ((d : DataItem) × EncodesItem limits block d × (text : List ℕ) × IsJson d text
    × Fills text status buffer.before buffer.after needed.after × (offset.after ≡ offset.before))
    ⊎ (HasReservedMap limits block status offset.after
    × IsUntouched buffer.before buffer.after needed.before needed.after)
    ⊎ (IsStopped limits block status offset.after
    × IsUntouched buffer.before buffer.after needed.before needed.after)
