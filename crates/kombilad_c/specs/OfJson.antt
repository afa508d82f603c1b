-- The result of the export that writes the block of a text in DAG-JSON.
use Rattle.std.specs.Prelude.{◌≡◌, ◌⊎◌, ℕ, true, List, Err}
use Rattle.ipld_tokens.specs.Item.{Item}
use Rattle.ipld_tree.specs.Tree.{Tree}
use Rattle.ipld_tree.specs.declared.limits.Limits.{Limits}
use Rattle.dag_cbor_blocks.specs.declared.tape.TapeEntry.{TapeEntry}
use Rattle.dag_cbor_tape.specs.Canonical.{Orders}
use Rattle.dag_cbor_tape.specs.Describes.{Describes}
use Rattle.dag_json.specs.Encodes.{EncodesWithinIn}
use Rattle.dag_json.specs.Offset.{SaysWhere}
use Rattle.dag_json.specs.ReadContract.{ReadsBytes}
use Rattle.dag_json.specs.Tape.{IsTape}
use Rattle.dag_json.specs.TapeReading.{IsTooLong}
use Rattle.dag_json.specs.declared.read_error.ReadError.{ReadError}
use Rattle.kombilad_c.specs.Fill.{Variable, Fills, IsUntouched}
use Rattle.kombilad_c.specs.Status.{json_status}

-- True if the block is the canonical one of the tree. The tape of the tree describes an item, and
-- the block encodes this item, with the pairs of every map in length-first order of their keys.
pub record IsBlockOf (t : Tree) (block : List ℕ) : Type 0 where
  -- the tape of the tree, over these contents
  pub contents : List ℕ
  pub entries : List TapeEntry
  pub tape : IsTape contents t entries
  -- the item that the tape describes, and its bytes in the order of the tape
  pub item : Item 64
  pub in_turn : List ℕ
  pub describes : Describes contents item entries in_turn
  pub orders : Orders item in_turn block

-- True if reading the text as DAG-JSON stopped, at its first error or at a failed allocation. The
-- status is the number of the cause, and `offset` is its byte. After a failed allocation it may be
-- any byte up to the end.
pub record IsUnread (limits : Limits) (text : List ℕ) (status offset : ℕ) : Type 0 where
  pub error : ReadError
  pub reads : ReadsBytes true limits text (Err error)
  pub stops : SaysWhere true limits text error
  pub failed : status ≡ json_status error.kind
  pub place : offset ≡ error.offset

-- True if the tape of the tree that the text encodes, within the limits, has an entry with a length
-- of 2^32 or more. The status is 8, and the offset is as before.
abbrev pub HasLongTape : Limits → List ℕ → (status : ℕ) → (offset : Variable ℕ) → Type 0
HasLongTape limits text status offset =
    (t : Tree) × EncodesWithinIn true limits t text × IsTooLong t × (status ≡ 8)
    × (offset.after ≡ offset.before)

-- True if the canonical block of the tree that the text encodes, within the limits, goes to the
-- buffer. Or an entry of the tree is too long, and nothing is written. Or reading the text stopped,
-- and only the offset is written.
abbrev pub ReadsJson :
    Limits → List ℕ → (status : ℕ) → Variable (List ℕ) → (needed offset : Variable ℕ) → Type 0
ReadsJson limits text status buffer needed offset =
    ((t : Tree) × EncodesWithinIn true limits t text × (block : List ℕ) × IsBlockOf t block
    × Fills block status buffer.before buffer.after needed.after × (offset.after ≡ offset.before))
    ⊎ (HasLongTape limits text status offset
    × IsUntouched buffer.before buffer.after needed.before needed.after)
    ⊎ (IsUnread limits text status offset.after
    × IsUntouched buffer.before buffer.after needed.before needed.after)

-- True if the canonical block of the tree goes to the buffer, or an entry of the tree is too long,
-- or an allocation failed.
abbrev pub WritesTree : Tree → (status : ℕ) → (before after : List ℕ) → (needed : ℕ) → Type 0
WritesTree t status before after needed =
    ((block : List ℕ) × IsBlockOf t block × Fills block status before after needed)
    ⊎ (IsTooLong t × (status ≡ 8)) ⊎ (status ≡ 1)
