-- The results of the exports about a block. They read all of DAG-CBOR, including 64-bit floats.
use Rattle.std.specs.Prelude.{◌≡◌, ◌⊎◌, ℕ, Bool, true, false, List, length, map, option_map, Some, None}
use Rattle.ipld_cid.specs.Cid.{Link}
use Rattle.ipld_tree.specs.declared.limits.Limits.{Limits}
use Rattle.dag_cbor_format.specs.KeysAscend.{is_sorted}
use Rattle.dag_cbor_format.specs.Trace.{Position, error_in, links_read, positions_read}
use Rattle.dag_cbor_blocks.specs.Counting.{limit_passed}
use Rattle.dag_cbor_blocks.specs.Within.{StopsAt}
use Rattle.dag_cbor_blocks.specs.declared.block_error.BlockErrorKind.{BlockErrorKind}
use Rattle.kombilad_c.specs.declared.cid_record.CidBytes.{CidBytes}
use Rattle.kombilad_c.specs.declared.positions.Span.{Span}
use Rattle.kombilad_c.specs.Status.{limit_status}
use Rattle.kombilad_c.specs.Fill.{Variable, Fills, IsUntouched}
use Rattle.kombilad_c.specs.CidRecord.{record_of}

-- True if reading the bytes stopped at a limit, at their first error or at a failed allocation. The
-- status is the number of the cause, and `offset` is its byte. After a failed allocation it may be
-- any byte up to the end.
pub record IsStopped (limits : Limits) (block : List ℕ) (status offset : ℕ) : Type 0 where
  pub kind : BlockErrorKind
  pub stops : StopsAt true limits block kind offset
  pub failed : status ≡ limit_status kind

-- True if the bytes pass no limit, and the offset is as before.
pub record IsWithin (limits : Limits) (block : List ℕ) (before after : ℕ) : Type 0 where
  pub within : limit_passed true limits block ≡ None
  pub same : after ≡ before

-- True if the bytes are a block and the status is 0, or reading them stopped.
abbrev pub Checks : Limits → List ℕ → ℕ → ℕ → ℕ → Type 0
Checks limits block status before after =
    (IsWithin limits block before after × (error_in true block ≡ None) × (status ≡ 0)) ⊎ IsStopped limits block status after

-- True if `count` is the number of the block's links, and the status is 0. Or reading the block
-- stopped, and only the offset is written.
abbrev pub CountsLinks : Limits → List ℕ → (status : ℕ) → (count offset : Variable ℕ) → Type 0
CountsLinks limits block status count offset =
    (IsWithin limits block offset.before offset.after
    × (option_map length (links_read true block) ≡ Some count.after) × (status ≡ 0))
    ⊎ (IsStopped limits block status offset.after × (count.after ≡ count.before))

-- True if the records of the CIDs of the block's links go to the buffer. Or reading the block
-- stopped, and only the offset is written.
abbrev pub ListsLinks :
    Limits → List ℕ → (status : ℕ) → Variable (List CidBytes) → (needed offset : Variable ℕ) → Type 0
ListsLinks limits block status buffer needed offset =
    (IsWithin limits block offset.before offset.after × (links : List Link)
    × (links_read true block ≡ Some links)
    × Fills (map record_of links) status buffer.before buffer.after needed.after)
    ⊎ (IsStopped limits block status offset.after
    × IsUntouched buffer.before buffer.after needed.before needed.after)

-- The position of a CID as a C struct.
abbrev pub span_of : Position → Span
span_of p = record { offset = p.0; len = p.1 }

-- True if the positions of the CIDs of the block's links go to the buffer. Or reading the block
-- stopped, and only the offset is written.
abbrev pub ListsPositions :
    Limits → List ℕ → (status : ℕ) → Variable (List Span) → (needed offset : Variable ℕ) → Type 0
ListsPositions limits block status buffer needed offset =
    (IsWithin limits block offset.before offset.after × (positions : List Position)
    × (positions_read true block ≡ Some positions)
    × Fills (map span_of positions) status buffer.before buffer.after needed.after)
    ⊎ (IsStopped limits block status offset.after
    × IsUntouched buffer.before buffer.after needed.before needed.after)

-- The status of keys: 0 if they are in order, and otherwise 3.
abbrev pub order_status : Bool → ℕ
order_status true = 0
order_status false = 3

-- True if the status is 0 for a block with the keys of all maps in length-first order, and 3 for
-- another block. Or reading the bytes stopped.
abbrev pub ChecksOrder : Limits → List ℕ → ℕ → ℕ → ℕ → Type 0
ChecksOrder limits block status before after =
    (IsWithin limits block before after × (sorted : Bool) × (is_sorted true block ≡ Some sorted) × (status ≡ order_status sorted))
    ⊎ IsStopped limits block status after
