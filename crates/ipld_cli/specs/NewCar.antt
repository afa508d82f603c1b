-- The bytes that are written for a new CAR.
use Rattle.std.specs.Prelude.{◌≡◌, ℕ, zero, suc, ◌+◌, ◌-◌, Bool, false, not, ◌&&◌, if◌then◌else◌, List, [], ◌∷◌, ◌++◌, length, map, slice_get, Option, Some, None, option_and_then, option_to_list}
use Rattle.std.specs.List.Sorted.{IsPermutation}
use Rattle.std.specs.Io.KnownBytes.{Appends}
use Rattle.ipld_cid.specs.Bytes.{bytes_of}
use Rattle.ipld_cid.specs.Cid.{Link, hash_of}
use Rattle.ipld_cid.specs.LinkOf.{link_of}
use Rattle.ipld_cid.specs.declared.cid.CidGeneric.{CidGeneric}
use Rattle.ipld_block.specs.Digest.{digest_by}
use Rattle.ipld_car.specs.CarHeader.{header_bytes}
use Rattle.ipld_car.specs.Header.{IsHeader, canonical_header}
use Rattle.ipld_car.specs.Index.{index_bytes}
use Rattle.ipld_car.specs.IndexGrouping.{entries_in, indexed, AreGrouped, IsSplit}
use Rattle.ipld_car.specs.IndexOrder.{AreSorted}
use Rattle.ipld_car.specs.Section.{Block, AreSections}
use Rattle.ipld_car.specs.declared.index.CarIndex.{CarIndex}
use Rattle.ipld_car.specs.declared.index.entry.IndexEntry.{IndexEntry}
use Rattle.ipld_car.specs.declared.index.header.CarHeader.{CarHeader}
use Rattle.car_files.specs.Written.{section_len, sections_len}
use Rattle.ipld_cli.specs.declared.car_sink.CarSink.{CarSink}
use Rattle.ipld_cli.specs.declared.checked_block.CheckedBlock.{CheckedBlock}
use Rattle.ipld_cli.specs.declared.collected_blocks.CollectedBlocks.{CollectedBlocks}
use Rattle.ipld_cli.specs.declared.collected_blocks.Known.{Known}
use Rattle.ipld_cli.specs.declared.collected_blocks.Place.{Place}
use Rattle.ipld_cli.specs.declared.new_car.NewBlock.{NewBlock}
use Rattle.ipld_cli.specs.declared.new_car.NewCar.{NewCar}

-- the model of a block that is to be written: its CID and its bytes
abbrev pub block_of : CheckedBlock → Block
block_of b = record { cid = link_of b.cid.now; bytes = b.bytes.now }

-- the number of bytes after the length in the section of a block that is to be written
abbrev pub content_len : NewBlock → ℕ
content_len block = length (bytes_of (link_of block.cid)) + block.len

-- True if the block has the digest of its CID, or blocks are taken unchecked.
abbrev pub IsTaken : Bool → Block → Type 0
IsTaken is_unchecked block = is_unchecked ≡ false → digest_by block.cid.code block.bytes ≡ Some block.cid.digest

-- True if `IsTaken` holds for each block.
abbrev pub AreTaken : Bool → List Block → Type 0
AreTaken is_unchecked [] = Unit {0}
AreTaken is_unchecked (block ∷ blocks) = IsTaken is_unchecked block × AreTaken is_unchecked blocks

-- The blocks of a new CAR: their CIDs in their order, the size of their sections, and whether they
-- are taken even if they don't have the digest of their CID.
pub record NewBlocks : Type 0 where
  pub cids : List Link
  pub size : ℕ
  pub is_unchecked : Bool

-- the blocks of a CAR that is to be written, whose source has these CIDs
abbrev pub new_blocks : {B : Type 0} → (B → List Link) → (B → Bool) → NewCar B → NewBlocks
new_blocks cids unchecked car = record { cids = cids car.blocks; size = car.size; is_unchecked = unchecked car.blocks }

-- True if these are the blocks of a new CAR.
pub record AreNew (new : NewBlocks) (blocks : List Block) : Type 0 where
  pub cids : map (λ (block : Block). block.cid) blocks ≡ new.cids
  pub sized : sections_len blocks ≡ new.size
  pub are_taken : AreTaken new.is_unchecked blocks

-- the CID of the block at this place among those that were collected, if it is kept
abbrev pub kept_at : CollectedBlocks → Place → Option Link
kept_at collected place = option_and_then (λ (known : CidGeneric 64 × Known). if collected.is_reduced && not known.1.is_reached then None else Some (link_of known.0)) (slice_get collected.known.entries place.known)

-- the CID of the block with this number among those that were collected, if it is kept
abbrev pub kept_cid : CollectedBlocks → ℕ → Option Link
kept_cid collected number = option_and_then (kept_at collected) (slice_get collected.blocks.items number)

-- the CIDs of the blocks that are kept, in their order, of `count` blocks from the one with the
-- number `begin` on
abbrev pub kept_from : CollectedBlocks → ℕ → ℕ → List Link
kept_from collected begin zero = []
kept_from collected begin (suc count) = kept_from collected begin count ++ option_to_list (kept_cid collected (begin + count))

-- the CIDs of the blocks that are kept, in their order, from the one with the number `begin` up to
-- the one before `end`
abbrev pub kept_cids : CollectedBlocks → ℕ → ℕ → List Link
kept_cids collected begin end = kept_from collected begin (end - begin)

-- True if a CAR of version 1 was written after the old bytes of the writer, and nothing else
-- (CARv1). It is the header with these roots, whose block is canonical, and the sections of these
-- blocks in their order.
pub record WritesCar (old new : Option (List ℕ)) (roots : List Link) (blocks : List Block) : Type 0 where
  pub header : List ℕ
  pub sections : List ℕ
  pub is_header : IsHeader header roots
  pub is_canonical : canonical_header roots ≡ Some header
  pub are_sections : AreSections sections blocks
  pub appends : Appends old new (header ++ sections)

-- True if `len` is the length of the header with these roots whose block is canonical.
pub record IsHeaderLen (roots : List Link) (len : ℕ) : Type 0 where
  pub header : List ℕ
  pub is_canonical : canonical_header roots ≡ Some header
  pub counted : len ≡ length header

-- the header of version 2 for a payload of `size` bytes from byte 51 on, with an index right after
-- it
abbrev pub car_header : Bool → ℕ → CarHeader
car_header is_full size = record { is_fully_indexed = is_full; payload = 51; size = size; index = size + 51 }

-- the index entries of the blocks, whose sections follow one another from byte `begin` on
abbrev pub located : ℕ → List Block → List IndexEntry
located begin [] = []
located begin (block ∷ blocks) = record { hash = hash_of block.cid; offset = begin } ∷ located (begin + section_len block) blocks

-- True if a CAR of version 2 was written after the old bytes of the writer, and nothing else
-- (CARv2). It has the pragma and the header, then a payload, then an index. The payload is the
-- header with these roots, whose block is canonical, and the sections of these blocks in their
-- order. The index has a row for every block whose digest has at least one byte, with the offset of
-- the block's section, and no other row. Its rows are sorted, and grouped by hash function and
-- digest length. No group is empty or comes twice. The header's flag for a fully indexed payload
-- may have either value.
pub record WritesIndexedCar (old new : Option (List ℕ)) (roots : List Link) (blocks : List Block) : Type 0 where
  pub header : List ℕ
  pub sections : List ℕ
  pub is_header : IsHeader header roots
  pub is_canonical : canonical_header roots ≡ Some header
  pub are_sections : AreSections sections blocks
  pub index : CarIndex
  pub indexes : IsPermutation (indexed (located (length header) blocks)) (entries_in index)
  pub sorted : AreSorted (entries_in index)
  pub grouped : AreGrouped index
  pub split : IsSplit index
  pub is_full : Bool
  pub appends : Appends old new (header_bytes (car_header is_full (length (header ++ sections))) ++ ((header ++ sections) ++ index_bytes index))

-- The state of a CAR that is being written: what its writer has, the entries of its sections in an
-- index, and the offset at which the next section begins.
pub record Sink : Type 0 where
  pub contents : Option (List ℕ)
  pub rows : List IndexEntry
  pub end : ℕ

-- the state of a sink, whose writer has `contents`
abbrev pub state_of : {W : Type 0} → (W → Option (List ℕ)) → CarSink W → Sink
state_of contents sink = record { contents = contents sink.car.writer; rows = sink.rows.items; end = sink.end }

-- the entries after the sections of these blocks, if entries are kept
abbrev pub rows_after : Bool → List IndexEntry → ℕ → List Block → List IndexEntry
rows_after has_index rows end blocks = if has_index then rows ++ located end blocks else rows

-- True if the sections of blocks with these CIDs were written in their order, and nothing else. Each
-- block has the digest of its CID, or blocks are taken unchecked.
pub record Puts (has_index is_unchecked : Bool) (cids : List Link) (old new : Sink) : Type 0 where
  pub blocks : List Block
  pub sections : List ℕ
  pub are_sections : AreSections sections blocks
  pub have_cids : map (λ (block : Block). block.cid) blocks ≡ cids
  pub are_taken : AreTaken is_unchecked blocks
  pub appends : Appends old.contents new.contents sections
  pub end : new.end ≡ old.end + sections_len blocks
  pub rows : new.rows ≡ rows_after has_index old.rows old.end blocks

-- True if a CAR of version 1 with these roots and blocks was written up to the end of the last
-- section (`WritesCar`), and the sink counts from `begin` on.
pub record WritesPayload (has_index : Bool) (new_blocks : NewBlocks) (begin : ℕ) (old : Option (List ℕ)) (roots : List Link) (new : Sink) : Type 0 where
  pub blocks : List Block
  pub writes : WritesCar old new.contents roots blocks
  pub are_new : AreNew new_blocks blocks
  pub end : new.end ≡ begin + sections_len blocks
  pub rows : new.rows ≡ rows_after has_index [] begin blocks

-- True if a CAR of version 1 with these roots and blocks was written (`WritesCar`).
pub record WritesNew (new_blocks : NewBlocks) (old new : Option (List ℕ)) (roots : List Link) : Type 0 where
  pub blocks : List Block
  pub writes : WritesCar old new roots blocks
  pub are_new : AreNew new_blocks blocks

-- True if a CAR of version 2 with these roots and blocks was written (`WritesIndexedCar`).
pub record WritesNewIndexed (new_blocks : NewBlocks) (old new : Option (List ℕ)) (roots : List Link) : Type 0 where
  pub blocks : List Block
  pub writes : WritesIndexedCar old new roots blocks
  pub are_new : AreNew new_blocks blocks
