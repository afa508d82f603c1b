-- The results of the exports that write the parts of a CAR (CARv1, CARv2).
use Rattle.std.specs.Prelude.{◌≡◌, ◌⊎◌, ◌+◌, ◌++◌, ◌≤◌, ◌<◌, ◌^◌, ℕ, List, length, Some, Ok, Err}
use Rattle.std.specs.List.{list_all}
use Rattle.std.specs.List.Sorted.{IsPermutation}
use Rattle.ipld_car.specs.CarHeader.{header_bytes}
use Rattle.ipld_car.specs.Header.{IsHeader, canonical_header}
use Rattle.ipld_car.specs.Index.{index_bytes}
use Rattle.ipld_car.specs.IndexGrouping.{entries_in, has_digest, indexed, AreGrouped, IsSplit}
use Rattle.ipld_car.specs.IndexOrder.{AreSorted}
use Rattle.ipld_car.specs.declared.index.CarIndex.{CarIndex}
use Rattle.ipld_car.specs.declared.index.entry.IndexEntry.{IndexEntry}
use Rattle.ipld_car.specs.declared.index.header.CarHeader.{CarHeader}
use Rattle.ipld_car.specs.Section.{IsSection}
use Rattle.ipld_cid.specs.Bytes.{read_cid, bytes_of}
use Rattle.ipld_cid.specs.Cid.{Link, hash_of}
use Rattle.ipld_cid.specs.declared.error.CidError.{CidError}
use Rattle.kombilad_c.specs.declared.car_index.CarRow.{CarRow}
use Rattle.kombilad_c.specs.declared.cid_record.CidBytes.{CidBytes}
use Rattle.kombilad_c.specs.CidRecord.{bytes_in}
use Rattle.kombilad_c.specs.Fill.{Variable, Fills, IsUntouched}
use Rattle.kombilad_c.specs.Rows.{AreEach, FirstFault}
use Rattle.kombilad_c.specs.Status.{cid_status}

-- True if a record has the bytes of this root.
abbrev pub IsRoot : CidBytes → Link → Type 0
IsRoot row root = read_cid 64 (bytes_in row) ≡ Ok root

-- True if a record does not have the bytes of a CID, for the reason of this status.
abbrev pub IsNoRoot : CidBytes → (status : ℕ) → Type 0
IsNoRoot row status = (error : CidError) × (read_cid 64 (bytes_in row) ≡ Err error) × (status ≡ cid_status error)

-- True if the bytes are the header with these roots, and its block is canonical (DAG-CBOR,
-- "Strictness").
abbrev pub IsHeaderOf : List Link → List ℕ → Type 0
IsHeaderOf roots header = IsHeader header roots × (canonical_header roots ≡ Some header)

-- True if the needed length is that of the header with these roots. The header is at the beginning
-- of the buffer, or the buffer is too short. Or an allocation failed, and nothing is written.
abbrev pub WritesHeader : List Link → (status : ℕ) → Variable (List ℕ) → Variable ℕ → Type 0
WritesHeader roots status bytes needed =
    ((header : List ℕ) × IsHeaderOf roots header × Fills header status bytes.before bytes.after needed.after)
    ⊎ ((status ≡ 1) × IsUntouched bytes.before bytes.after needed.before needed.after)

-- True if this is the result for the roots in these records. If one of them is no CID, nothing is
-- written but its number. If an allocation for them failed, nothing is written.
abbrev pub WritesHeaderOf : List CidBytes → (status : ℕ) → Variable (List ℕ) → (needed place : Variable ℕ) → Type 0
WritesHeaderOf rows status bytes needed place =
    ((roots : List Link) × AreEach IsRoot rows roots × WritesHeader roots status bytes needed × (place.after ≡ place.before))
    ⊎ (FirstFault IsRoot IsNoRoot rows place.after status × IsUntouched bytes.before bytes.after needed.before needed.after)
    ⊎ ((status ≡ 1) × (place.after ≡ place.before) × IsUntouched bytes.before bytes.after needed.before needed.after)

-- True if these bytes and a block of this length are a section.
abbrev pub IsFront : Link → (len : ℕ) → List ℕ → Type 0
IsFront link len front = (block : List ℕ) → length block ≡ len → IsSection (front ++ block) (record { cid = link; bytes = block })

-- True if the needed length is that of what a section has before a block of this length. That is at
-- the beginning of the buffer, or the buffer is too short. Or the section has 2^64 bytes or more, the
-- status is 99, and nothing is written.
abbrev pub WritesFront : Link → (len status : ℕ) → Variable (List ℕ) → Variable ℕ → Type 0
WritesFront link len status bytes needed =
    ((front : List ℕ) × IsFront link len front × Fills front status bytes.before bytes.after needed.after)
    ⊎ ((2 ^ 64 ≤ length (bytes_of link) + len) × (status ≡ 99) × IsUntouched bytes.before bytes.after needed.before needed.after)

-- True if the entry has the hash of the CID in the row, and its offset.
pub record IsEntry (row : CarRow) (entry : IndexEntry) : Type 0 where
  pub link : Link
  pub read : read_cid 64 (bytes_in row.cid) ≡ Ok link
  pub hash : entry.hash ≡ hash_of link
  pub offset : entry.offset ≡ row.offset

-- True if the row does not have the bytes of a CID, for the reason of this status.
abbrev pub IsNoEntry : CarRow → (status : ℕ) → Type 0
IsNoEntry row status = IsNoRoot row.cid status

-- the header of a CAR with a payload of this length right behind it, and behind that an index with
-- these entries
abbrev pub header_around : (payload : ℕ) → List IndexEntry → CarHeader
header_around payload entries =
    record { is_fully_indexed = list_all has_digest entries; payload = 51; size = payload; index = payload + 51 }

-- True if the index behind a payload of this length would begin at byte 2^64 or later.
abbrev pub IsTooLong : (payload : ℕ) → Type 0
IsTooLong payload = 2 ^ 64 ≤ payload + 51

-- True if the bytes are those of the header and of the index with these entries: each once, sorted
-- and grouped (CARv2, "Header", "Index format", MultihashIndexSorted).
pub record IsAround (header : CarHeader) (entries : List IndexEntry) (bytes : List ℕ) : Type 0 where
  pub index : CarIndex
  pub same : IsPermutation (indexed entries) (entries_in index)
  pub sorted : AreSorted (entries_in index)
  pub grouped : AreGrouped index
  pub split : IsSplit index
  pub written : bytes ≡ header_bytes header ++ index_bytes index

-- True if the needed length is that of the header and the index of a CAR with a payload of this
-- length and these entries. They are at the beginning of the buffer, or the buffer is too short. Or
-- the payload is too long, and the status is 99. Or it isn't, and an allocation failed. Then nothing
-- is written.
abbrev pub WritesAround : List IndexEntry → (payload status : ℕ) → Variable (List ℕ) → Variable ℕ → Type 0
WritesAround entries payload status bytes needed =
    ((content : List ℕ) × IsAround (header_around payload entries) entries content × Fills content status bytes.before bytes.after needed.after)
    ⊎ (IsTooLong payload × (status ≡ 99) × IsUntouched bytes.before bytes.after needed.before needed.after)
    ⊎ ((payload + 51 < 2 ^ 64) × (status ≡ 1) × IsUntouched bytes.before bytes.after needed.before needed.after)

-- True if this is the result for the entries in these rows. If one of them has no CID, nothing is
-- written but its number. If an allocation for them failed, nothing is written.
abbrev pub WritesAroundOf : List CarRow → (payload status : ℕ) → Variable (List ℕ) → (needed place : Variable ℕ) → Type 0
WritesAroundOf rows payload status bytes needed place =
    ((entries : List IndexEntry) × AreEach IsEntry rows entries × WritesAround entries payload status bytes needed × (place.after ≡ place.before))
    ⊎ (FirstFault IsEntry IsNoEntry rows place.after status × IsUntouched bytes.before bytes.after needed.before needed.after)
    ⊎ ((status ≡ 1) × (place.after ≡ place.before) × IsUntouched bytes.before bytes.after needed.before needed.after)
