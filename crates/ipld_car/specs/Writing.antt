-- The bytes that writing a CAR appends to those of the writer.
use Rattle.std.specs.Prelude.{◌≡◌, ℕ, List, Option, Some}
use Rattle.std.specs.Io.KnownBytes.{Appends}
use Rattle.ipld_cid.specs.Cid.{Link}
use Rattle.ipld_car.specs.Header.{IsHeader, canonical_header}
use Rattle.ipld_codec.specs.WriteOut.{WritesPart}
use Rattle.ipld_car.specs.Section.{Block, IsSection}

-- True if the header with these roots was written after the old bytes of the writer, and nothing
-- else (CARv1, "Header"). Its block is canonical (DAG-CBOR, "Strictness").
pub record WritesHeader (old new : Option (List ℕ)) (roots : List Link) : Type 0 where
  pub header : List ℕ
  pub is_header : IsHeader header roots
  pub is_canonical : canonical_header roots ≡ Some header
  pub appends : Appends old new header

-- True if the section of the block was written after the old bytes of the writer, and nothing else
-- (CARv1, "Data").
pub record WritesSection (old new : Option (List ℕ)) (block : Block) : Type 0 where
  pub section : List ℕ
  pub is_section : IsSection section block
  pub appends : Appends old new section

-- True if a part of the section of the block was written, and nothing else: its first bytes,
-- possibly zero, but not all.
pub record WritesSectionPart (old new : Option (List ℕ)) (block : Block) : Type 0 where
  pub section : List ℕ
  pub is_section : IsSection section block
  pub part : WritesPart old new section
