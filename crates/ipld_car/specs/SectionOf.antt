-- The model of a `Section`.
use Rattle.std.specs.Prelude.{ℕ, List, drop}
use Rattle.ipld_cid.specs.LinkOf.{link_of}
use Rattle.ipld_car.specs.declared.section.Section.{Section}
use Rattle.ipld_car.specs.Section.{Block}

-- The bytes that the last read into a `Section` took from the reader.
abbrev pub taken_of : Section → List ℕ
taken_of section = section.bytes.items

-- The block in a `Section`: its CID, and its bytes from `data_start` on.
abbrev pub block_of : Section → Block
block_of section = record { cid = link_of section.cid; bytes = drop section.data_start section.bytes.items }
