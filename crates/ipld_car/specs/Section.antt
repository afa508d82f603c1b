-- Sections of a CAR (CARv1, "Data"): a varint, a CID and the bytes of the block. The varint counts
-- the bytes of the CID and of the block.
use Rattle.std.specs.Prelude.{◌≡◌, ℕ, List, [], ◌∷◌, ◌++◌, length}
use Rattle.ipld_cid.specs.declared.cid.Version.TheVariants.{V1}
use Rattle.ipld_cid.specs.Bytes.{IsCid, bytes_of}
use Rattle.ipld_cid.specs.Cid.{Link}
use Rattle.ipld_cid.specs.Varint.{IsVarint}

-- the CID and the bytes of a block
pub record Block : Type 0 where
  pub cid : Link
  pub bytes : List ℕ

-- The empty block and its CID: version 1, the codec of raw bytes, and the identity hash.
abbrev pub no_block : Block
no_block = record { cid = record { version = V1; codec = 0x55; code = 0; digest = [] }; bytes = [] }

-- the content of a section, which its varint counts: the CID and the bytes of the block
abbrev pub content_of : Block → List ℕ
content_of block = bytes_of block.cid ++ block.bytes

-- True if the bytes are the section of the block.
pub record IsSection (bytes : List ℕ) (block : Block) : Type 0 where
  pub size : List ℕ
  pub cid : List ℕ
  pub size_encoded : IsVarint (length (cid ++ block.bytes)) size
  pub cid_encoded : IsCid 64 cid block.cid
  pub encoded : bytes ≡ size ++ cid ++ block.bytes

-- True if the bytes are the sections of the blocks, one after the other.
abbrev pub AreSections : List ℕ → List Block → Type 0
AreSections bytes [] = bytes ≡ []
AreSections bytes (block ∷ blocks) = (front rest : List ℕ) × (bytes ≡ front ++ rest) × IsSection front block × AreSections rest blocks
