-- The reasons why a block isn't taken for the folder of a CID.
use Rattle.std.specs.Prelude.{◌≡◌, ◌≢◌, ◌⊎◌, ℕ, List, Err}
use Rattle.ipld_block.specs.declared.block_cid.error.VerifyError.{VerifyError}
use Rattle.ipld_block.specs.Digest.{digest_by, IsVerifyError}
use Rattle.ipld_cid.specs.Cid.{Link}
use Rattle.unixfs.specs.Files.{IsBlockOf}
use Rattle.unixfs_folders.specs.declared.error.FolderErrorKind.{FolderErrorKind}
use Rattle.unixfs_folders.specs.declared.error.FolderErrorKind.TheVariants.{Codec, Verify}
use Rattle.unixfs_folders.specs.Reading.{read_folder}

-- True if the CID is not one of DAG-PB.
pub record IsCodecFault (link : Link) (error : FolderErrorKind) : Type 0 where
  pub is : error ≡ Codec link.codec
  pub not_dag_pb : link.codec ≢ 0x70

-- True if the block is not known to be that of the CID.
pub record IsVerifyFault (link : Link) (block : List ℕ) (error : FolderErrorKind) : Type 0 where
  pub is_dag_pb : link.codec ≡ 0x70
  pub reason : VerifyError
  pub is : error ≡ Verify reason
  pub is_reason : IsVerifyError link block reason

-- True if the block is that of the CID, and is not a folder, for this reason.
pub record IsBlockFault (link : Link) (block : List ℕ) (error : FolderErrorKind) : Type 0 where
  pub is_dag_pb : link.codec ≡ 0x70
  pub is_block : IsBlockOf digest_by link block
  pub is : read_folder block ≡ Err error

-- True if the block isn't taken for the folder of the CID, for this reason.
abbrev pub IsFolderFault : Link → List ℕ → FolderErrorKind → Type 0
IsFolderFault link block error = IsCodecFault link error ⊎ (IsVerifyFault link block error ⊎ IsBlockFault link block error)
