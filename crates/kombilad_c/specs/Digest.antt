-- The result of the export about the digest of a block.
use Rattle.std.specs.Prelude.{◌≡◌, ◌⊎◌, ℕ, List, Some}
use Rattle.ipld_block.specs.Digest.{digest_by, IsVerifyError}
use Rattle.ipld_block.specs.declared.block_cid.error.VerifyError.{VerifyError}
use Rattle.ipld_cid.specs.Cid.{Link}
use Rattle.kombilad_c.specs.Status.{verify_status}

-- True if the block has the CID's digest by its hash function, and the status is 0. Or the status
-- is the number of the error of verifying it.
abbrev pub Verifies : Link → List ℕ → ℕ → Type 0
Verifies link block status =
    ((status ≡ 0) × (digest_by link.code block ≡ Some link.digest))
    ⊎ ((error : VerifyError) × IsVerifyError link block error × (status ≡ verify_status error))
