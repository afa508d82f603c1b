-- The sentences that errors print.
use Rattle.std.specs.Prelude.{ℕ, List, ◌++◌, codes}
use Rattle.std.specs.Fmt.{decimal}
use Rattle.ipld_block.specs.declared.block_cid.error.VerifyError.{VerifyError}
use Rattle.ipld_block.specs.declared.block_cid.error.VerifyError.TheVariants.{UnknownHash, WrongDigest}

-- The sentence of an error.
abbrev pub sentence_of : VerifyError → List ℕ
sentence_of (UnknownHash code) = codes "unsupported hash function with the code " ++ decimal code
sentence_of WrongDigest = codes "the block's digest is not that of its CID"
