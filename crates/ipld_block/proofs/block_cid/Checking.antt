-- The outcome of comparing a block with a digest by identity.
use Rattle.std.proofs.Common.{◌≡◌, ℕ, List, Some, Result, Ok, Err, sym, ap, ◌∙◌}
use Rattle.std.specs.Prelude.{◌≢◌, MatchResult}
use Rattle.ipld_cid.specs.Cid.{Link}
use Rattle.ipld_block.specs.declared.block_cid.error.VerifyError.{VerifyError}
use Rattle.ipld_block.specs.declared.block_cid.error.VerifyError.TheVariants.{UnknownHash, WrongDigest}
use Rattle.ipld_block.specs.Digest.{digest_by, IsVerifyError}

-- the digest by identity is the block
itself : (code : ℕ) (block : List ℕ) → code ≡ 0 → digest_by code block ≡ Some block
itself code block is = ap (λ (n : ℕ). digest_by n block) is

pub by_identity : (link : Link) (block digest : List ℕ) (result : Result (Unit {0}) VerifyError) → link.code ≡ 0 → digest ≡ link.digest
    → MatchResult result (λ _. block ≡ digest) (λ error. (error ≡ WrongDigest) × (block ≢ digest))
    → MatchResult result (λ _. digest_by link.code block ≡ Some link.digest) (λ error. IsVerifyError link block error)
by_identity link block digest (Ok u) identity same checked = itself link.code block identity ∙ ap (λ (d : List ℕ). Some d) (checked ∙ same)
by_identity link block digest (Err (UnknownHash code)) identity same checked = absurd (let is = checked.0 in cc)
by_identity link block digest (Err WrongDigest) identity same checked = (block, itself link.code block identity, λ is. checked.1 (is ∙ sym same))
