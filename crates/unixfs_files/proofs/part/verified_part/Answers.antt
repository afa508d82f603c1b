use Rattle.std.proofs.Common.{ℕ, refl, sym, subst}
use Rattle.ipld_cid.specs.LinkOf.{link_of}
use Rattle.unixfs_files.specs.Parts.{IsPartIn, unverified}
use Rattle.unixfs_files.proofs.Parts.{verified}
use Rattle.unixfs_files.proofs.part.verified_part.Goals as goal

pub returns-in-Err : goal.returns-in-Err
returns-in-Err c = record {
  found = tt;
  only = λ part is_block is_part fits. absurd (verified (link_of c.args.cid.now) c.args.block.now c.in-Err.error is_block c.in-Err.ensures);
  counted = tt;
  within = tt;
  exact = unverified c.in-Err.error refl c.in-Err.ensures;
}

pub returns-in-Ok-clause-only : goal.returns-in-Ok-clause-only
returns-in-Ok-clause-only c = λ part is_block is_part fits.
    c.read_part.ensures.only part (subst (λ (codec : ℕ). IsPartIn codec c.args.block.now part) (sym c.codec.ensures) is_part) fits
