use Rattle.std.proofs.Common.{arith, ◌≡◌, length, Result, Ok, ap, ◌∙◌}
use Rattle.ipld_cid.specs.declared.error.CidError.{CidError}
use Rattle.ipld_cid.specs.Multihash.{HashParts}
use Rattle.ipld_cid.proofs.Fronts.{split_digest-sound}
use Rattle.ipld_cid.proofs.bytes.split_v0.Goals as goal

pub returns-in_err-hash : goal.returns-in_err-hash
returns-in_err-hash g c =
    let digest = c.in_ok-digest.digest.now in
    let sized = split_digest-sound g.row.S 32 c.args.bytes.now digest c.in_ok-digest.rest.now c.in_ok-digest.ensures in
    let wrapped = c.in_err-hash.ensures.made (omega (arith, sized.0, sized.1)) in
    absurd cc

same_hash : (a b : HashParts) → ◌≡◌ {A = Result HashParts CidError} (Ok a) (Ok b) → a ≡ b
same_hash a b e = cc

pub returns-in_err-cid : goal.returns-in_err-cid
returns-in_err-cid g c =
    let digest = c.in_ok-digest.digest.now in
    let sized = split_digest-sound g.row.S 32 c.args.bytes.now digest c.in_ok-digest.rest.now c.in_ok-digest.ensures in
    let hash = same_hash c.in_ok-hash.hash (record { code = 0x12; digest = digest }) (c.in_ok-hash.ensures.made (omega (arith, sized.0, sized.1))) in
    let made = c.in_err-cid.ensures.made (ap (λ (h : HashParts). h.code) hash, ap (λ (h : HashParts). length h.digest) hash ∙ sized.1) in
    absurd made
