use Rattle.std.proofs.Common.{ℕ, ◌+◌, ◌-◌, ◌*◌, ◌/◌, ◌^◌, bit_and, ap, ◌∙◌}
use Rattle.std.proofs.lemmas.Nat.{one_shl, and_mask, shr_split}
use Rattle.ipld_cid_text.proofs.regroup.split_group.Goals as goal

pub returns-clause-whole : goal.returns-clause-whole
returns-clause-whole c =
    let rest = c.args.rest in
    let count = c.args.count in
    ap (λ (m : ℕ). rest / 2 ^ count * 2 ^ count + bit_and rest (m - 1)) (one_shl count 32 c.requires)
    ∙ ap (λ (low : ℕ). rest / 2 ^ count * 2 ^ count + low) (and_mask rest count)
    ∙ shr_split rest count
