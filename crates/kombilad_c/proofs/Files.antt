-- The bytes of a file in a block, copied.
use Rattle.std.proofs.Common.{◌≡◌, ℕ, ◌≤◌, List, length, inl, inr, ap, subst, ◌∙◌, arith}
use Rattle.std.specs.Prelude.{◌⊎◌}
use Rattle.kombilad_c.specs.Fill.{IsFilled, IsTooShort, Fills}
use Rattle.kombilad_c.specs.File.{IsTaken}

done_part : (head block taken : List ℕ) (status : ℕ) (before after : List ℕ) (needed : ℕ) → head ≡ taken → length head ≤ length block → length block ≤ length before → needed ≡ length head
    → ((status ≡ 0) × IsFilled head before after) ⊎ ((status ≡ 2) × IsTooShort head before after) → IsTaken taken status before after needed
done_part head block taken status before after needed same within long is (inl d) = inl (d.0, subst (λ (h : List ℕ). IsFilled h before after) same d.1, is ∙ ap length same)
done_part head block taken status before after needed same within long is (inr d) = absurd (omega (arith, within, long, d.1.short))

-- a buffer that is as long as the block has room for the bytes
pub part_taken : (head block taken : List ℕ) (status : ℕ) (before after : List ℕ) (needed : ℕ) → head ≡ taken → length head ≤ length block → length block ≤ length before
    → Fills head status before after needed → IsTaken taken status before after needed
part_taken head block taken status before after needed same within long f = done_part head block taken status before after needed same within long f.length_needed f.done
