use Rattle.std.proofs.Common.{◌≡◌, ℕ, List, [], ◌∷◌, codes, Some, ap, sym, refl, ◌∙◌}
use Rattle.std.specs.Result.{result_ok}
use Rattle.hex.specs.Hex.{decode_of}
use Rattle.std.proofs.lemmas.Bool.{cond-false, false_from_ne_true}
use Rattle.std.proofs.lemmas.Slice.Eq.{bytes_eq-Decides}
use Rattle.ipld_links_run.specs.TokenLine.{bytes_field}
use Rattle.ipld_links_run.proofs.token_line.parse_bytes.Goals as goal

by_digits : (field : List ℕ) → (field ≡ [] → ⊥) → (field ≡ codes "-" → ⊥) → bytes_field field ≡ result_ok (decode_of field)
unfolding bytes_field
by_digits [] some other = absurd (some refl)
by_digits (x ∷ xs) some other =
    cond-false _ _ _ (false_from_ne_true _ (λ e. other ((bytes_eq-Decides (x ∷ xs) (codes "-")).0 e)))

pub returns-in-empty : goal.returns-in-empty
unfolding bytes_field
returns-in-empty c = ap bytes_field c.in-empty.is

pub returns-in-text : goal.returns-in-text
unfolding bytes_field
returns-in-text c = ap bytes_field c.in-text.is ∙ ap Some (sym c.new.ensures.items)

pub returns-in_default : goal.returns-in_default
returns-in_default c =
    rw (by_digits c.args.field.now c.in_default.not-empty c.in_default.not-text) c.decode_hex.ensures
