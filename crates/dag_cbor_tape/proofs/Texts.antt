-- UTF-8 as a test.
use Rattle.std.proofs.Common.{◌≡◌, ℕ, Bool, cond, true, false, List, [], length, Some, None, refl, sym, ap, ◌∙◌}
use Rattle.std.specs.Str.{is_utf8}
use Rattle.std.proofs.lemmas.List.{append-nil}
use Rattle.dag_cbor_format.specs.ItemHeader.{front, if_text}
use Rattle.dag_cbor_format.proofs.ItemHeaders.{front-append}

-- all bytes are read as a text where they are one
whole : (s : List ℕ) → if_text (front (length s) s) ≡ cond (is_utf8 s) (Some (s, [])) None
whole s = ap if_text (ap (front (length s)) (sym (append-nil s)) ∙ front-append s [] (length s) refl)

some_where : (b : Bool) (x y : List ℕ × List ℕ) → cond b (Some x) None ≡ Some y → true ≡ b
some_where true x y e = refl
some_where false x y e = absurd (cc e)

none_where : (b : Bool) (x : List ℕ × List ℕ) → cond b (Some x) None ≡ None → false ≡ b
none_where true x e = absurd (cc e)
none_where false x e = refl

pub is_read : (s : List ℕ) (y : List ℕ × List ℕ) → if_text (front (length s) s) ≡ Some y → true ≡ is_utf8 s
is_read s y e = some_where (is_utf8 s) (s, []) y (sym (whole s) ∙ e)

pub is_not_read : (s : List ℕ) → if_text (front (length s) s) ≡ None → false ≡ is_utf8 s
is_not_read s e = none_where (is_utf8 s) (s, []) (sym (whole s) ∙ e)
