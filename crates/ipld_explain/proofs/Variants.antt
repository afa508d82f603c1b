-- Enums, as their variants are explained one after the other.
use Rattle.std.proofs.Common.{◌≡◌, inl, inr, ℕ, true, false, List, [], ◌∷◌, Option, Some, None, Result, Ok, Err, IfOk, IfSome, is_some, IsSomeAnd, option_map, option_and_then, refl, ap, sym, subst, ◌∙◌}
use Rattle.std.specs.Result.{result_ok}
use Rattle.std.specs.Str.{bytes_eq}
use Rattle.std.specs.declared.alloc.AllocError.{AllocError}
use Rattle.ipld_tree.specs.Tree.{Tree, null, boolean, integer, text, bytes, list, entries, link, member, no_members}
use Rattle.ipld_tree.specs.Index.{value_at}
use Rattle.ipld_tree.specs.Kind.{kind_of}
use Rattle.ipld_ser.specs.declared.error.SerdeError.{SerdeError}
use Rattle.ipld_ser.specs.declared.error.SerdeError.TheVariants.{VariantContent}
use Rattle.ipld_de.specs.Enums.{enum_reading, VariantError, EnumReadError}
use Rattle.ipld_de.specs.Forms.{Variant, variant_in}
use Rattle.ipld_explain.specs.Path.{key, at_path}
use Rattle.ipld_explain.specs.Failures.{Failure, value, under, failure_of, FailsHere, Leads, Explains}
use Rattle.ipld_explain.specs.Enums.{Names, whole, FirstError, ContentFails, EnumFails, VariantFails, ExplainsVariant, ExplainsContent}
use Rattle.ipld_explain.specs.declared.explanation.Explanation.{Explanation}
use Rattle.ipld_explain.proofs.Entering.{front_at}
use Rattle.ipld_explain.proofs.Steps.{leads_on}

module _ (error : List (List ℕ) → Option Tree → SerdeError → Type 0) (others : Names → List ℕ → Option Tree → SerdeError → Type 0)
    (n : List ℕ × List (List ℕ)) (ns : Names) (name : List ℕ) (content : Option Tree) where
  pub first_error : bytes_eq name n.0 ≡ true → (r : Result (Option Explanation) AllocError) → IfOk r (λ o. IfSome o (λ x. error n.1 content x.error))
      → IfOk r (λ o. IfSome o (λ x. FirstError error others (n ∷ ns) name content x.error))
  first_error is (Err e) why = why
  first_error is (Ok None) why = why
  first_error is (Ok (Some x)) why = inl (is, why)

  pub later_error : bytes_eq name n.0 ≡ false → (r : Result (Option Explanation) AllocError) → IfOk r (λ o. IfSome o (λ x. others ns name content x.error))
      → IfOk r (λ o. IfSome o (λ x. FirstError error others (n ∷ ns) name content x.error))
  later_error is (Err e) why = why
  later_error is (Ok None) why = why
  later_error is (Ok (Some x)) why = inr (is, why)

-- ---- the content

-- a failure of the content, seen from the enum
pub inner_leads : (name : List ℕ) (t : Tree) (g f : Failure) → f ≡ under (key name) g → Leads t g → Leads (whole name (Some t)) f
inner_leads name t g f is leads =
    subst (Leads (whole name (Some t))) (sym is)
    (leads_on t (value_at name (member name t no_members)) g.path (λ v. kind_of v ≡ g.found) (front_at name t no_members) leads)

module _ {C : Type 0} (reads : Tree → Option C) (fails : Tree → Failure → Type 0) (name : List ℕ) where
  pub content_fails : (t : Tree) (g f : Failure) → Explains reads fails t (Some g) → f ≡ under (key name) g
      → ExplainsContent (option_and_then reads) (ContentFails fails) name (Some t) (Some f)
  content_fails t g f why is = (why.0, inner_leads name t g f is why.1, (g, why.2, is))

  pub without : (f : Failure) → FailsHere Rattle.ipld_explain.specs.declared.explanation.Expected.TheVariants.Map (λ e. e ≡ VariantContent) f → kind_of (text name) ≡ f.found
      → ExplainsContent (option_and_then reads) (ContentFails fails) name None (Some f)
  without f why kind = (refl, subst (λ p. IsSomeAnd (at_path p (text name)) (λ v. kind_of v ≡ f.found)) (sym why.0) kind, why)

-- ---- the enum

-- the tree that has this variant
pub whole_is : (t : Tree) (v : Variant) → variant_in t ≡ Ok v → t ≡ whole v.0 v.1
whole_is null v is = absurd cc
whole_is (boolean b) v is = absurd cc
whole_is (integer n) v is = absurd cc
whole_is (text s) v is = let same : (s, None) ≡ v = cc in ap (λ w. whole w.0 w.1) same
whole_is (bytes b) v is = absurd cc
whole_is (list ts) v is = absurd cc
whole_is (entries no_members) v is = absurd cc
whole_is (entries (member k t no_members)) v is = let same : (k, Some t) ≡ v = cc in ap (λ w. whole w.0 w.1) same
whole_is (entries (member k t (member l u ms))) v is = absurd cc
whole_is (link l) v is = absurd cc

module _ {C : Type 0} (reads : List ℕ → Option Tree → Option C) (fails : List ℕ → Option Tree → Failure → Type 0) (t : Tree) (v : Variant) (is : variant_in t ≡ Ok v) where
  variant_one : (o : Option Failure) → ExplainsVariant reads fails v.0 v.1 o → Explains (enum_reading reads) (EnumFails fails) t o
  variant_one None why = ap (λ r. is_some (option_and_then (λ w. reads w.0 w.1) (result_ok r))) is ∙ why
  variant_one (Some f) why = (
    ap (λ r. option_and_then (λ w. reads w.0 w.1) (result_ok r)) is ∙ why.0,
    subst (λ u. Leads u f) (sym (whole_is t v is)) why.1,
    subst (λ r. VariantFails fails r f) (sym is) why.2,
  )
