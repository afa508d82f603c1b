-- Laws for use in ghost members, not definitions: for every form of type, the contents determine
-- the value, by the laws of its parts. Custom types cite these too.
use Rattle.std.proofs.Common.{◌≡◌, ℕ, Bool, true, ◌&&◌, Ordering, List, [], ◌∷◌, map, Option, Some, None, option_map, String, Global, string_bytes, string_eq, nat_eq, refl, ap, ap₂, sym, subst, ◌∙◌}
use mathlib.Core.Bool.{beq}
use Rattle.std.specs.Bool.{Decides}
use Rattle.std.specs.Cmp.{unsigned_Decides, signed_Decides, booleans_Decides}
use Rattle.std.specs.Cmp.Lexicographic.{pointwise, slice_cmp}
use Rattle.std.specs.Option.{option_eq}
use Rattle.std.specs.Ordering.{int_eq, is_eq, nat_cmp}
use Rattle.std.specs.Str.{bytes_eq}
use Rattle.std.proofs.lemmas.Bool.Decides.{Decides-and, Decides-like}
use Rattle.std.proofs.lemmas.Map.Text.{is_eq-slice_cmp}
use Rattle.std.proofs.lemmas.Slice.Eq.{bytes_eq-Decides}
use Rattle.ipld_cid.specs.Cid.{Link}
use Rattle.ipld_cid.specs.Order.{link_eq}
use Rattle.ipld_cid.specs.Lemmas.OrderLaws.{link_decides}
use Rattle.ipld_tree.specs.Equal.{tree_eq}
use Rattle.ipld_tree.specs.Lemmas.EqualLaws.{tree_decides}
use Rattle.ipld_tree.specs.Tree.{Tree}
use Rattle.ipld_de.specs.Composites.{keyed_contents, entry_contents}
use Rattle.ipld_de.specs.Faithful.{EqualByContents}

-- ---- scalars

pub unsigned_faithful : EqualByContents (λ m n. nat_eq m n) (λ n. n)
unsigned_faithful = record { decides = unsigned_Decides }

pub signed_faithful : EqualByContents (λ m n. int_eq m n) (λ n. n)
signed_faithful = record { decides = signed_Decides }

pub boolean_faithful : EqualByContents (λ a b. beq a b) (λ b. b)
boolean_faithful = record { decides = booleans_Decides }

-- strings and bytes
pub bytes_faithful : {V : Type 0} → (held : V → List ℕ) → EqualByContents (λ v w. bytes_eq (held v) (held w)) held
bytes_faithful held = record { decides = λ v w. bytes_eq-Decides (held v) (held w) }

pub link_faithful : {V : Type 0} → (cid : V → Link) → EqualByContents (λ v w. link_eq (cid v) (cid w)) cid
link_faithful cid = record { decides = λ v w. link_decides (cid v) (cid w) }

pub tree_faithful : {V : Type 0} → (seen : V → Tree) → EqualByContents (λ v w. tree_eq (seen v) (seen w)) seen
tree_faithful seen = record { decides = λ v w. tree_decides (seen v) (seen w) }

-- a type whose values are all equal
pub only_faithful : {V : Type 0} → EqualByContents {C = Unit {0}} (λ (v w : V). true) (λ v. tt)
only_faithful = record { decides = λ v w. (λ e. refl, λ e. refl) }

-- ---- composites

-- a type around another, by the law of that
pub around_faithful : {V W C : Type 0} {eq : V → V → Bool} {contents : V → C} → (inner : W → V) → EqualByContents eq contents
    → EqualByContents (λ v w. eq (inner v) (inner w)) (λ v. contents (inner v))
around_faithful inner law = record { decides = λ v w. law.decides (inner v) (inner w) }

option_decides : {V C : Type 0} {eq : V → V → Bool} {contents : V → C} → EqualByContents eq contents → (v w : Option V)
    → Decides (option_eq eq v w) (option_map contents v ≡ option_map contents w)
option_decides law None None = (λ e. refl, λ e. refl)
option_decides law None (Some w) = (λ e. absurd cc, λ e. absurd cc)
option_decides law (Some v) None = (λ e. absurd cc, λ e. absurd cc)
option_decides {eq = eq} law (Some v) (Some w) = Decides-like (eq v w) (ap Some) (λ e. cc) (law.decides v w)

pub option_faithful : {V C : Type 0} {eq : V → V → Bool} {contents : V → C} → EqualByContents eq contents → EqualByContents (option_eq eq) (option_map contents)
option_faithful law = record { decides = option_decides law }

list_decides : {V C : Type 0} {eq : V → V → Bool} {contents : V → C} → EqualByContents eq contents → (vs ws : List V)
    → Decides (pointwise eq vs ws) (map contents vs ≡ map contents ws)
list_decides law [] [] = (λ e. refl, λ e. refl)
list_decides law [] (w ∷ ws) = (λ e. absurd cc, λ e. absurd cc)
list_decides law (v ∷ vs) [] = (λ e. absurd cc, λ e. absurd cc)
list_decides {eq = eq} law (v ∷ vs) (w ∷ ws) =
    Decides-like (eq v w && pointwise eq vs ws) (λ p. ap₂ ◌∷◌ p.0 p.1) (λ e. (cc, cc)) (Decides-and (eq v w) (pointwise eq vs ws) (law.decides v w) (list_decides law vs ws))

pub list_faithful : {V C : Type 0} {eq : V → V → Bool} {contents : V → C} → EqualByContents eq contents → EqualByContents (pointwise eq) (map contents)
list_faithful law = record { decides = list_decides law }

-- A first part and others, such as the fields of a struct. `get` returns the part.
pub more_faithful : {V A C D : Type 0} {eq : A → A → Bool} {contents : A → C} {others_eq : V → V → Bool} {others : V → D} → (get : V → A)
    → EqualByContents eq contents → EqualByContents others_eq others
    → EqualByContents {C = C × D} (λ v w. eq (get v) (get w) && others_eq v w) (λ v. (contents (get v), others v))
more_faithful {eq = eq} {others_eq = others_eq} get law rest = record {
  decides = λ v w. Decides-like (eq (get v) (get w) && others_eq v w) (λ p. ap₂ (λ c d. (c, d)) p.0 p.1) (λ e. (ap (λ z. z.0) e, ap (λ z. z.1) e))
      (Decides-and (eq (get v) (get w)) (others_eq v w) (law.decides (get v) (get w)) (rest.decides v w));
}

pub pair_faithful : {A B C D : Type 0} {eq_a : A → A → Bool} {contents_a : A → C} {eq_b : B → B → Bool} {contents_b : B → D}
    → EqualByContents eq_a contents_a → EqualByContents eq_b contents_b
    → EqualByContents {V = A × B} {C = C × D} (λ v w. eq_a v.0 w.0 && eq_b v.1 w.1) (λ v. (contents_a v.0, contents_b v.1))
pair_faithful {A} {B} a b = more_faithful (λ (v : A × B). v.0) a (around_faithful (λ (v : A × B). v.1) b)

-- two tests that both have to pass, the first possibly of several parts
pub and_faithful : {V C D : Type 0} {eq_c : V → V → Bool} {c : V → C} {eq_d : V → V → Bool} {d : V → D} → EqualByContents eq_c c → EqualByContents eq_d d
    → EqualByContents {C = C × D} (λ v w. eq_c v w && eq_d v w) (λ v. (c v, d v))
and_faithful {eq_c = eq_c} {eq_d = eq_d} first second = record {
  decides = λ v w. Decides-like (eq_c v w && eq_d v w) (λ p. ap₂ (λ c d. (c, d)) p.0 p.1) (λ e. (ap (λ z. z.0) e, ap (λ z. z.1) e))
      (Decides-and (eq_c v w) (eq_d v w) (first.decides v w) (second.decides v w));
}

-- the same contents, grouped in another way
pub regrouped : {V C D : Type 0} {eq : V → V → Bool} {contents : V → C} → (to : C → D) (from : D → C) → ((c : C) → from (to c) ≡ c) → EqualByContents eq contents
    → EqualByContents eq (λ v. to (contents v))
regrouped {eq = eq} {contents = contents} to from same law = record {
  decides = λ v w. Decides-like (eq v w) (ap to) (λ e. sym (same (contents v)) ∙ ap from e ∙ same (contents w)) (law.decides v w);
}

-- keys that compare in the same way as their texts
pub key_faithful : {K : Type 0} {eq : K → K → Bool} {cmp : K → K → Ordering} (text_of : K → List ℕ)
    → ((a b : K) → eq a b ≡ is_eq (cmp a b)) → ((a b : K) → cmp a b ≡ slice_cmp nat_cmp (text_of a) (text_of b)) → EqualByContents eq text_of
key_faithful text_of matches in_order = record {
  decides = λ a b. subst (λ o. Decides o (text_of a ≡ text_of b)) (sym (matches a b ∙ ap is_eq (in_order a b) ∙ is_eq-slice_cmp (text_of a) (text_of b))) (bytes_eq-Decides (text_of a) (text_of b));
}

-- the entries of a map
pub keyed_faithful : {K V C : Type 0} {key_eq : K → K → Bool} {text_of : K → List ℕ} {eq : V → V → Bool} {contents : V → C} → EqualByContents key_eq text_of → EqualByContents eq contents
    → EqualByContents (pointwise (λ (p q : K × V). key_eq p.0 q.0 && eq p.1 q.1)) (keyed_contents text_of contents)
keyed_faithful keys law = list_faithful (pair_faithful keys law)

-- the entries of a map with string keys
pub map_faithful : {V C : Type 0} {eq : V → V → Bool} {contents : V → C} → EqualByContents eq contents
    → EqualByContents (pointwise (λ (p q : String Global × V). string_eq p.0 q.0 && eq p.1 q.1)) (entry_contents contents)
map_faithful law = keyed_faithful (bytes_faithful string_bytes) law
