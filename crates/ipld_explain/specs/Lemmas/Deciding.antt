-- Laws for use in ghost members, without definitions. Fields are read if and only if they accept
-- the values of their names.
use Rattle.std.proofs.Common.{◌≡◌, ◌&&◌, ℕ, List, [], ◌∷◌, Bool, true, false, Option, Some, None, option_map, is_none, is_some, refl, ap₂, ◌∙◌}
use Rattle.ipld_tree.specs.Tree.{Tree, Members}
use Rattle.ipld_tree.specs.Index.{value_at}
use Rattle.ipld_ser.specs.Image.{both}
use Rattle.ipld_de.specs.Fields.{reading_or, named_or, under_first, under_each}
use Rattle.ipld_explain.specs.Failures.{Failure}
use Rattle.ipld_explain.specs.Fields.{Part, part, will_do, all_will_do}

and_true : (b : Bool) → b ≡ b && true
and_true true = refl
and_true false = refl

both_decide : {A B C : Type 0} (f : A → B → C) (o : Option A) (p : Option B) → is_some (both f o p) ≡ is_some o && is_some p
both_decide f None None = refl
both_decide f None (Some b) = refl
both_decide f (Some a) None = refl
both_decide f (Some a) (Some b) = refl

-- for a type with this reading and these failures, and the value of a missing name, if any
module _ {V C : Type 0} (contents : V → C) (reads : Tree → Option C) (fails : Tree → Failure → Type 0) (missing : Option V) where
  decides : (missing : Option V) (held : Option Tree) → is_some (reading_or (option_map contents missing) reads held) ≡ will_do (part (is_none missing) reads fails) held
  decides None None = refl
  decides (Some v) None = refl
  decides missing (Some t) = refl

  -- A field is read if and only if it accepts the value of its name, or its absence.
  pub first_decides : (names : List (List ℕ)) (ms : Members)
      → is_some (under_first (λ name. named_or (option_map contents missing) name reads) names ms) ≡ all_will_do (part (is_none missing) reads fails ∷ []) names ms
  first_decides [] ms = refl
  first_decides (name ∷ names) ms = decides missing (value_at name ms) ∙ and_true (will_do (part (is_none missing) reads fails) (value_at name ms))

  -- The same is true of a field and others.
  pub each_decides : {D : Type 0} (others : List (List ℕ) → Members → Option D) (parts : List {1} Part) (names : List (List ℕ)) (ms : Members)
      → ((more : List (List ℕ)) → is_some (others more ms) ≡ all_will_do parts more ms)
      → is_some (under_each (λ name. named_or (option_map contents missing) name reads) others names ms) ≡ all_will_do (part (is_none missing) reads fails ∷ parts) names ms
  each_decides others parts [] ms decide = refl
  each_decides others parts (name ∷ names) ms decide =
      both_decide (λ c d. (c, d)) (named_or (option_map contents missing) name reads ms) (others names ms) ∙ ap₂ ◌&&◌ (decides missing (value_at name ms)) (decide names)
