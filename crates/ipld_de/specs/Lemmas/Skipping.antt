-- Laws for use in ghost members, not definitions: fields skip members with other names, and find
-- their names in any order.
use Rattle.std.proofs.Common.{◌≡◌, ℕ, List, [], ◌∷◌, Bool, true, false, cond, Option, Some, None, option_map, refl, ap, ap₂}
use Rattle.std.specs.Str.{bytes_eq}
use Rattle.ipld_tree.specs.Tree.{Tree, Members, member}
use Rattle.ipld_tree.specs.Index.{value_at}
use Rattle.ipld_ser.specs.Image.{both}
use Rattle.ipld_de.specs.Fields.{among, reading_or, found_or_named, under_first, under_each}

pub not_this : (b rest : Bool) → cond b true rest ≡ false → (b ≡ false) × (rest ≡ false)
not_this true rest is = absurd cc
not_this false rest is = (refl, is)

skipped : {C : Type 0} (b : Bool) (from : Option Tree → Option C) (t : Tree) (rest : Option Tree) → b ≡ false → from (cond b (Some t) rest) ≡ from rest
skipped true from t rest is = absurd cc
skipped false from t rest is = refl

-- A field skips a member with another name.
pub found_skips : {V C : Type 0} (contents : V → C) (reads : Tree → Option C) (missing found : Option V) (k : List ℕ) (t : Tree) (ms : Members) (name : List ℕ)
    → bytes_eq name k ≡ false → found_or_named contents reads missing found name (member k t ms) ≡ found_or_named contents reads missing found name ms
found_skips contents reads missing (Some v) k t ms name other = refl
found_skips contents reads missing None k t ms name other = skipped (bytes_eq name k) (reading_or (option_map contents missing) reads) t (value_at name ms) other

pub first_skips : {C : Type 0} (first : List ℕ → Members → Option C) (names : List (List ℕ)) (k : List ℕ) (t : Tree) (ms : Members)
    → ((name : List ℕ) → bytes_eq name k ≡ false → first name (member k t ms) ≡ first name ms) → among k names ≡ false
    → under_first first names (member k t ms) ≡ under_first first names ms
first_skips first [] k t ms skips none = refl
first_skips first (name ∷ names) k t ms skips none = skips name (not_this (bytes_eq name k) (among k names) none).0

pub each_skips : {C D : Type 0} (first : List ℕ → Members → Option C) (others : List (List ℕ) → Members → Option D) (names : List (List ℕ)) (k : List ℕ) (t : Tree) (ms : Members)
    → ((name : List ℕ) → bytes_eq name k ≡ false → first name (member k t ms) ≡ first name ms)
    → ((more : List (List ℕ)) → among k more ≡ false → others more (member k t ms) ≡ others more ms) → among k names ≡ false
    → under_each first others names (member k t ms) ≡ under_each first others names ms
each_skips first others [] k t ms skips more none = refl
each_skips first others (name ∷ names) k t ms skips more none =
    let none_of = not_this (bytes_eq name k) (among k names) none in
    ap₂ (both (λ c d. (c, d))) (skips name none_of.0) (more names none_of.1)

-- ---- members in another order

-- A field reads the same from two maps if every name has the same value in both.
pub found_by_name : {V C : Type 0} (contents : V → C) (reads : Tree → Option C) (missing found : Option V) (es ms : Members)
    → ((name : List ℕ) → value_at name es ≡ value_at name ms) → (name : List ℕ) → found_or_named contents reads missing found name es ≡ found_or_named contents reads missing found name ms
found_by_name contents reads missing (Some v) es ms same name = refl
found_by_name contents reads missing None es ms same name = ap (reading_or (option_map contents missing) reads) (same name)

pub first_by_name : {C : Type 0} (first : List ℕ → Members → Option C) (names : List (List ℕ)) (es ms : Members)
    → ((name : List ℕ) → first name es ≡ first name ms) → under_first first names es ≡ under_first first names ms
first_by_name first [] es ms same = refl
first_by_name first (name ∷ names) es ms same = same name

pub each_by_name : {C D : Type 0} (first : List ℕ → Members → Option C) (others : List (List ℕ) → Members → Option D) (names : List (List ℕ)) (es ms : Members)
    → ((name : List ℕ) → first name es ≡ first name ms) → ((more : List (List ℕ)) → others more es ≡ others more ms)
    → under_each first others names es ≡ under_each first others names ms
each_by_name first others [] es ms same more = refl
each_by_name first others (name ∷ names) es ms same more = ap₂ (both (λ c d. (c, d))) (same name) (more names)
