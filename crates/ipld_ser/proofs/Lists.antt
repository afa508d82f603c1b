-- Lists of images, as they are fed one after the other.
use Rattle.std.proofs.Common.{◌≡◌, inl, inr, ℕ, zero, suc, ◌+◌, ◌<◌, List, [], ◌∷◌, ◌++◌, map, length, get_or, take, Option, Some, None, option_map, IsSome, refl, ap, sym, subst, ◌∙◌, arith}
use Rattle.std.proofs.lemmas.List.{take_more, map-append}
use Rattle.ipld_tree.specs.Tree.{Tree, list}
use Rattle.ipld_tree.specs.TreeOf.{as_items}
use Rattle.ipld_ser.specs.Image.{both, RejectsAs}
use Rattle.ipld_ser.specs.Composites.{all_of, list_image, ListError}
use Rattle.ipld_ser.specs.declared.error.SerdeError.{SerdeError}

-- where the second is missing there aren't both
pub both_none : {A B C : Type 0} (f : A → B → C) (o : Option A) → both f o None ≡ None
both_none f None = refl
both_none f (Some a) = refl

front : (o p : Option Tree) (os os' : Option (List Tree)) (ts : List Tree) → both ◌∷◌ o os ≡ Some ts
    → ((us : List Tree) → os ≡ Some us → os' ≡ option_map (λ t. us ++ t ∷ []) p) → both ◌∷◌ o os' ≡ option_map (λ t. ts ++ t ∷ []) p
front None p os os' ts is goes_on = cc
front (Some u) p None os' ts is goes_on = cc
front (Some u) None (Some us) os' ts is goes_on = rw (goes_on us refl) refl
front (Some u) (Some t) (Some us) os' ts is goes_on =
    let same : u ∷ us ≡ ts = cc in
    rw (goes_on us refl) (ap (λ vs. Some (vs ++ t ∷ [])) same)

none_fed : (o : Option Tree) (ts : List Tree) → Some [] ≡ Some ts → both ◌∷◌ o (Some []) ≡ option_map (λ t. ts ++ t ∷ []) o
none_fed None ts is = refl
none_fed (Some t) ts is = let same : [] ≡ ts = cc in ap (λ vs. Some (vs ++ t ∷ [])) same

-- one more image goes last
pub all_of_more : (os : List (Option Tree)) (o : Option Tree) (ts : List Tree) → all_of os ≡ Some ts → all_of (os ++ o ∷ []) ≡ option_map (λ t. ts ++ t ∷ []) o
all_of_more [] o ts is = none_fed o ts is
all_of_more (p ∷ os) o ts is = front p o (all_of os) (all_of (os ++ o ∷ [])) ts is (λ us has. all_of_more os o us has)

-- where one is missing there are not all
pub all_of_none : (os : List (Option Tree)) (o : Option Tree) (more : List (Option Tree)) → o ≡ None → all_of (os ++ o ∷ more) ≡ None
all_of_none [] o more none = ap (λ p. both ◌∷◌ p (all_of more)) none
all_of_none (p ∷ os) o more none = ap (both ◌∷◌ p) (all_of_none os o more none) ∙ both_none ◌∷◌ p

-- the elements so far, and the next one
pub list_more : {A : Type 0} (image : A → Option Tree) (xs : List A) (i : ℕ) (x : A) (ts ts' : List Tree) → i < length xs → x ≡ get_or xs i x
    → all_of (map image (take i xs)) ≡ Some ts → option_map (λ t. ts ++ t ∷ []) (image x) ≡ Some ts' → all_of (map image (take (i + 1) xs)) ≡ Some ts'
list_more image xs i x ts ts' below is so_far more =
    let split : map image (take (i + 1) xs) ≡ map image (take i xs) ++ image x ∷ [] =
    ap (map image) (take_more xs i x below ∙ ap (λ y. take i xs ++ y ∷ []) (sym is)) ∙ map-append image (take i xs) (x ∷ []) in
    ap all_of split ∙ all_of_more (map image (take i xs)) (image x) ts so_far ∙ more

all_none : {A : Type 0} (image : A → Option Tree) (xs : List A) (i : ℕ) (x : A) → i < length xs → x ≡ get_or xs i x → image x ≡ None → all_of (map image xs) ≡ None
all_none image [] i x below is none = absurd (omega arith)
all_none image (y ∷ ys) zero x below is none = all_of_none [] (image y) (map image ys) (ap image (sym is) ∙ none)
all_none image (y ∷ ys) (suc i) x below is none =
    ap (both ◌∷◌ (image y)) (all_none image ys i x (omega arith) is none) ∙ both_none ◌∷◌ (image y)

-- where both are there, the first is, and the second
pub both_there : {A B C : Type 0} (f : A → B → C) (o : Option A) (p : Option B) (c : C) → both f o p ≡ Some c → IsSome o × (b : B) × (p ≡ Some b)
both_there f None p c is = absurd cc
both_there f (Some a) None c is = absurd cc
both_there f (Some a) (Some b) c is = (refl, b, refl)

-- the first that has no image is the element whose predecessors all have one
first_rejected : {A : Type 0} (image : A → Option Tree) (error : A → SerdeError → Type 0) (xs : List A) (i : ℕ) (x : A) (ts : List Tree) (e : SerdeError) → i < length xs → x ≡ get_or xs i x
    → all_of (map image (take i xs)) ≡ Some ts → image x ≡ None → error x e → ListError image error xs e
first_rejected image error [] i x ts e below is so_far none why = absurd (omega arith)
first_rejected image error (y ∷ ys) zero x ts e below is so_far none why = inl (ap image (sym is) ∙ none, subst (λ z. error z e) is why)
first_rejected image error (y ∷ ys) (suc i) x ts e below is so_far none why =
    let there = both_there ◌∷◌ (image y) (all_of (map image (take i ys))) ts so_far in
    inr (there.0, first_rejected image error ys i x there.1 e (omega arith) is there.2 none why)

-- an element's rejection is one of the list
pub list_rejected : {A : Type 0} (image : A → Option Tree) (error : A → SerdeError → Type 0) (xs : List A) (i : ℕ) (x : A) (ts : List Tree) (e : SerdeError) → i < length xs → x ≡ get_or xs i x
    → all_of (map image (take i xs)) ≡ Some ts → RejectsAs (image x) (error x) e → RejectsAs (list_image image xs) (ListError image error xs) e
list_rejected image error xs i x ts e below is so_far (inl memory) = inl memory
list_rejected image error xs i x ts e below is so_far (inr none) =
    inr (ap (option_map (λ ts. list (as_items ts))) (all_none image xs i x below is none.0), first_rejected image error xs i x ts e below is so_far none.0 none.1)
