-- Entries put into a map, and the members that they are.
use Rattle.std.proofs.Common.{◌≡◌, ℕ, Bool, true, false, cond, List, [], ◌∷◌, ◌++◌, Option, Some, None, IsSome, option_map, Less, Greater, Ordering, nat_cmp, inl, inr, refl, ap, sym, subst, ◌∙◌}
use Rattle.std.proofs.lemmas.Cmp.{nat_list_cmp_total}
use Rattle.std.specs.Cmp.Lexicographic.{slice_cmp}
use Rattle.std.specs.List.{AllByRecursion}
use Rattle.std.specs.List.Sorted.{IsStrictlySortedBy}
use Rattle.std.specs.Map.{keys_of}
use Rattle.std.specs.Ordering.{ordering_reverse}
use Rattle.ipld_tree.specs.Tree.{Tree, entries, Members, no_members, member}
use Rattle.ipld_tree.specs.Put.{put}
use Rattle.ipld_ser.specs.Builders.{PutsImage}
use Rattle.ipld_ser.specs.Image.{both, RejectsAs}
use Rattle.ipld_ser.specs.Keys.{key_in}
use Rattle.ipld_ser.specs.Composites.{image_at, images_under, keyed_image, MapError}
use Rattle.ipld_ser.proofs.Lists.{both_none, both_there}
use Rattle.ipld_ser.specs.declared.error.SerdeError.{SerdeError}

-- a member in front of what a later key is put into
in_front : (k first : List ℕ) (o p : Option Tree) (ms ms' : Option Members) (all : Members) → slice_cmp nat_cmp k first ≡ Greater
    → both (member first) o ms ≡ Some all → ((tail : Members) → ms ≡ Some tail → ms' ≡ option_map (λ t. put k t tail) p)
    → both (member first) o ms' ≡ option_map (λ t. put k t all) p
in_front k first None p ms ms' all above is goes_on = cc
in_front k first (Some u) p None ms' all above is goes_on = cc
in_front k first (Some u) None (Some tail) ms' all above is goes_on = rw (goes_on tail refl) refl
in_front k first (Some u) (Some t) (Some tail) ms' all above is goes_on =
    let same : member first u tail ≡ all = cc in
    rw (goes_on tail refl) (rw (← same) (rw above refl))

alone : (k : List ℕ) (p : Option Tree) (all : Members) → Some no_members ≡ Some all → both (member k) p (Some no_members) ≡ option_map (λ t. put k t all) p
alone k None all is = refl
alone k (Some t) all is = let same : no_members ≡ all = cc in rw (← same) refl

-- what an entry puts at its text
put_at : (b : Bool) (s k : List ℕ) (o : Option Tree) (before after : Members) → cond b (Some s) None ≡ Some k → PutsImage k o before after
    → option_map (λ t. put s t before) (cond b o None) ≡ Some after
put_at true s k o before after is puts =
    let same : s ≡ k = cc in
    ap (option_map (λ t. put s t before)) puts.has_image ∙ ap Some (ap (λ n. put n puts.tree before) same ∙ sym puts.filed)
put_at false s k o before after is puts = absurd cc

none_at : (b : Bool) (o : Option Tree) → o ≡ None → cond b o None ≡ None
none_at true o none = none
none_at false o none = refl

there_at : (b : Bool) (o : Option Tree) → IsSome (cond b o None) → IsSome o
there_at true o there = there
there_at false o there = absurd cc

module _ {K A : Type 0} (cmp : K → K → Ordering) (text_of : K → List ℕ) (is_key : List ℕ → Bool) (image : A → Option Tree) where
  below_middle : (first : K × A) (es : List (K × A)) (e : K × A) (more : List (K × A)) → AllByRecursion (λ y. cmp first.0 y ≡ Less) (keys_of (es ++ e ∷ more)) → cmp first.0 e.0 ≡ Less
  below_middle first [] e more h = h.0
  below_middle first (x ∷ es) e more h = below_middle first es e more h.1

  -- what one more image is put into, where its key is above those before it
  images_more : ((a b : K) → cmp a b ≡ slice_cmp nat_cmp (text_of a) (text_of b)) → (done : List (K × A)) (e : K × A) (more : List (K × A)) (ms : Members)
      → IsStrictlySortedBy cmp (keys_of (done ++ e ∷ more)) → images_under text_of is_key image done ≡ Some ms
      → images_under text_of is_key image (done ++ e ∷ []) ≡ option_map (λ t. put (text_of e.0) t ms) (image_at is_key image (text_of e.0) e.1)
  unfolding IsStrictlySortedBy
  images_more in_order [] e more ms sorted is = alone (text_of e.0) (image_at is_key image (text_of e.0) e.1) ms is
  images_more in_order (x ∷ done) e more ms sorted is =
      let above : slice_cmp nat_cmp (text_of e.0) (text_of x.0) ≡ Greater =
      nat_list_cmp_total.antisymm (text_of e.0) (text_of x.0) ∙ ap ordering_reverse (sym (in_order x.0 e.0) ∙ below_middle x done e more sorted.0) in
      in_front (text_of e.0) (text_of x.0) (image_at is_key image (text_of x.0) x.1) (image_at is_key image (text_of e.0) e.1) (images_under text_of is_key image done) (images_under text_of is_key image (done ++ e ∷ [])) ms above is
      (λ tail has. images_more in_order done e more tail sorted.1 has)

  -- where one has no image all of them have none
  images_none : (done : List (K × A)) (e : K × A) (more : List (K × A)) → image e.1 ≡ None → images_under text_of is_key image (done ++ e ∷ more) ≡ None
  images_none [] e more none = ap (λ o. both (member (text_of e.0)) o (images_under text_of is_key image more)) (none_at (is_key (text_of e.0)) (image e.1) none)
  images_none (x ∷ done) e more none =
      ap (λ ms. both (member (text_of x.0)) (image_at is_key image (text_of x.0) x.1) ms) (images_none done e more none) ∙ both_none (member (text_of x.0)) (image_at is_key image (text_of x.0) x.1)

  -- the first that has no image is the entry whose predecessors all have one
  first_rejected : (error : A → SerdeError → Type 0) (done : List (K × A)) (entry : K × A) (more : List (K × A)) (ms : Members) (e : SerdeError)
      → images_under text_of is_key image done ≡ Some ms → image entry.1 ≡ None → error entry.1 e → MapError image error (done ++ entry ∷ more) e
  first_rejected error [] entry more ms e so_far none why = inl (none, why)
  first_rejected error (x ∷ done) entry more ms e so_far none why =
      let there = both_there (member (text_of x.0)) (image_at is_key image (text_of x.0) x.1) (images_under text_of is_key image done) ms so_far in
      inr (there_at (is_key (text_of x.0)) (image x.1) there.0, first_rejected error done entry more there.1 e there.2 none why)

  -- the members so far, and the next one
  pub map_more : ((a b : K) → cmp a b ≡ slice_cmp nat_cmp (text_of a) (text_of b)) → (all done : List (K × A)) (e : K × A) (more : List (K × A)) (k : List ℕ) (before after : Members)
      → all ≡ done ++ e ∷ more → IsStrictlySortedBy cmp (keys_of all) → images_under text_of is_key image done ≡ Some before
      → key_in is_key (text_of e.0) ≡ Some k → PutsImage k (image e.1) before after → images_under text_of is_key image (done ++ e ∷ []) ≡ Some after
  map_more in_order all done e more k before after split sorted so_far is puts =
      images_more in_order done e more before (subst (λ es. IsStrictlySortedBy cmp (keys_of es)) split sorted) so_far
      ∙ put_at (is_key (text_of e.0)) (text_of e.0) k (image e.1) before after is puts

  -- a value's rejection is one of the map
  pub map_rejected : (error : A → SerdeError → Type 0) (all done : List (K × A)) (entry : K × A) (more : List (K × A)) (ms : Members) (e : SerdeError)
      → all ≡ done ++ entry ∷ more → images_under text_of is_key image done ≡ Some ms → RejectsAs (image entry.1) (error entry.1) e
      → RejectsAs (keyed_image text_of is_key image all) (MapError image error all) e
  map_rejected error all done entry more ms e split so_far (inl memory) = inl memory
  map_rejected error all done entry more ms e split so_far (inr none) =
      inr (
        ap (keyed_image text_of is_key image) split ∙ ap (option_map entries) (images_none done entry more none.0),
        subst (λ es. MapError image error es e) (sym split) (first_rejected error done entry more ms e so_far none.0 none.1),
      )
