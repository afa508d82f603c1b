-- Maps, as they are read entry by entry.
use Rattle.std.proofs.Common.{◌≡◌, inl, inr, is_some, ℕ, suc, length, Bool, true, false, cond, List, [], ◌∷◌, ◌++◌, map, String, Global, string_bytes, string_cmp, nat_cmp, Ordering, Less, Greater, Option, Some, None, option_map, refl, sym, ap, subst, ◌∙◌, append_assoc}
use Rattle.std.proofs.lemmas.Cmp.{nat_list_cmp_total}
use Rattle.std.proofs.lemmas.List.{map-append}
use Rattle.std.specs.Cmp.Lexicographic.{slice_cmp}
use Rattle.std.specs.List.{AllByRecursion}
use Rattle.std.specs.List.Sorted.{IsStrictlySortedBy}
use Rattle.std.specs.Ordering.{ordering_reverse}
use Rattle.std.specs.Map.{keys_of}
use Rattle.std.specs.BTreeMap.{insert_entry}
use Rattle.ipld_tree.specs.TreeOf.{members_of}
use Rattle.ipld_tree.specs.declared.ipld.Ipld.{Ipld}
use Rattle.ipld_de.specs.Forms.{count_members}
use Rattle.ipld_tree.specs.Tree.{Tree, Members, member}
use Rattle.ipld_tree.specs.IsWhole.{keys_in, Ascends}
use Rattle.ipld_ser.specs.Image.{both, RejectsAs}
use Rattle.ipld_ser.specs.Keys.{key_in}
use Rattle.ipld_ser.specs.declared.error.SerdeError.{SerdeError}
use Rattle.ipld_de.specs.Composites.{reading_at, read_entries, keyed_contents, EntriesError}

-- ---- keys in order

below_all : (k : String Global) (es : List (String Global × Ipld)) → AllByRecursion (λ y. string_cmp k y ≡ Less) (keys_of es)
    → AllByRecursion (λ y. slice_cmp nat_cmp (string_bytes k) y ≡ Less) (keys_in (members_of es))
below_all k [] h = tt
below_all k (e ∷ es) h = (h.0, below_all k es h.1)

pub ascends : (es : List (String Global × Ipld)) → IsStrictlySortedBy string_cmp (keys_of es) → Ascends (members_of es)
unfolding IsStrictlySortedBy
ascends [] h = tt
ascends (e ∷ es) h = (below_all e.0 es h.0, ascends es h.1)

pub count_members-members_of : (es : List (String Global × Ipld)) → count_members (members_of es) ≡ length es
count_members-members_of [] = refl
count_members-members_of (e ∷ es) = ap suc (count_members-members_of es)

below_middle : (first : List ℕ) (ks : List (List ℕ)) (k : List ℕ) (more : List (List ℕ)) → AllByRecursion (λ y. slice_cmp nat_cmp first y ≡ Less) (ks ++ k ∷ more) → slice_cmp nat_cmp first k ≡ Less
below_middle first [] k more h = h.0
below_middle first (x ∷ ks) k more h = below_middle first ks k more h.1

-- ---- what stands at a text that is a key

key_there : (b : Bool) (s k : List ℕ) → cond b (Some s) None ≡ Some k → s ≡ k
key_there true s k is = cc
key_there false s k is = absurd cc

at_key : {C : Type 0} (b : Bool) (s k : List ℕ) (o : Option C) → cond b (Some s) None ≡ Some k → cond b o None ≡ o
at_key true s k o is = refl
at_key false s k o is = absurd cc

no_key : {C : Type 0} (b : Bool) (s : List ℕ) (o : Option C) → cond b (Some s) None ≡ None → cond b o None ≡ None
no_key true s o is = absurd cc
no_key false s o is = refl

none_at : {C : Type 0} (b : Bool) (o : Option C) → o ≡ None → cond b o None ≡ None
none_at true o none = none
none_at false o none = refl

regrouped : {C : Type 0} (done : List (List ℕ × C)) (k : List ℕ) (c : C) (o : Option (List (List ℕ × C)))
    → option_map (λ es. done ++ es) (both (λ d es. (k, d) ∷ es) (Some c) o) ≡ option_map (λ es. (done ++ (k, c) ∷ []) ++ es) o
regrouped done k c None = refl
regrouped done k c (Some es) = ap Some (sym (append_assoc done ((k, c) ∷ []) es))

-- ---- keys

module _ {K T : Type 0} (cmp : K → K → Ordering) (text_of : K → List ℕ) where
  -- the texts of the keys of these entries
  abbrev pub texts_of : List (K × T) → List (List ℕ)
  texts_of es = map (λ e. text_of e.0) es

  -- the keys that were read, and after them those that are left, ascend
  abbrev pub InOrder : List (K × T) → Members → Type 0
  InOrder done rest = IsStrictlySortedBy (slice_cmp nat_cmp) (texts_of done ++ keys_in rest)

  -- a key above those before it goes last
  insert_last : ((a b : K) → cmp a b ≡ slice_cmp nat_cmp (text_of a) (text_of b)) → (done : List (K × T)) (k : K) (v : T) (more : List (List ℕ))
      → IsStrictlySortedBy (slice_cmp nat_cmp) (texts_of done ++ text_of k ∷ more) → insert_entry cmp done k v ≡ done ++ (k, v) ∷ []
  unfolding IsStrictlySortedBy
  insert_last in_order [] k v more sorted = refl
  insert_last in_order (e ∷ done) k v more sorted =
      let above : cmp k e.0 ≡ Greater =
      in_order k e.0 ∙ nat_list_cmp_total.antisymm (text_of k) (text_of e.0) ∙ ap ordering_reverse (below_middle (text_of e.0) (texts_of done) (text_of k) more sorted.0) in
      rw above (ap (λ es. e ∷ es) (insert_last in_order done k v more sorted.1))

  -- its key stands after those before it, and before those that are left
  pub order_more : (is_key : List ℕ → Bool) (done : List (K × T)) (rest left : Members) (s : List ℕ) (k : K) (t : Tree) (v : T)
      → key_in is_key s ≡ Some (text_of k) → InOrder done rest → rest ≡ member s t left → InOrder (done ++ (k, v) ∷ []) left
  order_more is_key done rest left s k t v key sorted taken =
      let keys : texts_of done ++ keys_in rest ≡ texts_of (done ++ (k, v) ∷ []) ++ keys_in left =
      ap (λ ms. texts_of done ++ keys_in ms) taken ∙ ap (λ n. texts_of done ++ n ∷ keys_in left) (key_there (is_key s) s (text_of k) key)
      ∙ sym (append_assoc (texts_of done) (text_of k ∷ []) (keys_in left))
      ∙ ap (λ ks. ks ++ keys_in left) (sym (map-append (λ (e : K × T). text_of e.0) done ((k, v) ∷ []))) in
      subst (IsStrictlySortedBy (slice_cmp nat_cmp)) keys sorted

  -- so it goes last into the map
  pub goes_last : ((a b : K) → cmp a b ≡ slice_cmp nat_cmp (text_of a) (text_of b)) → (is_key : List ℕ → Bool) (done : List (K × T)) (rest left : Members) (s : List ℕ) (k : K) (t : Tree) (v : T)
      → key_in is_key s ≡ Some (text_of k) → InOrder done rest → rest ≡ member s t left → insert_entry cmp done k v ≡ done ++ (k, v) ∷ []
  goes_last in_order is_key done rest left s k t v key sorted taken =
      insert_last in_order done k v (keys_in left) (subst (λ ks. IsStrictlySortedBy (slice_cmp nat_cmp) (texts_of done ++ ks))
      (ap keys_in taken ∙ ap (λ n. n ∷ keys_in left) (key_there (is_key s) s (text_of k) key)) sorted)

-- ---- entries

module _ {K T C : Type 0} (text_of : K → List ℕ) (is_key : List ℕ → Bool) (contents : T → C) (reads : Tree → Option C) where
  -- the reading of a whole map, where these entries were read and these are left
  abbrev pub entries_so_far : Members → List (K × T) → Members → Type 0
  entries_so_far all done rest = read_entries is_key reads all ≡ option_map (λ es. keyed_contents text_of contents done ++ es) (read_entries is_key reads rest)

  -- the entries so far and the next one
  pub entries_more : (all rest left : Members) (done : List (K × T)) (s : List ℕ) (k : K) (t : Tree) (v : T)
      → entries_so_far all done rest → rest ≡ member s t left → key_in is_key s ≡ Some (text_of k) → reads t ≡ Some (contents v) → entries_so_far all (done ++ (k, v) ∷ []) left
  entries_more all rest left done s k t v so_far taken key value =
      let joined : keyed_contents text_of contents (done ++ (k, v) ∷ []) ≡ keyed_contents text_of contents done ++ (text_of k, contents v) ∷ [] =
      map-append (λ (e : K × T). (text_of e.0, contents e.1)) done ((k, v) ∷ []) in
      so_far ∙ ap (λ ms. option_map (λ es. keyed_contents text_of contents done ++ es) (read_entries is_key reads ms)) taken
      ∙ ap (λ o. option_map (λ es. keyed_contents text_of contents done ++ es) (both (λ c es. (s, c) ∷ es) o (read_entries is_key reads left))) (at_key (is_key s) s (text_of k) (reads t) key ∙ value)
      ∙ regrouped (keyed_contents text_of contents done) s (contents v) (read_entries is_key reads left)
      ∙ ap (λ n. option_map (λ es. (keyed_contents text_of contents done ++ (n, contents v) ∷ []) ++ es) (read_entries is_key reads left)) (key_there (is_key s) s (text_of k) key)
      ∙ ap (λ ds. option_map (λ es. ds ++ es) (read_entries is_key reads left)) (sym joined)

  none_left : (done : List (K × T)) (s : List ℕ) (t : Tree) (left : Members) → reading_at is_key reads s t ≡ None
      → option_map (λ es. keyed_contents text_of contents done ++ es) (read_entries is_key reads (member s t left)) ≡ None
  none_left done s t left none =
      ap (λ o. option_map (λ es. keyed_contents text_of contents done ++ es) (both (λ c es. (s, c) ∷ es) o (read_entries is_key reads left))) none

  module _ (key_error : List ℕ → SerdeError → Type 0) (error : Tree → SerdeError → Type 0) where
    -- the error of the members that are left is that of all of them
    abbrev pub ErrorOfRest : Members → Members → Type 0
    ErrorOfRest all rest = (e : SerdeError) → EntriesError is_key key_error reads error rest e → EntriesError is_key key_error reads error all e

    pub error_more : (all rest left : Members) (s : List ℕ) (k : K) (t : Tree) (c : C)
        → ErrorOfRest all rest → rest ≡ member s t left → key_in is_key s ≡ Some (text_of k) → reads t ≡ Some c → ErrorOfRest all left
    error_more all rest left s k t c so_far taken key value = λ e why.
        so_far e (subst (λ ms. EntriesError is_key key_error reads error ms e) (sym taken) (inr (ap is_some key, inr (ap is_some value, why))))

    -- a key is rejected
    pub key_rejected : (all rest left : Members) (done : List (K × T)) (s : List ℕ) (t : Tree) (e : SerdeError)
        → entries_so_far all done rest → ErrorOfRest all rest → rest ≡ member s t left
        → RejectsAs (key_in is_key s) (key_error s) e → RejectsAs (read_entries is_key reads all) (EntriesError is_key key_error reads error all) e
    key_rejected all rest left done s t e so_far others taken (inl memory) = inl memory
    key_rejected all rest left done s t e so_far others taken (inr none) =
        inr (
          so_far ∙ ap (λ ms. option_map (λ es. keyed_contents text_of contents done ++ es) (read_entries is_key reads ms)) taken ∙ none_left done s t left (no_key (is_key s) s (reads t) none.0),
          others e (subst (λ ms. EntriesError is_key key_error reads error ms e) (sym taken) (inl (none.0, none.1))),
        )

    -- a value is rejected
    pub entry_rejected : (all rest left : Members) (done : List (K × T)) (s : List ℕ) (k : K) (t : Tree) (e : SerdeError)
        → entries_so_far all done rest → ErrorOfRest all rest → rest ≡ member s t left → key_in is_key s ≡ Some (text_of k)
        → RejectsAs (reads t) (error t) e → RejectsAs (read_entries is_key reads all) (EntriesError is_key key_error reads error all) e
    entry_rejected all rest left done s k t e so_far others taken key (inl memory) = inl memory
    entry_rejected all rest left done s k t e so_far others taken key (inr none) =
        inr (
          so_far ∙ ap (λ ms. option_map (λ es. keyed_contents text_of contents done ++ es) (read_entries is_key reads ms)) taken ∙ none_left done s t left (none_at (is_key s) (reads t) none.0),
          others e (subst (λ ms. EntriesError is_key key_error reads error ms e) (sym taken) (inr (ap is_some key, inl (none.0, none.1)))),
        )
