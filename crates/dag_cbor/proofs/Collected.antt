-- A map that is collected from pairs whose keys differ.
use Rattle.std.proofs.Common.{◌≡◌, Bool, cond, true, false, List, [], ◌∷◌, length, map, Option, Some, None, BTreeMap, String, string_bytes, string_cmp, Global, Ordering, Less, Equal, Greater, refl, sym, ap, ap₂, ◌∙◌, is_some}
use Rattle.std.specs.Cmp.Lexicographic.{slice_cmp}
use Rattle.std.specs.List.{AllByRecursion, IsDistinct}
use Rattle.std.specs.List.Sorted.{IsStrictlySortedBy}
use Rattle.std.specs.Map.{keys_of, lookup}
use Rattle.std.specs.Set.{distinct_count}
use Rattle.std.specs.Ordering.{eq_by_cmp, is_eq, match_ordering, nat_cmp, ordering_reverse}
use Rattle.std.specs.BTreeMap.{insert_entry, is_at, btree_map_len, IsFromIterResult}
use Rattle.std.specs.String.{string_cmp_total}
use Rattle.std.proofs.lemmas.Cmp.{eq_by_cmp_equiv}
use Rattle.std.proofs.lemmas.Map.{lookup-none}
use Rattle.std.proofs.lemmas.Map.Entries.{length-keys_of, lookup_head, lookup_tail, none_below_head, none_past_head}
use Rattle.std.proofs.lemmas.Map.Lookups.{exact_bytes}
use Rattle.std.proofs.lemmas.Map.Made.{IsDistinct-from_count, update_all_none}
use Rattle.std.proofs.lemmas.Map.Keys.{IsDistinct-from_sorted, IsDistinct-tail}
use Rattle.std.proofs.lemmas.Map.Text.{is_eq-slice_cmp}
use Rattle.std.proofs.lemmas.Map.Views.{btree_map_len-from_list}
use Rattle.std.proofs.lemmas.Slice.Eq.{bytes_eq-Decides}
use Rattle.ipld_tree.specs.Tree.{member}
use Rattle.ipld_tree.specs.TreeOf.{tree_of, members_of}
use Rattle.ipld_tree.specs.declared.ipld.Ipld.{Ipld}
use Rattle.ipld_tree.proofs.Entries.{Entry, members_of-insert_entry}
use Rattle.ipld_tokens.specs.ItemTree.{has_key, put_new}
use Rattle.ipld_tokens.proofs.TreeLevels.{has_of}
use Rattle.dag_cbor_format.proofs.Keys.{put_new_some}
use Rattle.dag_cbor.specs.Shallow.{entry_of, all_new}

abbrev find : List Entry → String Global → Option Ipld
find es q = lookup (is_at (string_cmp q)) es

-- the entries put one after another, the last first
abbrev made : List Entry → List Entry
made [] = []
made (e ∷ es) = insert_entry string_cmp (made es) e.0 e.1

-- ---- what is found in them

same_test : (k x q : String Global) → string_cmp k x ≡ Equal → is_at (string_cmp q) k ≡ is_at (string_cmp q) x
same_test k x q e = ap (λ b. is_eq (slice_cmp nat_cmp (string_bytes q) b)) (exact_bytes (string_bytes k) (string_bytes x) e)

twice : (b : Bool) (u v o : Option Ipld) → cond b u o ≡ cond b u (cond b v o)
twice true u v o = refl
twice false u v o = refl

in_turn : (b c : Bool) (u v o : Option Ipld) → (b ≡ true → c ≡ true → ⊥) → cond c u (cond b v o) ≡ cond b v (cond c u o)
in_turn true true u v o apart = absurd (apart refl refl)
in_turn true false u v o apart = refl
in_turn false c u v o apart = refl

is_key : (q k : String Global) → is_at (string_cmp q) k ≡ true → string_bytes q ≡ string_bytes k
is_key q k e = (bytes_eq-Decides (string_bytes q) (string_bytes k)).0 (sym (is_eq-slice_cmp (string_bytes q) (string_bytes k)) ∙ e)

differ : (q k x : String Global) → string_cmp k x ≡ Greater → is_at (string_cmp q) k ≡ true → is_at (string_cmp q) x ≡ true → ⊥
differ q k x is a b =
    let same = (bytes_eq-Decides (string_bytes k) (string_bytes x)).1 (sym (is_key q k a) ∙ is_key q x b) in
    let equal : is_eq (string_cmp k x) ≡ true = is_eq-slice_cmp (string_bytes k) (string_bytes x) ∙ same in
    let other : is_eq (string_cmp k x) ≡ false = ap is_eq is in
    cc

put_found : (e : Entry) (es : List Entry) (k : String Global) (v : Ipld) (q : String Global) (o : Ordering) → string_cmp k e.0 ≡ o → find (insert_entry string_cmp es k v) q ≡ cond (is_at (string_cmp q) k) (Some v) (find es q)
    → find (match_ordering o ((k, v) ∷ e ∷ es) ((e.0, v) ∷ es) (e ∷ insert_entry string_cmp es k v)) q ≡ cond (is_at (string_cmp q) k) (Some v) (find (e ∷ es) q)
put_found e es k v q Less is h = refl
put_found e es k v q Equal is h =
    twice (is_at (string_cmp q) e.0) (Some v) (Some e.1) (find es q) ∙ ap (λ b. cond b (Some v) (find (e ∷ es) q)) (sym (same_test k e.0 q is))
put_found e es k v q Greater is h =
    ap (cond (is_at (string_cmp q) e.0) (Some e.1)) h ∙ in_turn (is_at (string_cmp q) k) (is_at (string_cmp q) e.0) (Some e.1) (Some v) (find es q) (differ q k e.0 is)

found_put : (es : List Entry) (k : String Global) (v : Ipld) (q : String Global) → find (insert_entry string_cmp es k v) q ≡ cond (is_at (string_cmp q) k) (Some v) (find es q)
found_put [] k v q = refl
found_put (e ∷ es) k v q = put_found e es k v q (string_cmp k e.0) refl (found_put es k v q)

found_made : (es : List Entry) (q : String Global) → find (made es) q ≡ find es q
found_made [] q = refl
found_made (e ∷ es) q = found_put (made es) e.0 e.1 q ∙ ap (cond (is_at (string_cmp q) e.0) (Some e.1)) (found_made es q)

-- ---- their order

abbrev AllAfter : String Global → List (String Global) → Type 0
AllAfter x ks = AllByRecursion (λ y. string_cmp x y ≡ Less) ks

still_after : (k x : String Global) (ks : List (String Global)) → string_cmp k x ≡ Less → AllAfter x ks → AllAfter k ks
still_after k x [] e h = tt
still_after k x (y ∷ ks) e h = (string_cmp_total.trans k x y e h.0, still_after k x ks e h.1)

after_step : (x : String Global) (e : Entry) (es : List Entry) (k : String Global) (v : Ipld) (o : Ordering) → AllAfter x (keys_of (e ∷ es)) → string_cmp x k ≡ Less → AllAfter x (keys_of (insert_entry string_cmp es k v))
    → AllAfter x (keys_of (match_ordering o ((k, v) ∷ e ∷ es) ((e.0, v) ∷ es) (e ∷ insert_entry string_cmp es k v)))
after_step x e es k v Less h first more = (first, h)
after_step x e es k v Equal h first more = h
after_step x e es k v Greater h first more = (h.0, more)

after_put : (x : String Global) (es : List Entry) (k : String Global) (v : Ipld) → AllAfter x (keys_of es) → string_cmp x k ≡ Less → AllAfter x (keys_of (insert_entry string_cmp es k v))
after_put x [] k v h first = (first, tt)
after_put x (e ∷ es) k v h first = after_step x e es k v (string_cmp k e.0) h first (after_put x es k v h.1 first)

abbrev InOrder : List Entry → Type 0
InOrder es = IsStrictlySortedBy string_cmp (keys_of es)

order_step : (e : Entry) (es : List Entry) (k : String Global) (v : Ipld) (o : Ordering) → string_cmp k e.0 ≡ o → InOrder (e ∷ es) → InOrder (insert_entry string_cmp es k v)
    → InOrder (match_ordering o ((k, v) ∷ e ∷ es) ((e.0, v) ∷ es) (e ∷ insert_entry string_cmp es k v))
unfolding IsStrictlySortedBy
order_step e es k v Less is s more = ((is, still_after k e.0 (keys_of es) is s.0), s)
order_step e es k v Equal is s more = s
order_step e es k v Greater is s more = (after_put e.0 es k v s.0 (string_cmp_total.antisymm e.0 k ∙ ap ordering_reverse is), more)

order_put : (es : List Entry) (k : String Global) (v : Ipld) → InOrder es → InOrder (insert_entry string_cmp es k v)
unfolding IsStrictlySortedBy
order_put [] k v s = (tt, tt)
order_put (e ∷ es) k v s = order_step e es k v (string_cmp k e.0) refl s (order_put es k v s.1)

order_made : (es : List Entry) → InOrder (made es)
unfolding IsStrictlySortedBy
order_made [] = tt
order_made (e ∷ es) = order_put (made es) e.0 e.1 (order_made es)

-- ---- the members that they are

at_first : (e : Entry) (es : List Entry) → find (e ∷ es) e.0 ≡ Some e.1
at_first e es = lookup_head (is_at (string_cmp e.0)) e es ((eq_by_cmp_equiv string_cmp_total).refl e.0)

past_first : (e : Entry) (es : List Entry) (q : String Global) → InOrder (e ∷ es) → is_at (string_cmp q) e.0 ≡ true → find es q ≡ None
past_first e es q s is = lookup-none (is_at (string_cmp q)) es (none_past_head (eq_by_cmp_equiv string_cmp_total) q e es (IsDistinct-from_sorted string_cmp (keys_of (e ∷ es)) s) is)

value_of : Ipld → Option Ipld → Ipld
value_of v None = v
value_of v (Some w) = w

module _ (x y : Entry) (xs ys : List Entry) (s : InOrder (x ∷ xs)) (t : InOrder (y ∷ ys)) (h : (q : String Global) → find (x ∷ xs) q ≡ find (y ∷ ys) q) where
  first_order : (o : Ordering) → string_cmp x.0 y.0 ≡ o → string_cmp x.0 y.0 ≡ Equal
  first_order Less p =
      absurd (let e : Some x.1 ≡ None = sym (at_first x xs) ∙ h x.0 ∙ lookup-none (is_at (string_cmp x.0)) (y ∷ ys) (none_below_head string_cmp_total x.0 y ys t p) in cc)
  first_order Equal p = p
  first_order Greater p =
      let below : string_cmp y.0 x.0 ≡ Less = string_cmp_total.antisymm y.0 x.0 ∙ ap ordering_reverse p in
      absurd (let e : Some y.1 ≡ None = sym (at_first y ys) ∙ sym (h y.0) ∙ lookup-none (is_at (string_cmp y.0)) (x ∷ xs) (none_below_head string_cmp_total y.0 x xs s below) in cc)

  same_first : string_cmp x.0 y.0 ≡ Equal
  same_first = first_order (string_cmp x.0 y.0) refl

  same_value : x.1 ≡ y.1
  unfolding value_of
  same_value = ap (value_of x.1) (sym (at_first x xs) ∙ h x.0 ∙ lookup_head (is_at (string_cmp x.0)) y ys (ap is_eq same_first))

  same_later : (q : String Global) → find xs q ≡ find ys q
  same_later q =
      let same = same_test x.0 y.0 q same_first in
      elim (is_at (string_cmp q) x.0) as (λ b. is_at (string_cmp q) x.0 ≡ b → find xs q ≡ find ys q) [
        | true ↦ λ e. past_first x xs q s e ∙ sym (past_first y ys q t (sym same ∙ e))
        | false ↦ λ e. sym (lookup_tail (is_at (string_cmp q)) x xs e) ∙ h q ∙ lookup_tail (is_at (string_cmp q)) y ys (sym same ∙ e)
      ] refl

same_members : (es fs : List Entry) → InOrder es → InOrder fs → ((q : String Global) → find es q ≡ find fs q) → members_of es ≡ members_of fs
unfolding IsStrictlySortedBy
same_members [] [] s t h = refl
same_members [] (y ∷ ys) s t h = absurd (let e : None ≡ Some y.1 = h y.0 ∙ at_first y ys in cc)
same_members (x ∷ xs) [] s t h = absurd (let e : Some x.1 ≡ None = sym (at_first x xs) ∙ h x.0 in cc)
same_members (x ∷ xs) (y ∷ ys) s t h =
    ap (λ k. member k (tree_of x.1) (members_of xs)) (exact_bytes (string_bytes x.0) (string_bytes y.0) (same_first x y xs ys s t h))
    ∙ ap₂ (λ v ms. member (string_bytes y.0) (tree_of v) ms) (same_value x y xs ys s t h) (same_members xs ys s.1 t.1 (same_later x y xs ys s t h))

abbrev AreDistinct : List Entry → Type 0
AreDistinct es = IsDistinct (eq_by_cmp string_cmp) (keys_of es)

absent : (e : Entry) (es : List Entry) → AreDistinct (e ∷ es) → has_key (string_bytes e.0) (members_of (made es)) ≡ false
absent e es d =
    has_of e.0 (made es) ∙ ap is_some (found_made es e.0 ∙ lookup-none (is_at (string_cmp e.0)) es (none_past_head (eq_by_cmp_equiv string_cmp_total) e.0 e es d ((eq_by_cmp_equiv string_cmp_total).refl e.0)))

made_new : (es : List Entry) → AreDistinct es → all_new (map entry_of es) ≡ Some (members_of (made es))
made_new [] d = refl
made_new (e ∷ es) d =
    ap (put_new (Some (string_bytes e.0)) (Some (tree_of e.1))) (made_new es (IsDistinct-tail (eq_by_cmp string_cmp) e.0 (keys_of es) d))
    ∙ put_new_some (string_bytes e.0) (tree_of e.1) (members_of (made es)) (absent e es d) ∙ ap Some (sym (members_of-insert_entry (made es) e.0 e.1))

-- a map that was collected from these entries, and has as many
pub collected : (es : List Entry) (n : BTreeMap (String Global) Ipld) → IsFromIterResult string_cmp es n → btree_map_len n ≡ length es → all_new (map entry_of es) ≡ Some (members_of n.entries)
collected es n from as_many =
    let count : distinct_count (eq_by_cmp string_cmp) (keys_of es) ≡ length (keys_of es) = sym (btree_map_len-from_list string_cmp_total es n from) ∙ as_many ∙ sym (length-keys_of es) in
    let d = IsDistinct-from_count (eq_by_cmp_equiv string_cmp_total) (keys_of es) count in
    made_new es d
    ∙ ap Some (
    same_members (made es) n.entries (order_made es) from.1
    (λ q. found_made es q ∙ sym (from.0 q ∙ update_all_none (eq_by_cmp_equiv string_cmp_total) (eq_by_cmp string_cmp) (λ x y. refl) es q d))
    )
