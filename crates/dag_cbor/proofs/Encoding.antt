-- How the values of a list and of a map are written, one after another.
use Rattle.std.proofs.Common.{◌≡◌, ℕ, suc, ◌+◌, ◌^◌, ◌<◌, Bool, true, false, List, [], ◌∷◌, ◌++◌, length, map, Option, Some, None, String, Global, string_bytes, string_cmp, is_lt, Less, refl, sym, ap, ◌∙◌, arith, inl, inr}
use Rattle.std.specs.Prelude.{if◌then◌else◌, ◌&&◌}
use Rattle.std.specs.List.{AllByRecursion}
use Rattle.std.specs.List.Sorted.{IsStrictlySortedBy}
use Rattle.std.specs.Map.{keys_of}
use Rattle.std.proofs.lemmas.Bool.{cases_Bool, and_from}
use Rattle.ipld_tree.specs.Tree.{list, entries}
use Rattle.ipld_tree.specs.TreeOf.{tree_of, items_of, members_of}
use Rattle.ipld_tree.specs.declared.ipld.Ipld.{Ipld}
use Rattle.dag_cbor_format.specs.declared.major.Major.{Major}
use Rattle.dag_cbor_format.specs.declared.major.Major.TheVariants.{List as Array, Map}
use Rattle.dag_cbor_format.specs.Head.{head}
use Rattle.dag_cbor_format.specs.Canonical.{is_before, goes_first, placed, precedes, headed, written_text, joined, item_count, Written, written_pairs, written_with, written_map, canonical, canonical_items, canonical_members}
use Rattle.dag_cbor_format.specs.Range.{in_range, items_in_range, members_in_range}
use Rattle.dag_cbor.specs.declared.encode.EncodeCursor.{EncodeCursor}
use Rattle.dag_cbor.specs.Writing.{Keyed, after_key, in_order}
use Rattle.dag_cbor.specs.Cursors.{of_item, of_entry, left_of, written, within, load, items_load, members_load, load_of, Begins}
use Rattle.dag_cbor_format.proofs.Writing.{headed_some}
use Rattle.dag_cbor.proofs.Entries.{Entry}
use Rattle.dag_cbor.proofs.Joining.{joined_empty, joined_none}

headed_joined : (major : Major) (n : ℕ) (o : Option (List ℕ)) → n < 2 ^ 64 → headed major n o ≡ joined (Some (head major n)) o
headed_joined major n None lt = refl
headed_joined major n (Some b) lt = headed_some major n b lt

-- ---- lists

items_written : (xs : List Ipld) → canonical_items (items_of xs) ≡ written (map of_item xs)
items_written [] = refl
items_written (x ∷ xs) =
    ap (joined (canonical (tree_of x))) (items_written xs)
    ∙ ap (λ o. joined o (written (map of_item xs))) (sym (joined_empty (canonical (tree_of x))))

items_within : (xs : List Ipld) → items_in_range (items_of xs) ≡ within (map of_item xs)
items_within [] = refl
items_within (x ∷ xs) = ap (λ b. in_range (tree_of x) && b) (items_within xs)

items_loaded : (xs : List Ipld) → items_load (items_of xs) ≡ load_of (map of_item xs)
items_loaded [] = refl
items_loaded (x ∷ xs) = ap (λ n. load (tree_of x) + n) (items_loaded xs)

items_counted : (xs : List Ipld) → item_count (items_of xs) ≡ length xs
items_counted [] = refl
items_counted (x ∷ xs) = ap suc (items_counted xs)

pub list_begins : (xs : List Ipld) (n : ℕ) (c : EncodeCursor) (start end : List ℕ) → n ≡ length xs → n < 2 ^ 64 → left_of c ≡ map of_item xs → end ≡ start ++ head Array n
    → Begins (list (items_of xs)) start (c ∷ []) end
list_begins xs n c start end count fits left e = record {
  bytes = head Array n;
  appended = e;
  same = ap (λ k. headed Array k (canonical_items (items_of xs))) (items_counted xs ∙ sym count)
      ∙ headed_joined Array n (canonical_items (items_of xs)) fits
      ∙ ap (joined (Some (head Array n))) (items_written xs ∙ ap written (sym left));
  range = items_within xs ∙ ap within (sym left);
  shrinks = let same = items_loaded xs ∙ ap load_of (sym left) in omega arith;
}

-- ---- maps

-- keys with what is written of their values
abbrev mapped : List ℕ → Option (List ℕ) → Option Written → Option Written
mapped k (Some b) (Some ps) = Some ((k, b) ∷ ps)
mapped k (Some b) None = None
mapped k None ps = None

abbrev encoded : List Keyed → Option Written
encoded [] = Some []
encoded (e ∷ es) = mapped e.0 (canonical (tree_of e.1)) (encoded es)

with_first : (k j : List ℕ) (o p : Option (List ℕ)) (q : Option Written) → goes_first j k ≡ true → mapped j p (written_with k o q) ≡ written_with k o (mapped j p q)
with_first k j None None None h = refl
with_first k j None None (Some ps) h = refl
with_first k j None (Some c) None h = refl
with_first k j None (Some c) (Some ps) h = refl
with_first k j (Some b) None None h = refl
with_first k j (Some b) None (Some ps) h = refl
with_first k j (Some b) (Some c) None h = refl
with_first k j (Some b) (Some c) (Some ps) h = rw h

with_here : (k j : List ℕ) (o p : Option (List ℕ)) (q : Option Written) → goes_first j k ≡ false → mapped k o (mapped j p q) ≡ written_with k o (mapped j p q)
with_here k j None None None h = refl
with_here k j None None (Some ps) h = refl
with_here k j None (Some c) None h = refl
with_here k j None (Some c) (Some ps) h = refl
with_here k j (Some b) None None h = refl
with_here k j (Some b) None (Some ps) h = refl
with_here k j (Some b) (Some c) None h = refl
with_here k j (Some b) (Some c) (Some ps) h = rw h

with_nothing : (k : List ℕ) (o : Option (List ℕ)) → mapped k o (Some []) ≡ written_with k o (Some [])
with_nothing k None = refl
with_nothing k (Some b) = refl

encoded_placed : (k : List ℕ) (v : Ipld) (es : List Keyed) → encoded (placed k v es) ≡ written_with k (canonical (tree_of v)) (encoded es)
encoded_placed k v [] = with_nothing k (canonical (tree_of v))
encoded_placed k v (e ∷ es) =
    elim (cases_Bool (goes_first e.0 k)) [
      | inl first ↦
          ap (λ b. encoded (if b then e ∷ placed k v es else (k, v) ∷ (e ∷ es))) first
          ∙ ap (mapped e.0 (canonical (tree_of e.1))) (encoded_placed k v es)
          ∙ with_first k e.0 (canonical (tree_of v)) (canonical (tree_of e.1)) (encoded es) first
      | inr here ↦
          ap (λ b. encoded (if b then e ∷ placed k v es else (k, v) ∷ (e ∷ es))) here
          ∙ with_here k e.0 (canonical (tree_of v)) (canonical (tree_of e.1)) (encoded es) here
    ]

precedes_all : (k : String Global) (es : List Entry) → AllByRecursion (λ y. string_cmp k y ≡ Less) (keys_of es) → precedes (string_bytes k) (members_of es) ≡ true
precedes_all k [] h = refl
precedes_all k (e ∷ es) h = and_from (is_before (string_bytes k) (string_bytes e.0)) (precedes (string_bytes k) (members_of es)) (ap is_lt h.0) (precedes_all k es h.1)

members_encoded : (es : List Entry) → IsStrictlySortedBy string_cmp (keys_of es) → canonical_members (members_of es) ≡ encoded (in_order (after_key es))
unfolding IsStrictlySortedBy
members_encoded [] h = refl
members_encoded (e ∷ es) h =
    let k = string_bytes e.0 in
    ap (λ b. if b then written_with k (canonical (tree_of e.1)) (canonical_members (members_of es)) else None) (precedes_all e.0 es h.0)
    ∙ ap (written_with k (canonical (tree_of e.1))) (members_encoded es h.1)
    ∙ sym (encoded_placed k e.1 (in_order (after_key es)))

-- ---- what is written of entries, key by key

abbrev pairs_of : Option Written → Option (List ℕ)
pairs_of None = None
pairs_of (Some ps) = written_pairs ps

mapped_pairs : (k : List ℕ) (o : Option (List ℕ)) (q : Option Written) → pairs_of (mapped k o q) ≡ joined (joined (written_text k) o) (pairs_of q)
mapped_pairs k None q = sym (ap (λ p. joined p (pairs_of q)) (joined_none (written_text k)))
mapped_pairs k (Some b) None = sym (joined_none (joined (written_text k) (Some b)))
mapped_pairs k (Some b) (Some ps) = refl

encoded_written : (es : List Keyed) → pairs_of (encoded es) ≡ written (map of_entry es)
encoded_written [] = refl
encoded_written (e ∷ es) =
    mapped_pairs e.0 (canonical (tree_of e.1)) (encoded es)
    ∙ ap (joined (joined (written_text e.0) (canonical (tree_of e.1)))) (encoded_written es)

abbrev HasLength : ℕ → Option Written → Type 0
HasLength n None = Unit {0}
HasLength n (Some ps) = length ps ≡ n

mapped_length : (k : List ℕ) (o : Option (List ℕ)) (q : Option Written) (n : ℕ) → HasLength n q → HasLength (suc n) (mapped k o q)
mapped_length k None q n h = tt
mapped_length k (Some b) None n h = tt
mapped_length k (Some b) (Some ps) n h = ap suc h

encoded_length : (es : List Keyed) → HasLength (length es) (encoded es)
encoded_length [] = refl
encoded_length (e ∷ es) = mapped_length e.0 (canonical (tree_of e.1)) (encoded es) (length es) (encoded_length es)

map_headed : (q : Option Written) (n : ℕ) → HasLength n q → written_map q ≡ headed Map n (pairs_of q)
map_headed None n h = refl
map_headed (Some ps) n h = ap (λ k. headed Map k (written_pairs ps)) h

placed_length : (k : List ℕ) (v : Ipld) (es : List Keyed) → length (placed k v es) ≡ suc (length es)
placed_length k v [] = refl
placed_length k v (e ∷ es) =
    elim (cases_Bool (goes_first e.0 k)) [
      | inl first ↦ ap (λ b. length (if b then e ∷ placed k v es else (k, v) ∷ (e ∷ es))) first ∙ ap suc (placed_length k v es)
      | inr here ↦ ap (λ b. length (if b then e ∷ placed k v es else (k, v) ∷ (e ∷ es))) here
    ]

in_order_length : (es : List Keyed) → length (in_order es) ≡ length es
in_order_length [] = refl
in_order_length (e ∷ es) = placed_length e.0 e.1 (in_order es) ∙ ap suc (in_order_length es)

keyed_length : (es : List Entry) → length (after_key es) ≡ length es
keyed_length [] = refl
keyed_length (e ∷ es) = ap suc (keyed_length es)

-- ---- in the order of the keys there are the same values

and_swap : (a b c : Bool) → (a && (b && c)) ≡ (b && (a && c))
and_swap true b c = refl
and_swap false true c = refl
and_swap false false c = refl

placed_within : (k : List ℕ) (v : Ipld) (es : List Keyed) → within (map of_entry (placed k v es)) ≡ (in_range (tree_of v) && within (map of_entry es))
placed_within k v [] = refl
placed_within k v (e ∷ es) =
    let P : Bool → Bool = λ b. within (map of_entry (if b then e ∷ placed k v es else (k, v) ∷ (e ∷ es))) in
    elim (cases_Bool (goes_first e.0 k)) [
      | inl first ↦
          ap P first ∙ ap (λ b. in_range (tree_of e.1) && b) (placed_within k v es)
          ∙ and_swap (in_range (tree_of e.1)) (in_range (tree_of v)) (within (map of_entry es))
      | inr here ↦ ap P here
    ]

members_within : (es : List Entry) → members_in_range (members_of es) ≡ within (map of_entry (in_order (after_key es)))
members_within [] = refl
members_within (e ∷ es) =
    ap (λ b. in_range (tree_of e.1) && b) (members_within es)
    ∙ sym (placed_within (string_bytes e.0) e.1 (in_order (after_key es)))

placed_loaded : (k : List ℕ) (v : Ipld) (es : List Keyed) → load_of (map of_entry (placed k v es)) ≡ load (tree_of v) + load_of (map of_entry es)
placed_loaded k v [] = refl
placed_loaded k v (e ∷ es) =
    let P : Bool → ℕ = λ b. load_of (map of_entry (if b then e ∷ placed k v es else (k, v) ∷ (e ∷ es))) in
    elim (cases_Bool (goes_first e.0 k)) [
      | inl first ↦ ap P first ∙ (let more = placed_loaded k v es in omega arith)
      | inr here ↦ ap P here
    ]

members_loaded : (es : List Entry) → members_load (members_of es) ≡ load_of (map of_entry (in_order (after_key es)))
members_loaded [] = refl
members_loaded (e ∷ es) =
    ap (λ n. load (tree_of e.1) + n) (members_loaded es)
    ∙ sym (placed_loaded (string_bytes e.0) e.1 (in_order (after_key es)))

pub map_begins : (es : List Entry) (n : ℕ) (c : EncodeCursor) (start end : List ℕ) → IsStrictlySortedBy string_cmp (keys_of es) → n ≡ length es → n < 2 ^ 64
    → left_of c ≡ map of_entry (in_order (after_key es)) → end ≡ start ++ head Map n → Begins (entries (members_of es)) start (c ∷ []) end
map_begins es n c start end ordered count fits left e =
    let sorted = in_order (after_key es) in
    let long : length sorted ≡ n = in_order_length (after_key es) ∙ keyed_length es ∙ sym count in
    record {
      bytes = head Map n;
      appended = e;
      same = ap written_map (members_encoded es ordered) ∙ map_headed (encoded sorted) (length sorted) (encoded_length sorted)
          ∙ ap (λ k. headed Map k (pairs_of (encoded sorted))) long ∙ headed_joined Map n (pairs_of (encoded sorted)) fits
          ∙ ap (joined (Some (head Map n))) (encoded_written sorted ∙ ap written (sym left));
      range = members_within es ∙ ap within (sym left);
      shrinks = let same = members_loaded es ∙ ap load_of (sym left) in omega arith;
    }
