-- The entries of a map, and their order.
use Rattle.std.proofs.Common.{◌≡◌, ℕ, ◌≤◌, false, List, [], ◌∷◌, ◌++◌, String, Global, Bor, string_bytes, string_cmp, is_lt, Less, ap, ◌∙◌, refl, length}
use Rattle.std.specs.List.{AllByRecursion}
use Rattle.std.specs.List.Sorted.{IsStrictlySortedBy}
use Rattle.std.specs.Map.{keys_of}
use Rattle.std.specs.Prelude.{if◌then◌else◌}
use Rattle.ipld_tree.specs.declared.ipld.Ipld.{Ipld}
use Rattle.dag_cbor_format.specs.Canonical.{goes_first, placed}
use Rattle.dag_cbor.specs.Writing.{Keyed, after_key, lent, in_order}
use Rattle.dag_cbor_format.proofs.KeyOrder.{goes_from, first_once}
use Rattle.dag_cbor.proofs.Sorting.{IsBelow, AreAscending, sorted, map_put}

abbrev pub Entry : Type 0
Entry = String Global × Ipld

abbrev pub Lent : Type 0
Lent = Bor (String Global) × Bor Ipld

abbrev pub entry_of : Lent → Keyed
entry_of e = (string_bytes e.0.now, e.1.now)

abbrev pub key_of : Keyed → List ℕ
key_of e = e.0

below_all : (k : String Global) (es : List Entry) → AllByRecursion (λ y. string_cmp k y ≡ Less) (keys_of es) → IsBelow key_of (string_bytes k) (after_key es)
below_all k [] h = tt
below_all k (e ∷ es) h = (ap is_lt h.0, below_all k es h.1)

pub keyed_ascend : (es : List Entry) → IsStrictlySortedBy string_cmp (keys_of es) → AreAscending key_of (after_key es)
unfolding IsStrictlySortedBy
keyed_ascend [] h = tt
keyed_ascend (e ∷ es) h = (below_all e.0 es h.0, keyed_ascend es h.1)

lent_below : (k : List ℕ) (es : List Lent) → IsBelow key_of k (lent es) → IsBelow (λ (e : Lent). string_bytes e.0.now) k es
lent_below k [] h = tt
lent_below k (e ∷ es) h = (h.0, lent_below k es h.1)

pub lent_ascend : (es : List Lent) → AreAscending key_of (lent es) → AreAscending (λ (e : Lent). string_bytes e.0.now) es
lent_ascend [] h = tt
lent_ascend (e ∷ es) h = (lent_below (string_bytes e.0.now) es h.0, lent_ascend es h.1)

pub lent_sorted : (es : List Lent) → lent (sorted (λ (e : Lent). string_bytes e.0.now) es) ≡ in_order (lent es)
lent_sorted [] = refl
lent_sorted (e ∷ es) =
    map_put entry_of e (sorted (λ (a : Lent). string_bytes a.0.now) es)
    ∙ ap (placed (string_bytes e.0.now) e.1.now) (lent_sorted es)

pub keyed_more : (done : List Entry) (e : Entry) → after_key (done ++ e ∷ []) ≡ after_key done ++ (string_bytes e.0, e.1) ∷ []
keyed_more [] e = refl
keyed_more (d ∷ done) e = ap (λ (l : List Keyed). (string_bytes d.0, d.1) ∷ l) (keyed_more done e)

pub lent_more : (es : List Lent) (e : Lent) → lent (es ++ e ∷ []) ≡ lent es ++ entry_of e ∷ []
lent_more [] e = refl
lent_more (d ∷ es) e = ap (λ (l : List Keyed). entry_of d ∷ l) (lent_more es e)

-- ---- keys that are in order as they stand

-- no key is shorter than one before it, nor than n
abbrev pub Rises : ℕ → List Entry → Type 0
Rises n [] = Unit {0}
Rises n (e ∷ es) = (n ≤ length (string_bytes e.0)) × Rises (length (string_bytes e.0)) es

stays_first : (k : String Global) (v : Ipld) (es : List Entry) → AllByRecursion (λ y. string_cmp k y ≡ Less) (keys_of es) → Rises (length (string_bytes k)) es
    → placed (string_bytes k) v (after_key es) ≡ (string_bytes k, v) ∷ after_key es
stays_first k v [] h rises = refl
stays_first k v (e ∷ es) h rises =
    let j = string_bytes e.0 in
    let later : goes_first j (string_bytes k) ≡ false = first_once (string_bytes k) j (goes_from (string_bytes k) j (ap is_lt h.0) rises.0) in
    ap (λ b. if b then (j, e.1) ∷ placed (string_bytes k) v (after_key es) else (string_bytes k, v) ∷ ((j, e.1) ∷ after_key es)) later

pub in_order_already : (n : ℕ) (es : List Entry) → IsStrictlySortedBy string_cmp (keys_of es) → Rises n es → in_order (after_key es) ≡ after_key es
unfolding IsStrictlySortedBy
in_order_already n [] h rises = refl
in_order_already n (e ∷ es) h rises =
    ap (placed (string_bytes e.0) e.1) (in_order_already (length (string_bytes e.0)) es h.1 rises.1) ∙ stays_first e.0 e.1 es h.0 rises.1
