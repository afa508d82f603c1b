-- A map is gone into: its pairs are sorted, and put before what is still to be written.
use Rattle.std.proofs.Common.{◌≡◌, ℕ, ◌+◌, ◌<◌, Bool, true, false, cond, List, [], ◌∷◌, ◌++◌, length, map, get_or, nat_cmp, is_lt, Ordering, Less, Equal, Greater, refl, sym, ap, ◌∙◌, arith}
use Rattle.std.specs.Prelude.{reverse, nat_lt, ◌==◌, ◌&&◌, ◌||◌}
use Rattle.std.specs.Borrow.{Bor}
use Rattle.std.specs.Cmp.Lexicographic.{slice_cmp}
use Rattle.std.specs.Ordering.{ordering_then}
use Rattle.std.specs.List.Sorted.{IsSortedBy}
use Rattle.std.proofs.lemmas.List.{get_or-map, length-map, reverse-append}
use Rattle.dag_cbor_format.specs.Canonical.{goes_first}
use Rattle.dag_cbor_blocks.specs.declared.tape.TapeEntry.{TapeEntry}
use Rattle.dag_cbor_tape.specs.Canonical.{AreInOrder}
use Rattle.dag_cbor_tape.specs.Canonicalizing.{Pair, pairs_now, to_do}

abbrev pub Now : Type 0
Now = Bor (List ℕ) × Bor (List TapeEntry)

first_by : (a b : Bool) (o : Ordering) → is_lt (ordering_then (cond a Less (cond b Equal Greater)) o) ≡ (a || (b && is_lt o))
first_by true b o = refl
first_by false true o = refl
first_by false false o = refl

-- the order by which pairs are sorted is that of their keys
abbrev pub by_key : Now → Now → Bool
by_key x y = is_lt (ordering_then (nat_cmp (length x.0.now) (length y.0.now)) (slice_cmp nat_cmp x.0.now y.0.now))

key_first : (j k : List ℕ) → is_lt (ordering_then (nat_cmp (length j) (length k)) (slice_cmp nat_cmp j k)) ≡ goes_first j k
key_first j k = first_by (nat_lt (length j) (length k)) (length j == length k) (slice_cmp nat_cmp j k)

keys_of : (ps : List Now) → map (λ (p : Pair). p.0) (pairs_now ps) ≡ map (λ (p : Now). p.0.now) ps
keys_of [] = refl
keys_of (p ∷ ps) = ap (λ (ks : List (List ℕ)). p.0.now ∷ ks) (keys_of ps)

pub in_order : (ps : List Now) → IsSortedBy by_key ps → AreInOrder (map (λ (p : Pair). p.0) (pairs_now ps))
in_order [] s k d a b = absurd (omega arith)
in_order (p ∷ ps) s k d a b =
    let xs = p ∷ ps in
    let key : Now → List ℕ = λ x. x.0.now in
    let long : length (map (λ (q : Pair). q.0) (pairs_now xs)) ≡ length xs = ap length (keys_of xs) ∙ length-map xs key in
    let here : k + 1 < length xs = omega arith in
    let at : (i : ℕ) → i < length xs → get_or (map (λ (q : Pair). q.0) (pairs_now xs)) i d ≡ key (get_or xs i p) =
    λ i lt. ap (λ (ks : List (List ℕ)). get_or ks i d) (keys_of xs) ∙ get_or-map key xs i p d lt in
    let sorted : goes_first (key (get_or xs (k + 1) p)) (key (get_or xs k p)) ≡ false =
    sym (key_first (key (get_or xs (k + 1) p)) (key (get_or xs k p))) ∙ s k p a here in
    ap (λ (x : List ℕ). goes_first x (get_or (map (λ (q : Pair). q.0) (pairs_now xs)) k d)) (at (k + 1) here)
    ∙ ap (goes_first (key (get_or xs (k + 1) p))) (at k (omega arith)) ∙ sorted

map_more : {X Y : Type 0} (f : X → Y) (xs : List X) (x : X) → map f (xs ++ x ∷ []) ≡ map f xs ++ f x ∷ []
map_more f [] x = refl
map_more f (y ∷ xs) x = ap (λ (ys : List _). f y ∷ ys) (map_more f xs x)

-- one more is the next
pub to_do_more : (rs qs : List (Bor (List TapeEntry))) (r : Bor (List TapeEntry)) → qs ≡ rs ++ r ∷ [] → to_do qs ≡ r.now ∷ to_do rs
to_do_more rs qs r is =
    ap to_do is ∙ ap reverse (map_more (λ (x : Bor (List TapeEntry)). x.now) rs r) ∙ reverse-append (map (λ (x : Bor (List TapeEntry)). x.now) rs) (r.now ∷ [])

last_joined : {X : Type 0} (xs ys : List X) (x : X) → (xs ++ x ∷ []) ++ ys ≡ xs ++ x ∷ ys
last_joined [] ys x = refl
last_joined (z ∷ xs) ys x = ap (λ (zs : List _). z ∷ zs) (last_joined xs ys x)

entries_more : (ps qs : List Now) (p : Now) → qs ≡ ps ++ p ∷ [] → map (λ (x : Pair). x.1) (pairs_now qs) ≡ map (λ (x : Pair). x.1) (pairs_now ps) ++ p.1.now ∷ []
entries_more ps qs p is =
    ap (λ (xs : List Now). map (λ (x : Pair). x.1) (pairs_now xs)) is
    ∙ ap (map (λ (x : Pair). x.1)) (map_more (λ (x : Now). (x.0.now, x.1.now)) ps p)
    ∙ map_more (λ (x : Pair). x.1) (pairs_now ps) (p.0.now, p.1.now)

-- the last pair is the next to be written, before what was
pub pair_pushed : (ps qs : List Now) (p : Now) (rs more : List (Bor (List TapeEntry))) (r : Bor (List TapeEntry)) → qs ≡ ps ++ p ∷ [] → more ≡ rs ++ r ∷ [] → r.now ≡ p.1.now
    → map (λ (x : Pair). x.1) (pairs_now ps) ++ to_do more ≡ map (λ (x : Pair). x.1) (pairs_now qs) ++ to_do rs
pair_pushed ps qs p rs more r was is same =
    let es = map (λ (x : Pair). x.1) (pairs_now ps) in
    ap (λ (xs : List (List TapeEntry)). es ++ xs) (to_do_more rs more r is ∙ ap (λ (x : List TapeEntry). x ∷ to_do rs) same)
    ∙ sym (last_joined es (to_do rs) p.1.now)
    ∙ ap (λ (xs : List (List TapeEntry)). xs ++ to_do rs) (sym (entries_more ps qs p was))
