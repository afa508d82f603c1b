-- Maps with values put at keys, in any order.
use Rattle.std.proofs.Common.{◌≡◌, ℕ, Bool, true, false, ◌||◌, List, Option, Some, None, Ordering, Less, Equal, Greater, nat_cmp, refl, sym, ap, ◌∙◌, bytes_eq}
use Rattle.std.specs.Prelude.{if◌then◌else◌}
use Rattle.std.specs.Ordering.{is_eq, match_ordering, ordering_reverse}
use Rattle.std.proofs.lemmas.Cmp.{nat_list_cmp_total}
use Rattle.std.proofs.lemmas.Map.Lookups.{exact_bytes}
use Rattle.std.proofs.lemmas.Map.Text.{is_eq-slice_cmp}
use Rattle.std.specs.Cmp.Lexicographic.{slice_cmp}
use Rattle.ipld_tree.specs.Tree.{Tree, Members, no_members, member}
use Rattle.ipld_tree.specs.Put.{put}
use Rattle.ipld_tokens.specs.ItemTree.{has_key, put_new}

abbrev pub order : List ℕ → List ℕ → Ordering
order = slice_cmp nat_cmp

abbrev pub or : Bool → Bool → Bool
or a b = a || b

pub or_swap : (a b c : Bool) → or a (or b c) ≡ or b (or a c)
or_swap true true c = refl
or_swap true false c = refl
or_swap false b c = refl

pub or-absorbs : (a b : Bool) → or a (or a b) ≡ or a b
or-absorbs true b = refl
or-absorbs false b = refl

or_true : (a : Bool) → or a true ≡ true
or_true true = refl
or_true false = refl

is_eq_reverse : (o : Ordering) → is_eq (ordering_reverse o) ≡ is_eq o
is_eq_reverse Less = refl
is_eq_reverse Equal = refl
is_eq_reverse Greater = refl

has_choice : (q : List ℕ) (o : Ordering) (a b c : Members) → has_key q (match_ordering o a b c) ≡ match_ordering o (has_key q a) (has_key q b) (has_key q c)
has_choice q Less a b c = refl
has_choice q Equal a b c = refl
has_choice q Greater a b c = refl

put_has : (q key k : List ℕ) (t u : Tree) (ms more : Members) (o : Ordering) → order key k ≡ o → has_key q more ≡ or (bytes_eq q key) (has_key q ms)
    → match_ordering o (has_key q (member key t (member k u ms))) (has_key q (member k t ms)) (has_key q (member k u more))
    ≡ or (bytes_eq q key) (has_key q (member k u ms))
put_has q key k t u ms more Less e h = refl
put_has q key k t u ms more Equal e h =
    rw (exact_bytes key k e) (sym (or-absorbs (bytes_eq q k) (has_key q ms)))
put_has q key k t u ms more Greater e h = ap (or (bytes_eq q k)) h ∙ or_swap (bytes_eq q k) (bytes_eq q key) (has_key q ms)

-- which keys a map has after a put
pub has_key-put : (q key : List ℕ) (t : Tree) (ms : Members) → has_key q (put key t ms) ≡ or (bytes_eq q key) (has_key q ms)
has_key-put q key t no_members = refl
has_key-put q key t (member k u ms) =
    has_choice q (order key k) _ _ _ ∙ put_has q key k t u ms (put key t ms) (order key k) refl (has_key-put q key t ms)

greater : (a b : List ℕ) → order a b ≡ Less → order b a ≡ Greater
greater a b e = nat_list_cmp_total.antisymm b a ∙ ap ordering_reverse e

lesser : (a b : List ℕ) → order a b ≡ Greater → order b a ≡ Less
lesser a b e = nat_list_cmp_total.antisymm b a ∙ ap ordering_reverse e

-- one step of the law below, by how the two keys stand to the first
put_both : (a b k : List ℕ) (t s u : Tree) (ms : Members) (p o : Ordering) → order a b ≡ Less → order a k ≡ p → order b k ≡ o
    → put a t (put b s ms) ≡ put b s (put a t ms)
    → put a t (put b s (member k u ms)) ≡ put b s (put a t (member k u ms))
put_both a b k t s u ms p Less less ak bk h =
    let third : order a k ≡ Less = nat_list_cmp_total.trans a b k less bk in
    let back = greater a b less in
    simp (bk, third, less, back)
put_both a b k t s u ms p Equal less ak bk h =
    let third : order a k ≡ Less = rw (exact_bytes b k bk) at less in
    let back = greater a b less in
    simp (bk, third, back)
put_both a b k t s u ms Less Greater less ak bk h =
    let back = greater a b less in
    simp (bk, ak, back)
put_both a b k t s u ms Equal Greater less ak bk h =
    let back = greater a b less in
    simp (bk, ak, back)
put_both a b k t s u ms Greater Greater less ak bk h = simp (bk, ak) (ap (member k u) h)

put_less : (a b : List ℕ) (t s : Tree) (ms : Members) → order a b ≡ Less → put a t (put b s ms) ≡ put b s (put a t ms)
put_less a b t s no_members less = let back = greater a b less in rw (less, back)
put_less a b t s (member k u ms) less = put_both a b k t s u ms (order a k) (order b k) less refl refl (put_less a b t s ms less)

put_by : (a b : List ℕ) (t s : Tree) (ms : Members) (o : Ordering) → order a b ≡ o → bytes_eq a b ≡ false → put a t (put b s ms) ≡ put b s (put a t ms)
put_by a b t s ms Less e new = put_less a b t s ms e
put_by a b t s ms Equal e new = absurd (let same = is_eq-slice_cmp a b in let is = rw e at same in cc)
put_by a b t s ms Greater e new = sym (put_less b a s t ms (lesser a b e))

-- two different keys may be put in either order
pub put_either : (a b : List ℕ) (t s : Tree) (ms : Members) → bytes_eq a b ≡ false → put a t (put b s ms) ≡ put b s (put a t ms)
put_either a b t s ms new = put_by a b t s ms (order a b) refl new

abbrev unless : Bool → Members → Option Members
unless b ms = if b then None else Some ms

both_new : (a b : List ℕ) (t s : Tree) (ms : Members) (e : Bool) → bytes_eq a b ≡ e → bytes_eq b a ≡ e
    → unless (or (bytes_eq a b) false) (put a t (put b s ms)) ≡ unless (or (bytes_eq b a) false) (put b s (put a t ms))
both_new a b t s ms true p q = rw (p, q)
both_new a b t s ms false p q = rw (p, q) (ap Some (put_either a b t s ms p))

abbrev Same : List ℕ → List ℕ → Tree → Tree → Members → Bool → Bool → Type 0
Same a b t s ms x y =
    put_new (Some a) (Some t) (unless y (put b s ms)) ≡ put_new (Some b) (Some s) (unless x (put a t ms))

eq_flip : (a b : List ℕ) → bytes_eq a b ≡ bytes_eq b a
eq_flip a b = sym (is_eq-slice_cmp a b) ∙ ap is_eq (nat_list_cmp_total.antisymm a b) ∙ is_eq_reverse (order b a) ∙ is_eq-slice_cmp b a

put_new_cases : (a b : List ℕ) (t s : Tree) (ms : Members) (x y : Bool) → has_key a ms ≡ x → has_key b ms ≡ y → Same a b t s ms x y
put_new_cases a b t s ms true true p q = refl
put_new_cases a b t s ms true false p q = rw (has_key-put a b s ms, p, or_true (bytes_eq a b))
put_new_cases a b t s ms false true p q = rw (has_key-put b a t ms, q, or_true (bytes_eq b a))
put_new_cases a b t s ms false false p q =
    rw (has_key-put a b s ms, has_key-put b a t ms, p, q) (both_new a b t s ms (bytes_eq a b) refl (eq_flip b a))

put_new_none : (a : Option (List ℕ)) (t : Option Tree) → put_new a t None ≡ None
put_new_none None t = refl
put_new_none (Some a) None = refl
put_new_none (Some a) (Some t) = refl

-- two new keys may be put in either order
pub put_new_either : (a b : Option (List ℕ)) (t s : Option Tree) (m : Option Members) → put_new a t (put_new b s m) ≡ put_new b s (put_new a t m)
put_new_either None b t s m = sym (put_new_none b s)
put_new_either (Some a) b None s m = sym (put_new_none b s)
put_new_either (Some a) None (Some t) s m = refl
put_new_either (Some a) (Some b) (Some t) None m = refl
put_new_either (Some a) (Some b) (Some t) (Some s) None = refl
put_new_either (Some a) (Some b) (Some t) (Some s) (Some ms) = put_new_cases a b t s ms (has_key a ms) (has_key b ms) refl refl
