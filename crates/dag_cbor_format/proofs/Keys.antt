-- Which keys a map has, and which were seen.
use Rattle.std.proofs.Common.{◌≡◌, ℕ, Bool, true, false, ◌⊎◌, List, [], ◌∷◌, Option, Some, None, Ordering, Less, Equal, Greater, refl, sym, ap, ◌∙◌, inl, inr, bytes_eq}
use Rattle.std.specs.Prelude.{if◌then◌else◌}
use Rattle.std.specs.Ordering.{match_ordering}
use Rattle.std.proofs.lemmas.Map.Lookups.{exact_bytes}
use Rattle.std.proofs.lemmas.Slice.Eq.{bytes_eq-Decides}
use Rattle.ipld_tree.specs.Tree.{Tree, Members}
use Rattle.ipld_tree.specs.Put.{put}
use Rattle.ipld_tokens.specs.ItemTree.{has_key, put_new}
use Rattle.ipld_tokens.proofs.Putting.{order, or, or_swap, or-absorbs, has_key-put}
use Rattle.dag_cbor_format.specs.Reading.{among, and_key}

pub or_false : (a b : Bool) → or a b ≡ false → (a ≡ false) × (b ≡ false)
or_false true b e = absurd (cc e)
or_false false b e = (refl, e)

-- ---- keys that were seen, and one more

-- a function of a choice is the choice of its values
pub ap-match_ordering : {A B : Type 0} (f : A → B) (o : Ordering) (a b c : A) → f (match_ordering o a b c) ≡ match_ordering o (f a) (f b) (f c)
ap-match_ordering f Less a b c = refl
ap-match_ordering f Equal a b c = refl
ap-match_ordering f Greater a b c = refl

insert_among : (q key k : List ℕ) (ks more : List (List ℕ)) (o : Ordering) → order key k ≡ o → among q more ≡ or (bytes_eq q key) (among q ks)
    → match_ordering o (among q (key ∷ k ∷ ks)) (among q (k ∷ ks)) (among q (k ∷ more)) ≡ or (bytes_eq q key) (among q (k ∷ ks))
insert_among q key k ks more Less e h = refl
insert_among q key k ks more Equal e h = rw (exact_bytes key k e) (sym (or-absorbs (bytes_eq q k) (among q ks)))
insert_among q key k ks more Greater e h = ap (or (bytes_eq q k)) h ∙ or_swap (bytes_eq q k) (bytes_eq q key) (among q ks)

pub among-and_key : (q key : List ℕ) (ks : List (List ℕ)) → among q (and_key key ks) ≡ or (bytes_eq q key) (among q ks)
among-and_key q key [] = refl
among-and_key q key (k ∷ ks) =
    ap-match_ordering (among q) (order key k) _ _ _ ∙ insert_among q key k ks (and_key key ks) (order key k) refl (among-and_key q key ks)

-- ---- none of the keys that were seen is in the map

abbrev pub AreFresh : List (List ℕ) → Members → Type 0
AreFresh seen ms = (q : List ℕ) → among q seen ≡ true → has_key q ms ≡ false

pub same_key : (q : List ℕ) → bytes_eq q q ≡ true
same_key q = (bytes_eq-Decides q q).1 refl

pub fresh_key : (key : List ℕ) (seen : List (List ℕ)) (ms : Members) → AreFresh (and_key key seen) ms → has_key key ms ≡ false
fresh_key key seen ms h = h key (among-and_key key key seen ∙ ap (λ b. or b (among key seen)) (same_key key))

pub or_true : (a : Bool) → or a true ≡ true
or_true true = refl
or_true false = refl

differs : (q key : List ℕ) (seen : List (List ℕ)) → among q seen ≡ true → among key seen ≡ false → bytes_eq q key ≡ false
differs q key seen is not_seen =
    elim (bytes_eq q key) as (λ b. bytes_eq q key ≡ b → bytes_eq q key ≡ false) [
      | true ↦ λ e. absurd (let same : q ≡ key = (bytes_eq-Decides q key).0 e in let h : true ≡ false = sym is ∙ ap (λ k. among k seen) same ∙ not_seen in cc)
      | false ↦ λ e. e
    ] refl

-- a key that wasn't seen is put into a map that has neither it nor those that were
pub fresh_put : (key : List ℕ) (t : Tree) (seen : List (List ℕ)) (ms : Members) → among key seen ≡ false → AreFresh (and_key key seen) ms → AreFresh seen (put key t ms)
fresh_put key t seen ms not_seen h q is =
    let other = differs q key seen is not_seen in
    let here = h q (among-and_key q key seen ∙ ap (or (bytes_eq q key)) is ∙ or_true (bytes_eq q key)) in
    has_key-put q key t ms ∙ rw (other, here)

pub unseen : (key : List ℕ) (t : Tree) (seen : List (List ℕ)) (ms : Members) → AreFresh seen (put key t ms) → among key seen ≡ false
unseen key t seen ms h =
    elim (among key seen) as (λ b. among key seen ≡ b → among key seen ≡ false) [
      | true ↦ λ e. absurd (let x : true ≡ false = sym (has_key-put key key t ms ∙ ap (λ b. or b (has_key key ms)) (same_key key)) ∙ h key e in cc)
      | false ↦ λ e. e
    ] refl

pub or_either : (a b : Bool) → or a b ≡ true → (a ≡ true) ⊎ (b ≡ true)
or_either true b e = inl refl
or_either false b e = inr e

pub fresh_after : (key : List ℕ) (t : Tree) (seen : List (List ℕ)) (ms : Members) → has_key key ms ≡ false → AreFresh seen (put key t ms) → AreFresh (and_key key seen) ms
fresh_after key t seen ms absent h q is =
    elim (or_either (bytes_eq q key) (among q seen) (sym (among-and_key q key seen) ∙ is)) [
      | inl e ↦ ap (λ k. has_key k ms) ((bytes_eq-Decides q key).0 e) ∙ absent
      | inr e ↦ (or_false (bytes_eq q key) (has_key q ms) (sym (has_key-put q key t ms) ∙ h q e)).1
    ]

-- what a pair puts into a map
pub put_new_is : (key : List ℕ) (o : Option Tree) (p : Option Members) (ms : Members) → put_new (Some key) o p ≡ Some ms
    → (t : Tree) × (more : Members) × (o ≡ Some t) × (p ≡ Some more) × (has_key key more ≡ false) × (ms ≡ put key t more)
put_new_is key None p ms e = absurd (cc e)
put_new_is key (Some t) None ms e = absurd (cc e)
put_new_is key (Some t) (Some more) ms e =
    elim (has_key key more) as (λ b. has_key key more ≡ b
    → (u : Tree) × (m : Members) × (Some t ≡ Some u) × (Some more ≡ Some m) × (has_key key m ≡ false) × (ms ≡ put key u m)) [
      | true ↦ λ h. absurd (let x : (if true then None else Some (put key t more)) ≡ Some ms = ap (λ b. if b then None else Some (put key t more)) (sym h) ∙ e in cc)
      | false ↦ λ h. (t, more, refl, refl, h, sym (let x : (if false then None else Some (put key t more)) ≡ Some ms = ap (λ b. if b then None else Some (put key t more)) (sym h) ∙ e in cc))
    ] refl

pub put_new_some : (key : List ℕ) (t : Tree) (ms : Members) → has_key key ms ≡ false → put_new (Some key) (Some t) (Some ms) ≡ Some (put key t ms)
put_new_some key t ms e = rw e
