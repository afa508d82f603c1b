-- The hashes of the blocks that came.
use Rattle.std.proofs.Common.{◌≡◌, Bool, true, false, not, ◌||◌, List, [], ◌∷◌, ◌++◌, map, filter, inl, inr, ◌⊎◌, refl, sym, ap, subst, ◌∙◌}
use Rattle.std.specs.List.{IsDistinct, AllByRecursion, list_any}
use Rattle.indexmap.specs.IndexSet.{insert_key}
use Rattle.ipld_cid.specs.Cid.{Link, hash_of}
use Rattle.ipld_cid.specs.LinkOf.{link_of}
use Rattle.ipld_cid.specs.Multihash.{HashParts}
use Rattle.ipld_cid.specs.Order.{hash_eq, link_eq}
use Rattle.ipld_cid.specs.Lemmas.OrderLaws.{hash_decides}
use Rattle.ipld_cid.specs.declared.cid.CidGeneric.{CidGeneric}
use Rattle.car_files.specs.Index.{came_in, has_hash, unlike_those}
use Rattle.car_files.proofs.Indexing.{Entries}

true_or_false : (b : Bool) → (b ≡ true) ⊎ (b ≡ false)
true_or_false true = inl refl
true_or_false false = inr refl

-- whether a hash is among these
abbrev pub holds : HashParts → List HashParts → Bool
holds h hs = list_any (hash_eq h) hs

swapped : (a b c : Bool) → (a || (b || c)) ≡ (b || (a || c))
swapped true true c = refl
swapped true false c = refl
swapped false b c = refl

absorbed : (a b : Bool) → (a ≡ true → b ≡ true) → (a || b) ≡ b
absorbed true b f = sym (f refl)
absorbed false b f = refl

holds_last : (h k : HashParts) (hs : List HashParts) → holds h (hs ++ k ∷ []) ≡ (hash_eq h k || holds h hs)
holds_last h k [] = refl
holds_last h k (x ∷ hs) = ap (λ (b : Bool). hash_eq h x || b) (holds_last h k hs) ∙ swapped (hash_eq h x) (hash_eq h k) (holds h hs)

-- an equal hash is among the same
holds_equal : (h k : HashParts) (hs : List HashParts) → holds k hs ≡ true → hash_eq h k ≡ true → holds h hs ≡ true
holds_equal h k hs has same = let is : h ≡ k = (hash_decides h k).0 same in rw is has

-- a hash more is held
holds_more : (h k : HashParts) (hs : List HashParts) → holds h (insert_key hash_eq hs k) ≡ (hash_eq h k || holds h hs)
holds_more h k hs = elim (true_or_false (holds k hs)) [
  | inl there ↦ rw there (sym (absorbed (hash_eq h k) (holds h hs) (holds_equal h k hs there)))
  | inr new ↦ rw new (holds_last h k hs)
]

-- The hashes so far, with those of the entries that follow, are those of all blocks that came.
abbrev pub HashesSoFar : List HashParts → Entries → List Link → Type 0
HashesSoFar hs rest came = (l : Link) → (holds (hash_of l) hs || has_hash l (came_in rest)) ≡ has_hash l came

pub hashes_none : (es : Entries) → HashesSoFar [] es (came_in es)
hashes_none es l = refl

pub hashes_more : (hs : List HashParts) (k : CidGeneric 64) (rest : Entries) (came : List Link) → HashesSoFar hs ((k, true) ∷ rest) came
    → HashesSoFar (insert_key hash_eq hs (hash_of (link_of k))) rest came
hashes_more hs k rest came so_far l =
    ap (λ (b : Bool). b || has_hash l (came_in rest)) (holds_more (hash_of l) (hash_of (link_of k)) hs)
    ∙ moved (hash_eq (hash_of l) (hash_of (link_of k))) (holds (hash_of l) hs) (has_hash l (came_in rest)) ∙ so_far l
  where
    moved : (a b c : Bool) → ((a || b) || c) ≡ (b || (a || c))
    moved true true c = refl
    moved true false c = refl
    moved false b c = refl

pub hashes_same : (hs : List HashParts) (k : CidGeneric 64) (rest : Entries) (came : List Link) → HashesSoFar hs ((k, false) ∷ rest) came → HashesSoFar hs rest came
hashes_same hs k rest came so_far = so_far

or_false : (b : Bool) → (b || false) ≡ b
or_false true = refl
or_false false = refl

pub hashes_all : (hs : List HashParts) (rest : Entries) (came : List Link) → rest ≡ [] → HashesSoFar hs rest came → (l : Link) → holds (hash_of l) hs ≡ has_hash l came
hashes_all hs rest came none so_far l = sym (or_false (holds (hash_of l) hs)) ∙ rw none at (so_far l)

-- ---- the links whose hash is none of these

pub unlike_all : (cids : List (CidGeneric 64)) (p : CidGeneric 64 → Bool) (came : List Link) → ((k : CidGeneric 64) → p k ≡ not (has_hash (link_of k) came))
    → map link_of (filter p cids) ≡ unlike_those came (map link_of cids)
unlike_all [] p came is = refl
unlike_all (k ∷ cids) p came is = elim (true_or_false (p k)) [
  | inl kept ↦ rw (kept, sym (is k) ∙ kept) (ap (λ (ls : List Link). link_of k ∷ ls) (unlike_all cids p came is))
  | inr left ↦ rw (left, sym (is k) ∙ left) (unlike_all cids p came is)
]

apart_kept : (p : Link → Bool) (l : Link) (ls : List Link) → AllByRecursion (λ y. link_eq l y ≡ false) ls → AllByRecursion (λ y. link_eq l y ≡ false) (filter p ls)
apart_kept p l [] apart = tt
apart_kept p l (m ∷ ls) apart = elim (true_or_false (p m)) [
  | inl kept ↦ rw kept (apart.0, apart_kept p l ls apart.1)
  | inr left ↦ rw left (apart_kept p l ls apart.1)
]

distinct_kept : (p : Link → Bool) (ls : List Link) → IsDistinct link_eq ls → IsDistinct link_eq (filter p ls)
unfolding IsDistinct
distinct_kept p [] d = tt
distinct_kept p (l ∷ ls) d = elim (true_or_false (p l)) [
  | inl kept ↦ rw kept (apart_kept p l ls d.0, distinct_kept p ls d.1)
  | inr left ↦ rw left (distinct_kept p ls d.1)
]

pub unlike_once : (came ls kept : List Link) → IsDistinct link_eq ls → kept ≡ unlike_those came ls → IsDistinct link_eq kept
unlike_once came ls kept d is = subst (IsDistinct link_eq) (sym is) (distinct_kept (λ l. not (has_hash l came)) ls d)
