-- Where the entries of a hash stand among entries that are sorted.
use Rattle.std.proofs.Common.{◌≡◌, ◌≤◌, ◌<◌, ℕ, List, length, true, false, Bool, refl, ap, ◌∙◌, subst, slice_range, arith, is_lt, ltb, leb, Less, Equal, Greater}
use Rattle.std.specs.List.Sorted.{IsSortedBy, IsPartitionedBy, IsPartitionPoint, IsNonDecreasingBy}
use Rattle.std.specs.Ordering.{ordering_index, ordering_then, ordering_reverse, is_le, is_eq}
use Rattle.std.specs.declared.cmp.Ordering.{Ordering}
use Rattle.std.proofs.lemmas.List.Sorted.{searchable_from_sorted, IsPartitionedBy-ltb, IsPartitionedBy-leb}
use Rattle.ipld_cid.specs.Multihash.{HashParts}
use Rattle.ipld_cid.specs.Lemmas.OrderLaws.{hash_total, hash_decides, hash_ties}
use Rattle.ipld_cid.specs.Order.{hash_cmp}
use Rattle.ipld_car.specs.IndexLookup.{FindsAll}
use Rattle.ipld_car.specs.IndexOrder.{AreSorted}
use Rattle.ipld_car.specs.declared.index.entry.IndexEntry.{IndexEntry}

pub lt_index : (o : Ordering) → is_lt o ≡ ltb (ordering_index o) 1
lt_index Less = refl
lt_index Equal = refl
lt_index Greater = refl

pub le_index : (o : Ordering) → is_le o ≡ leb (ordering_index o) 1
le_index Less = refl
le_index Equal = refl
le_index Greater = refl

first_not_lt : (o p : Ordering) → is_lt (ordering_then o p) ≡ false → is_lt o ≡ false
first_not_lt Less p e = e
first_not_lt Equal p e = refl
first_not_lt Greater p e = refl

both_equal : (o : Ordering) → ltb (ordering_index o) 1 ≡ false → leb (ordering_index o) 1 ≡ true → o ≡ Equal
both_equal Less e h = absurd (let no : true ≡ false = e in cc)
both_equal Equal e h = refl
both_equal Greater e h = absurd (let no : false ≡ true = h in cc)

not_equal : (o : Ordering) → (ltb (ordering_index o) 1 ≡ true) → o ≡ Equal → ⊥
not_equal Less e h = cc
not_equal Equal e h = absurd (let no : false ≡ true = e in cc)
not_equal Greater e h = cc

not_equal_either : (o : Ordering) → (leb (ordering_index o) 1 ≡ false) → o ≡ Equal → ⊥
not_equal_either Less e h = cc
not_equal_either Equal e h = absurd (let no : true ≡ false = e in cc)
not_equal_either Greater e h = cc

own_reverse : (o : Ordering) → o ≡ ordering_reverse o → o ≡ Equal
own_reverse Less e = absurd (let no : Less ≡ Greater = e in cc)
own_reverse Equal e = refl
own_reverse Greater e = absurd (let no : Greater ≡ Less = e in cc)

hash_exact : (a b : HashParts) → hash_cmp a b ≡ Equal → a ≡ b
hash_exact a b e = (hash_decides a b).0 (hash_ties a b ∙ ap is_eq e)

same_equal : (a b : HashParts) → a ≡ b → hash_cmp a b ≡ Equal
same_equal a b e = subst (λ h. hash_cmp a h ≡ Equal) e (own_reverse (hash_cmp a a) (hash_total.antisymm a a))

module _ (hash : HashParts) (entries : List IndexEntry) where
  by_hash : AreSorted entries → IsSortedBy (λ (a b : IndexEntry). is_lt (hash_cmp a.hash b.hash)) entries
  by_hash s k d low high = first_not_lt _ _ (s k d low high)

  rises : AreSorted entries → IsNonDecreasingBy (λ (e : IndexEntry). ordering_index (hash_cmp e.hash hash)) entries
  rises s = searchable_from_sorted hash_total (λ (e : IndexEntry). e.hash) entries hash (by_hash s)

  pub below_first : AreSorted entries → IsPartitionedBy (λ (e : IndexEntry). ltb (ordering_index (hash_cmp e.hash hash)) 1) entries
  below_first s = IsPartitionedBy-ltb (λ (e : IndexEntry). ordering_index (hash_cmp e.hash hash)) entries 1 (rises s)

  pub up_to_last : AreSorted entries → IsPartitionedBy (λ (e : IndexEntry). leb (ordering_index (hash_cmp e.hash hash)) 1) entries
  up_to_last s = IsPartitionedBy-leb (λ (e : IndexEntry). ordering_index (hash_cmp e.hash hash)) entries 1 (rises s)

  pub finds : (start last end : ℕ) (found : List IndexEntry)
      → IsPartitionPoint (λ (e : IndexEntry). ltb (ordering_index (hash_cmp e.hash hash)) 1 ≡ true) (λ (e : IndexEntry). ltb (ordering_index (hash_cmp e.hash hash)) 1 ≡ false) entries start
      → IsPartitionPoint (λ (e : IndexEntry). leb (ordering_index (hash_cmp e.hash hash)) 1 ≡ true) (λ (e : IndexEntry). leb (ordering_index (hash_cmp e.hash hash)) 1 ≡ false) entries last
      → start ≤ end → last ≤ end → (start < end → end ≡ last) → end ≤ length entries → found ≡ slice_range entries start end → FindsAll hash entries found
  finds start last end found p q from to at within is = record {
    start = start;
    end = end;
    is_found = is;
    has = λ k d low high.
        let same : end ≡ last = at (omega arith) in
        hash_exact _ _ (both_equal _ (p.1 k d low (omega arith)) (q.0 k d (omega arith) (omega arith)));
    before = λ k d low high e. not_equal _ (p.0 k d low high) (same_equal _ _ e);
    behind = λ k d low high e. not_equal_either _ (q.1 k d (omega arith) high) (same_equal _ _ e);
  }

pub first_test : {F : Type 0} (r : Bool) (f g : F) (o : Ordering) → (r ≡ is_lt o) × (g ≡ f) → (r ≡ ltb (ordering_index o) 1) × (g ≡ f)
first_test r f g o b = (b.0 ∙ lt_index o, b.1)

pub last_test : {F : Type 0} (r : Bool) (f g : F) (o : Ordering) → (r ≡ is_le o) × (g ≡ f) → (r ≡ leb (ordering_index o) 1) × (g ≡ f)
last_test r f g o b = (b.0 ∙ le_index o, b.1)
