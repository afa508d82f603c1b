-- A map's entries, and the members that they are.
use Rattle.std.proofs.Common.{◌≡◌, ◌<◌, length, arith, List, [], ◌∷◌, ◌++◌, String, Global, Ordering, Less, Equal, Greater, string_bytes, string_cmp, nat_cmp, refl, ap, subst, ◌∙◌}
use Rattle.std.proofs.lemmas.Cmp.{nat_list_cmp_total}
use Rattle.std.specs.Cmp.Lexicographic.{slice_cmp}
use Rattle.std.specs.List.{AllByRecursion, AllZip}
use Rattle.std.specs.List.Sorted.{IsStrictlySortedBy}
use Rattle.std.specs.Map.{keys_of}
use Rattle.std.specs.Ordering.{match_ordering, ordering_reverse}
use Rattle.std.specs.BTreeMap.{insert_entry}
use Rattle.ipld_tree.specs.Tree.{member}
use Rattle.ipld_tree.specs.TreeOf.{tree_of, members_of}
use Rattle.ipld_tree.specs.Put.{put}
use Rattle.ipld_tree.specs.declared.ipld.Ipld.{Ipld}

abbrev pub Entry : Type 0
Entry = String Global × Ipld

members_of_choice : (o : Ordering) (a b c : List Entry) → members_of (match_ordering o a b c) ≡ match_ordering o (members_of a) (members_of b) (members_of c)
members_of_choice Less a b c = refl
members_of_choice Equal a b c = refl
members_of_choice Greater a b c = refl

pub members_of-insert_entry : (es : List Entry) (k : String Global) (v : Ipld) → members_of (insert_entry string_cmp es k v) ≡ put (string_bytes k) (tree_of v) (members_of es)
members_of-insert_entry [] k v = refl
members_of-insert_entry (e ∷ es) k v = members_of_choice (string_cmp k e.0) _ _ _ ∙ rw (members_of-insert_entry es k v)

below_middle : (first : Entry) (es : List Entry) (e : Entry) (more : List Entry) → AllByRecursion (λ y. string_cmp first.0 y ≡ Less) (keys_of (es ++ e ∷ more)) → string_cmp first.0 e.0 ≡ Less
below_middle first [] e more h = h.0
below_middle first (x ∷ es) e more h = below_middle first es e more h.1

-- a key above those before it goes last
pub put_last : (done : List Entry) (e : Entry) (more : List Entry) → IsStrictlySortedBy string_cmp (keys_of (done ++ e ∷ more))
    → put (string_bytes e.0) (tree_of e.1) (members_of done) ≡ members_of (done ++ e ∷ [])
unfolding IsStrictlySortedBy
put_last [] e more h = refl
put_last (first ∷ done) e more h =
    let above : slice_cmp nat_cmp (string_bytes e.0) (string_bytes first.0) ≡ Greater =
    nat_list_cmp_total.antisymm (string_bytes e.0) (string_bytes first.0) ∙ ap ordering_reverse (below_middle first done e more h.0) in
    rw above (ap (member (string_bytes first.0) (tree_of first.1)) (put_last done e more h.1))

-- the members so far, when a copy of the next entry was put to copies of them
pub copied_more : (all done : List Entry) (e : Entry) (more copies copies' : List Entry) (v : Ipld)
    → all ≡ done ++ e ∷ more → IsStrictlySortedBy string_cmp (keys_of all) → members_of copies ≡ members_of done → tree_of v ≡ tree_of e.1
    → members_of copies' ≡ put (string_bytes e.0) (tree_of v) (members_of copies) → members_of copies' ≡ members_of (done ++ e ∷ [])
copied_more all done e more copies copies' v split sorted so_far same_value is =
    is ∙ rw (same_value, so_far) (put_last done e more (subst (λ es. IsStrictlySortedBy string_cmp (keys_of es)) split sorted))

-- copies of entries are the same members
pub members_of_clones : (es copies : List Entry) → AllZip (λ e copy. (string_bytes copy.0 ≡ string_bytes e.0) × (tree_of copy.1 ≡ tree_of e.1)) es copies → members_of copies ≡ members_of es
members_of_clones [] [] h = refl
members_of_clones [] (copy ∷ copies) h = elim h [ ]
members_of_clones (e ∷ es) [] h = elim h [ ]
members_of_clones (e ∷ es) (copy ∷ copies) h = rw (h.0.0, h.0.1, members_of_clones es copies h.1) refl

pub no_entries : (es : List Entry) → (0 < length es → ⊥) → es ≡ []
no_entries [] none = refl
no_entries (e ∷ es) none = absurd (none (omega arith))
