-- Links that are added one value after another.
use Rattle.std.proofs.Common.{◌≡◌, Vec, BTreeMap, String, Global, List, [], ◌∷◌, ◌++◌, map, Bool, true, false, Result, Ok, Err, is_ok, cond, rules, refl, sym, ap, ◌∙◌, append_assoc, append-nil}
use Rattle.std.proofs.lemmas.Bool.{true≢false}
use Rattle.std.specs.Map.{values_of}
use Rattle.std.specs.Result.{IsErr}
use Rattle.ipld_cid.specs.Cid.{Link}
use Rattle.ipld_cid.specs.LinkOf.{link_of}
use Rattle.ipld_cid.specs.declared.cid.CidGeneric.{CidGeneric}
use Rattle.std.specs.BTreeSet.{BTreeSet}
use Rattle.std.specs.Ordering.{eq_by_cmp, on}
use Rattle.std.specs.Prelude.{◌||◌}
use Rattle.std.specs.Set.{IsUnion, is_member}
use Rattle.std.proofs.Math.Bool.{or-false}
use Rattle.std.proofs.lemmas.Cmp.{eq_by_cmp_equiv, on_total}
use Rattle.std.proofs.lemmas.List.Folds.{list_any-append}
use Rattle.ipld_cid.specs.Order.{link_cmp}
use Rattle.ipld_cid.specs.Lemmas.OrderLaws.{link_total}
use Rattle.ipld_tree.specs.Appended.{Appends, Inserts}
use Rattle.ipld_tree.specs.Levels.{walks}
use Rattle.ipld_tree.specs.Tree.{Tree}
use Rattle.ipld_tree.specs.TreeOf.{tree_of}
use Rattle.ipld_tree.specs.Walk.{preorder, own_link, links_among, links_of}
use Rattle.ipld_tree.specs.declared.ipld.Ipld.{Ipld}
use Rattle.ipld_tree.specs.declared.ipld.Ipld.TheVariants as variant
use Rattle.ipld_tree.proofs.Trees.{tree_of-List, tree_of-Map}
use Rattle.ipld_tree.proofs.Walking.{items_walked, members_walked}

abbrev Cids : Type 0
Cids = List (CidGeneric 64)

map-append : (a b : Cids) → map link_of (a ++ b) ≡ map link_of a ++ map link_of b
map-append [] b = refl
map-append (x ∷ a) b = ap (λ ls. link_of x ∷ ls) (map-append a b)

-- a value's links were rejected in part, and those after it were not asked for
pub stopped : (old set new : Cids) (added : Cids) (links own later : List Link) (done ok : Bool) → set ≡ old ++ added → links ≡ map link_of added ++ (own ++ later)
    → Appends set new own done → ok ≡ false → Appends old new links ok
stopped old set new added links own later done ok so_far all one rejected = record {
  added = added ++ one.added;
  left_out = one.left_out ++ later;
  appended = one.appended ∙ ap (λ xs. xs ++ one.added) so_far ∙ append_assoc old added one.added;
  beginning = all ∙ rw (one.beginning, map-append added one.added) (simp append_assoc);
  whole = λ done. absurd (true≢false (sym done ∙ rejected));
}

-- a value's links were appended, all of them
pub went_on : (old set new : Cids) (added : Cids) (links own later : List Link) (ok : Bool) → set ≡ old ++ added → links ≡ map link_of added ++ (own ++ later)
    → Appends set new own ok → ok ≡ true → (more : Cids) × (new ≡ old ++ more) × (links ≡ map link_of more ++ later)
went_on old set new added links own later ok so_far all one done = (
  added ++ one.added,
  one.appended ∙ ap (λ xs. xs ++ one.added) so_far ∙ append_assoc old added one.added,
  all ∙ rw (one.beginning, one.whole done, map-append added one.added) (simp (append_assoc, append-nil)),
)

pub links_among-append : (a b : List Tree) → links_among (a ++ b) ≡ links_among a ++ links_among b
links_among-append [] b = refl
links_among-append (t ∷ a) b = ap (λ ls. own_link t ++ ls) (links_among-append a b) ∙ sym (append_assoc (own_link t) (links_among a) (links_among b))

-- the links of the first value, and of those after it
pub links_first : (x : Ipld) (xs : List Ipld) → links_among (walks (x ∷ xs)) ≡ links_of (tree_of x) ++ links_among (walks xs)
links_first x xs = links_among-append (preorder (tree_of x)) (walks xs)

-- a list, and a map
pub links_of_list : (x : Ipld) (v : Vec Ipld Global) (xs : List Ipld) → x ≡ variant.List v → xs ≡ v.items → links_among (walks xs) ≡ links_of (tree_of x)
links_of_list x v xs is all =
    ap (λ ys. links_among (walks ys)) all ∙ ap links_among (sym (items_walked v.items)) ∙ sym (ap links_of (ap tree_of is ∙ tree_of-List v))

pub links_of_map : (x : Ipld) (m : BTreeMap (String Global) Ipld) → x ≡ variant.Map m → links_among (walks (values_of m.entries)) ≡ links_of (tree_of x)
links_of_map x m is = ap links_among (sym (members_walked m.entries)) ∙ sym (ap links_of (ap tree_of is ∙ tree_of-Map m))

pub not_ok : {T E : Type 0} → (r : Result T E) → IsErr r → is_ok r ≡ false
not_ok (Ok x) h = absurd (search rules)
not_ok (Err e) h = refl

-- ---- links that are put into a set

abbrev Cid : Type 0
Cid = CidGeneric 64

-- whether two CIDs are the same
abbrev pub same_cid : Cid → Cid → Bool
same_cid = eq_by_cmp (on link_of link_cmp)

or_assoc : (a b c : Bool) → ((a || b) || c) ≡ (a || (b || c))
or_assoc true b c = refl
or_assoc false b c = refl

-- CIDs that are put into a set, and others after them
pub union_then : (old added set more new : Cids) → IsUnion same_cid old added set → IsUnion same_cid set more new → IsUnion same_cid old (added ++ more) new
union_then old added set more new first second = λ q.
    second q ∙ ap (λ (b : Bool). b || is_member same_cid more q) (first q) ∙ or_assoc (is_member same_cid old q) (is_member same_cid added q) (is_member same_cid more q)
    ∙ ap (λ (b : Bool). is_member same_cid old q || b) (sym (list_any-append (same_cid q) added more))

-- none that are put into a set
pub union_none : (old : Cids) → IsUnion same_cid old [] old
union_none old = λ q. sym (or-false (is_member same_cid old q))

-- a value's links were put into a set in part, and those after it were not asked for
pub set_stopped : (old set new : BTreeSet Cid) (added : Cids) (links own later : List Link) (done ok : Bool) → IsUnion same_cid old.keys added set.keys → links ≡ map link_of added ++ (own ++ later)
    → Inserts set new own done → ok ≡ false → Inserts old new links ok
set_stopped old set new added links own later done ok so_far all one rejected = record {
  added = added ++ one.added;
  left_out = one.left_out ++ later;
  inserted = union_then old.keys added set.keys one.added new.keys so_far one.inserted;
  beginning = all ∙ rw (one.beginning, map-append added one.added) (simp append_assoc);
  whole = λ done. absurd (true≢false (sym done ∙ rejected));
}

-- a value's links were put into a set, all of them
pub set_went_on : (old set new : BTreeSet Cid) (added : Cids) (links own later : List Link) (ok : Bool) → IsUnion same_cid old.keys added set.keys → links ≡ map link_of added ++ (own ++ later)
    → Inserts set new own ok → ok ≡ true → (more : Cids) × IsUnion same_cid old.keys more new.keys × (links ≡ map link_of more ++ later)
set_went_on old set new added links own later ok so_far all one done = (
  added ++ one.added,
  union_then old.keys added set.keys one.added new.keys so_far one.inserted,
  all ∙ rw (one.beginning, one.whole done, map-append added one.added) (simp (append_assoc, append-nil)),
)

-- one CID that is put into a set
pub union_one : (old new : Cids) (k : Cid) → ((q : Cid) → is_member same_cid new q ≡ cond (same_cid k q) true (is_member same_cid old q)) → IsUnion same_cid old (k ∷ []) new
union_one old new k put = λ q. put q ∙ by_test (same_cid k q) (is_member same_cid old q) ∙ ap (λ (b : Bool). is_member same_cid old q || (b || false)) (symmetric k q)
  where
    by_test : (a b : Bool) → cond a true b ≡ (b || (a || false))
    by_test true true = refl
    by_test true false = refl
    by_test false true = refl
    by_test false false = refl

    symmetric : (k q : Cid) → same_cid k q ≡ same_cid q k
    symmetric k q = (eq_by_cmp_equiv (on_total link_of link_total)).symm k q
