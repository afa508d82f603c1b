-- How many values lists and maps hold.
use Rattle.std.proofs.Common.{◌≡◌, ◌≤◌, suc, ◌+◌, List, [], ◌∷◌, ◌++◌, length, Global, String, Vec, BTreeMap, refl, ap, ◌∙◌, length-append, arith}
use Rattle.std.proofs.Common.{Some, Ordering, Less, Equal, Greater, string_cmp, slice_get}
use Rattle.std.specs.BTreeMap.{insert_entry}
use Rattle.std.specs.Map.{keys_of, values_of}
use Rattle.std.specs.Ordering.{ordering_reverse}
use Rattle.std.specs.String.{string_cmp_total}
use Rattle.ipld_tree.specs.Tree.{Tree, null, boolean, integer, text, bytes, list, entries, link}
use Rattle.ipld_tree.specs.TreeOf.{tree_of}
use Rattle.ipld_tree.specs.Walk.{preorder}
use Rattle.ipld_tree.specs.Levels.{walks}
use Rattle.ipld_tree.specs.Size.{size, total}
use Rattle.ipld_tree.specs.declared.ipld.Ipld.{Ipld}
use Rattle.ipld_tree.specs.declared.ipld.Ipld.TheVariants as variant
use Rattle.ipld_tree.proofs.Trees.{tree_of-List, tree_of-Map}
use Rattle.ipld_tree.proofs.Entries.{Entry}
use Rattle.ipld_tree.proofs.Walking.{items_walked, members_walked}

pub size_list : (xs : Vec Ipld Global) → size (variant.List xs) ≡ suc (total xs.items)
size_list xs = ap (λ t. length (preorder t)) (tree_of-List xs) ∙ ap (λ ts. suc (length ts)) (items_walked xs.items)

pub size_map : (m : BTreeMap (String Global) Ipld) → size (variant.Map m) ≡ suc (total (values_of m.entries))
size_map m = ap (λ t. length (preorder t)) (tree_of-Map m) ∙ ap (λ ts. suc (length ts)) (members_walked m.entries)

pub total_cons : (x : Ipld) (xs : List Ipld) → total (x ∷ xs) ≡ size x + total xs
total_cons x xs = length-append (preorder (tree_of x)) (walks xs)

pub total_append : (xs ys : List Ipld) → total (xs ++ ys) ≡ total xs + total ys
total_append [] ys = omega arith
total_append (x ∷ xs) ys = omega (arith, total_cons x (xs ++ ys), total_cons x xs, total_append xs ys)

tree_positive : (t : Tree) → 1 ≤ length (preorder t)
tree_positive null = omega arith
tree_positive (boolean b) = omega arith
tree_positive (integer n) = omega arith
tree_positive (text s) = omega arith
tree_positive (bytes b) = omega arith
tree_positive (list ts) = omega arith
tree_positive (entries ms) = omega arith
tree_positive (link l) = omega arith

pub size_positive : (x : Ipld) → 1 ≤ size x
size_positive x = tree_positive (tree_of x)

-- ---- the value at the first key of a map

self_reversed : (o : Ordering) → o ≡ ordering_reverse o → o ≡ Equal
self_reversed Less e = cc
self_reversed Equal e = refl
self_reversed Greater e = cc

same_key : (k : String Global) → string_cmp k k ≡ Equal
same_key k = self_reversed (string_cmp k k) (string_cmp_total.antisymm k k)

values_of_append : (es fs : List Entry) → values_of (es ++ fs) ≡ values_of es ++ values_of fs
values_of_append [] fs = refl
values_of_append (e ∷ es) fs = ap (λ vs. e.1 ∷ vs) (values_of_append es fs)

-- the last entry is taken out
pub total_entries : (es : List Entry) (e : Entry) → total (values_of (es ++ e ∷ [])) ≡ total (values_of es) + size e.1
total_entries es e = omega (arith, ap total (values_of_append es (e ∷ [])), total_append (values_of es) (e.1 ∷ []), total_cons e.1 [])

pub exchanged : (es after : List Entry) (k : String Global) (x w : Ipld) → slice_get (keys_of es) 0 ≡ Some k → Some x ≡ slice_get (values_of es) 0 → after ≡ insert_entry string_cmp es k w
    → (total (values_of after) + size x ≡ total (values_of es) + size w) × (size x ≤ total (values_of es))
exchanged [] after k x w first value is = absurd cc
exchanged (e ∷ es) after k x w first value is =
    let at_key : k ≡ e.0 = cc in
    let at_value : x ≡ e.1 = cc in
    let put : after ≡ (e.0, w) ∷ es = is ∙ rw (at_key, same_key e.0) refl in
    rw (put, at_value) (omega (arith, total_cons w (values_of es), total_cons e.1 (values_of es)), omega (arith, total_cons e.1 (values_of es)))

-- ---- what is left where the last value was taken out

pub taken_from_list : (x : Ipld) (v w : Vec Ipld Global) (last : Ipld) → x ≡ variant.List v → v.items ≡ w.items ++ last ∷ [] → size (variant.List w) + size last ≡ size x
taken_from_list x v w last is taken =
    omega (arith, ap size is, size_list v, size_list w, ap total taken, total_append w.items (last ∷ []), total_cons last [])

pub taken_from_map : (x : Ipld) (m n : BTreeMap (String Global) Ipld) (last : Entry) → x ≡ variant.Map m → m.entries ≡ n.entries ++ last ∷ [] → size (variant.Map n) + size last.1 ≡ size x
taken_from_map x m n last is taken = omega (arith, ap size is, size_map m, size_map n, ap (λ es. total (values_of es)) taken, total_entries n.entries last)
