-- Copies that aren't complete.
use Rattle.std.proofs.Common.{◌≡◌, ℕ, ◌<◌, ◌≤◌, length, take, ◌+◌, ◌*◌, suc, List, [], ◌∷◌, ◌++◌, map, String, Global, Vec, BTreeMap, string_cmp, refl, sym, ap, ◌∙◌, subst, append_assoc, append-nil, arith}
use Rattle.std.proofs.lemmas.List.{take_all}
use Rattle.std.specs.List.Sorted.{IsStrictlySortedBy}
use Rattle.std.specs.Map.{keys_of, values_of}
use Rattle.ipld_tree.specs.Tree.{Tree, list, entries}
use Rattle.ipld_tree.specs.TreeOf.{tree_of, as_items, items_of, members_of}
use Rattle.ipld_tree.specs.Size.{size, total}
use Rattle.ipld_tree.specs.Copying.{put_all, whole, around, around_all, work, work_around, tree_begun, work_begun}
use Rattle.ipld_tree.specs.declared.ipld.Ipld.{Ipld}
use Rattle.ipld_tree.specs.declared.ipld.Ipld.TheVariants as variant
use Rattle.ipld_tree.specs.declared.clone.by_loop.Begun.{Begun}
use Rattle.ipld_tree.specs.declared.clone.by_loop.Begun.TheVariants as begun
use Rattle.ipld_tree.specs.declared.clone.by_loop.OpenCopy.{OpenCopy}
use Rattle.ipld_tree.proofs.Trees.{tree_of-List, tree_of-Map}
use Rattle.ipld_tree.proofs.Sizes.{size_list, size_map, size_positive}
use Rattle.ipld_tree.proofs.Entries.{Entry, put_last}

-- entries in ascending order are put behind those that are there
put_all_sorted : (done more : List Entry) → IsStrictlySortedBy string_cmp (keys_of (done ++ more)) → put_all (members_of done) more ≡ members_of (done ++ more)
put_all_sorted done [] h = ap members_of (sym (append-nil done))
put_all_sorted done (e ∷ more) h =
    ap (λ ms. put_all ms more) (put_last done e more h)
    ∙ put_all_sorted (done ++ e ∷ []) more (subst (λ es. IsStrictlySortedBy string_cmp (keys_of es)) (sym (append_assoc done (e ∷ []) more)) h)
    ∙ ap members_of (append_assoc done (e ∷ []) more)

-- a map, of which nothing is copied yet
pub map_begun : (x : Ipld) (m : BTreeMap (String Global) Ipld) (es copies : List Entry) → x ≡ variant.Map m → es ≡ m.entries → copies ≡ [] → IsStrictlySortedBy string_cmp (keys_of m.entries)
    → entries (put_all (members_of copies) es) ≡ tree_of x
map_begun x m es copies is all none sorted =
    rw (is, all, none) (ap entries (put_all_sorted [] m.entries sorted) ∙ sym (tree_of-Map m))

pub list_begun : (x : Ipld) (v : Vec Ipld Global) (xs copies : List Ipld) → x ≡ variant.List v → xs ≡ v.items → copies ≡ []
    → list (as_items (map tree_of copies ++ map tree_of xs)) ≡ tree_of x
list_begun x v xs copies is all none = rw (is, all, none) (sym (tree_of-List v))

pub whole_work : (x : Ipld) → 0 < 2 * size x
whole_work x = omega (arith, size_positive x)

pub list_work : (x : Ipld) (v : Vec Ipld Global) (xs : List Ipld) → x ≡ variant.List v → xs ≡ v.items → suc (2 * total xs) < 2 * size x
list_work x v xs is all = omega (arith, ap size is, size_list v, ap total all)

pub map_work : (x : Ipld) (m : BTreeMap (String Global) Ipld) (es : List Entry) → x ≡ variant.Map m → es ≡ m.entries → suc (2 * total (values_of es)) < 2 * size x
map_work x m es is all = omega (arith, ap size is, size_map m, ap (λ ls. total (values_of ls)) all)

-- a list of copies of all items
pub copied_all : (xs copies : List Ipld) (v : Vec Ipld Global) (i : ℕ) → v.items ≡ copies → map tree_of copies ≡ map tree_of (take i xs) → length xs ≤ i → tree_of (variant.List v) ≡ list (items_of xs)
copied_all xs copies v i is same all = tree_of-List v ∙ ap (λ ts. list (as_items ts)) (ap (map tree_of) is ∙ same ∙ ap (map tree_of) (take_all i xs all))

-- ---- containers around others

pub around_all-append : (cs : List OpenCopy) (c : OpenCopy) (t : Tree) → around_all (cs ++ c ∷ []) t ≡ around_all cs (around c t)
around_all-append [] c t = refl
around_all-append (d ∷ cs) c t = ap (around d) (around_all-append cs c t)

pub work_around-append : (cs : List OpenCopy) (c : OpenCopy) → work_around (cs ++ c ∷ []) ≡ work_around cs + work c + 1
work_around-append [] c = omega arith
work_around-append (d ∷ cs) c = omega (arith, work_around-append cs c)

-- the copy of the value that was taken has begun, and goes on inside it
pub entered : (outer outer' : List OpenCopy) (inner mid next opened : OpenCopy) (b : Begun) (t all : Tree) → around_all outer (whole inner) ≡ all → whole inner ≡ around mid t
    → tree_begun b ≡ t → b ≡ begun.Open opened → next ≡ opened → outer' ≡ outer ++ mid ∷ [] → around_all outer' (whole next) ≡ all
entered outer outer' inner mid next opened b t all before taken begins opens goes longer =
    let same : whole next ≡ t = ap whole goes ∙ sym (ap tree_begun opens) ∙ begins in
    rw (longer, around_all-append outer mid (whole next)) (ap (around_all outer) (ap (around mid) same ∙ sym taken) ∙ before)

pub entered_work : (outer outer' : List OpenCopy) (inner mid next opened : OpenCopy) (b : Begun) (n : ℕ) → work inner ≡ n + work mid → work_begun b < n → b ≡ begun.Open opened → next ≡ opened
    → outer' ≡ outer ++ mid ∷ [] → work next + work_around outer' < work inner + work_around outer
entered_work outer outer' inner mid next opened b n taken less opens goes longer =
    omega (arith, taken, less, ap work_begun opens, ap work goes, ap work_around longer, work_around-append outer mid)

-- a copy that is complete was added to the container around it
pub left : (outer rest : List OpenCopy) (inner done c next : OpenCopy) (all : Tree) → around_all outer (whole inner) ≡ all → whole inner ≡ whole done → outer ≡ rest ++ c ∷ [] → whole next ≡ around c (whole done)
    → around_all rest (whole next) ≡ all
left outer rest inner done c next all before same split is =
    rw is (sym (around_all-append rest c (whole done)) ∙ ap (λ cs. around_all cs (whole done)) (sym split) ∙ ap (around_all outer) (sym same) ∙ before)

pub left_work : (outer rest : List OpenCopy) (inner c next : OpenCopy) → outer ≡ rest ++ c ∷ [] → work next ≡ work c → work next + work_around rest < work inner + work_around outer
left_work outer rest inner c next split is = omega (arith, is, ap work_around split, work_around-append rest c)
