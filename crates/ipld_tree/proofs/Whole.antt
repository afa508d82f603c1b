-- Trees whose parts are whole.
use Rattle.std.proofs.Common.{◌≡◌, ℕ, List, [], ◌∷◌, String, Global, string_bytes, string_cmp, nat_cmp, Less, subst}
use Rattle.std.specs.Cmp.Lexicographic.{slice_cmp}
use Rattle.std.specs.List.{AllByRecursion}
use Rattle.std.specs.List.Sorted.{IsStrictlySortedBy}
use Rattle.std.specs.Map.{keys_of, values_of}
use Rattle.ipld_cid.specs.Multihash.{IsBytes}
use Rattle.ipld_tree.specs.Tree.{list, entries, bytes}
use Rattle.ipld_tree.specs.TreeOf.{tree_of, items_of, members_of}
use Rattle.ipld_tree.specs.IsWhole.{IsWhole, AreWhole, AreWholeEntries, Ascends, keys_in}
use Rattle.ipld_tree.specs.Cursors.{AllWhole}
use Rattle.ipld_tree.specs.declared.ipld.Ipld.{Ipld}

abbrev Entry : Type 0
Entry = String Global × Ipld

items_whole : (xs : List Ipld) → AllWhole xs → AreWhole (items_of xs)
items_whole [] h = tt
items_whole (x ∷ xs) h = (h.0, items_whole xs h.1)

entries_whole : (es : List Entry) → AllWhole (values_of es) → AreWholeEntries (members_of es)
entries_whole [] h = tt
entries_whole (e ∷ es) h = (h.0, entries_whole es h.1)

above : (k : String Global) (es : List Entry) → AllByRecursion (λ y. string_cmp k y ≡ Less) (keys_of es)
    → AllByRecursion (λ y. slice_cmp nat_cmp (string_bytes k) y ≡ Less) (keys_in (members_of es))
above k [] h = tt
above k (e ∷ es) h = (h.0, above k es h.1)

ascends : (es : List Entry) → IsStrictlySortedBy string_cmp (keys_of es) → Ascends (members_of es)
unfolding IsStrictlySortedBy
ascends [] h = tt
ascends (e ∷ es) h = (above e.0 es h.0, ascends es h.1)

pub list_whole : (x : Ipld) (xs : List Ipld) → tree_of x ≡ list (items_of xs) → AllWhole xs → IsWhole (tree_of x)
list_whole x xs e h = rw e (items_whole xs h)

pub map_whole : (x : Ipld) (es : List Entry) (xs : List Ipld) → tree_of x ≡ entries (members_of es) → xs ≡ values_of es → IsStrictlySortedBy string_cmp (keys_of es) → AllWhole xs
    → IsWhole (tree_of x)
map_whole x es xs e same sorted h = rw e (ascends es sorted, entries_whole es (subst AllWhole same h))

pub bytes_whole : (x : Ipld) (bs : List ℕ) → tree_of x ≡ bytes bs → IsBytes bs → IsWhole (tree_of x)
bytes_whole x bs e h = rw e h
