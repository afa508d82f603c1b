-- The tree of each variant.
use Rattle.std.proofs.Common.{◌≡◌, ℕ, ℤ, Vec, BTreeMap, String, Global, rules}
use Rattle.ipld_cid.specs.LinkOf.{link_of}
use Rattle.ipld_cid.specs.declared.cid.CidGeneric.{CidGeneric}
use Rattle.ipld_tree.specs.Tree.{integer, list, entries, bytes, link}
use Rattle.ipld_tree.specs.TreeOf.{tree_of, items_of, members_of}
use Rattle.ipld_tree.specs.declared.ipld.Ipld.{Ipld, Integer, List, Map, Bytes, Link, the_lemmas}

pub tree_of-Integer : (n : ℤ) → tree_of (Integer n) ≡ integer n
tree_of-Integer n = search (rules, the_lemmas)

pub tree_of-Link : (c : CidGeneric 64) → tree_of (Link c) ≡ link (link_of c)
tree_of-Link c = search (rules, the_lemmas)

pub tree_of-List : (v : Vec Ipld Global) → tree_of (List v) ≡ list (items_of v.items)
tree_of-List v = search (rules, the_lemmas)

pub tree_of-Map : (m : BTreeMap (String Global) Ipld) → tree_of (Map m) ≡ entries (members_of m.entries)
tree_of-Map m = search (rules, the_lemmas)

pub tree_of-Bytes : (v : Vec ℕ Global) → tree_of (Bytes v) ≡ bytes v.items
tree_of-Bytes v = search (rules, the_lemmas)
