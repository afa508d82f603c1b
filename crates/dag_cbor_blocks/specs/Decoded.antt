-- The results of reading a block.
use Rattle.std.specs.Prelude.{◌≡◌, ℕ, Bool, List, Some, Result, Ok, Err}
use Rattle.ipld_cid.specs.Cid.{Link}
use Rattle.ipld_tree.specs.Tree.{Tree}
use Rattle.ipld_tokens.specs.Item.{Item, links_in}
use Rattle.ipld_tokens.specs.ItemTree.{tree_of_item}
use Rattle.ipld_tokens.specs.LinkTimes.{SameLinks}
use Rattle.dag_cbor_format.specs.declared.error.CborError.{CborError}
use Rattle.dag_cbor_format.specs.declared.error.CborError.TheVariants.{Memory}
use Rattle.dag_cbor_format.specs.WithFloats.{EncodesIn}

-- True if `P` is true of the value that is returned, or if an allocation failed.
abbrev pub UnlessMemory : {A : Type 0} → Result A CborError → (A → Type 0) → Type 0
UnlessMemory (Ok x) P = P x
UnlessMemory (Err e) P = e ≡ Memory

-- True if the bytes encode an item that has a tree, with floats or without, and these are the
-- item's links, in the order of the bytes. A link is in the tree as often as in the item.
abbrev pub LinksOf : Bool → List ℕ → List Link → Type 0
LinksOf floats bytes links = (i : Item 64) × (t : Tree) × EncodesIn floats i bytes × (tree_of_item i ≡ Some t) × (links ≡ links_in i) × SameLinks i t
