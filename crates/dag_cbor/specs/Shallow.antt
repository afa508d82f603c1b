-- Values that are read from the front of bytes, which begin with the encoding of the value's tree.
use Rattle.std.specs.Prelude.{◌≡◌, ◌≤◌, ℕ, false, List, [], ◌∷◌, ◌++◌, Option, Some, String, string_bytes}
use Rattle.std.specs.declared.alloc.Global.{Global}
use Rattle.ipld_tree.specs.Put.{put}
use Rattle.ipld_tree.specs.Tree.{Tree, Members, no_members}
use Rattle.ipld_tree.specs.TreeOf.{tree_of, members_of}
use Rattle.ipld_tree.specs.Walk.{nest}
use Rattle.ipld_tree.specs.declared.ipld.Ipld.{Ipld}
use Rattle.ipld_tokens.specs.Item.{Item}
use Rattle.ipld_tokens.specs.ItemTree.{tree_of_item, has_key, put_new}
use Rattle.dag_cbor_format.specs.Encoding.{encoding, HasEncoding}
use Rattle.dag_cbor_format.specs.Head.{head, IsArgument}
use Rattle.dag_cbor_format.specs.declared.major.Major.{Major}
use Rattle.dag_cbor_format.specs.ItemHeads.{BeginsWithKey}

-- True if `bytes` begin with an item whose tree is `t`, `rest` follows it, and `t` nests at most
-- `levels` levels deep.
abbrev pub Begins : ℕ → Tree → List ℕ → List ℕ → Type 0
Begins levels t bytes rest = (i : Item 64) × HasEncoding i × (tree_of_item i ≡ Some t) × (bytes ≡ encoding i ++ rest) × (nest t ≤ levels)

-- True if this head and then `bytes` begin with such an item, and `rest` follows it.
abbrev pub Continues : ℕ → Major → ℕ → List ℕ → Tree → List ℕ → Type 0
Continues levels major argument bytes t rest = IsArgument major argument → Begins levels t (head major argument ++ bytes) rest

-- True if a list has one more value, which the bytes begin with.
abbrev pub Adds : ℕ → List Ipld → List Ipld → List ℕ → List ℕ → Type 0
Adds levels old new bytes rest = (v : Ipld) × (new ≡ old ++ v ∷ []) × Begins levels (tree_of v) bytes rest

-- True if a map has one more entry, which the bytes begin with, under a key that it did not have.
abbrev pub Enters : ℕ → List (String Global × Ipld) → List (String Global × Ipld) → List ℕ → List ℕ → Type 0
Enters levels old new bytes rest =
    (key behind : List ℕ) × (t : Tree) × BeginsWithKey key bytes behind × Begins levels t behind rest × (has_key key (members_of old) ≡ false) × (members_of new ≡ put key t (members_of old))

-- the model of an entry: its key and the tree of its value
abbrev pub entry_of : String Global × Ipld → List ℕ × Tree
entry_of e = (string_bytes e.0, tree_of e.1)

-- the members that entries make, or nothing if two of their keys are equal
abbrev pub all_new : List (List ℕ × Tree) → Option Members
all_new [] = Some no_members
all_new (e ∷ es) = put_new (Some e.0) (Some e.1) (all_new es)

-- True if there is one more entry, which the bytes begin with.
abbrev pub AddsEntry : ℕ → List (String Global × Ipld) → List (String Global × Ipld) → List ℕ → List ℕ → Type 0
AddsEntry levels old new bytes rest =
    (e : String Global × Ipld) × (behind : List ℕ) × (new ≡ old ++ e ∷ []) × BeginsWithKey (string_bytes e.0) bytes behind × Begins levels (tree_of e.1) behind rest
