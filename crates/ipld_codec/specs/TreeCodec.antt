-- This file states the laws that relate a codec of trees to the trees.
use Rattle.std.specs.Prelude.{◌≡◌, ◌↔◌, ℕ, List, Option, Some, None}
use Rattle.ipld_cid.specs.Cid.{Link}
use Rattle.ipld_tree.specs.LinkTimes.{AsOften}
use Rattle.ipld_tree.specs.TreeOf.{tree_of}
use Rattle.ipld_tree.specs.Walk.{links_of}
use Rattle.ipld_tree.specs.declared.ipld.Ipld.{Ipld}

-- True if values have the same contents if and only if they have the same tree.
abbrev pub SameTrees : {V : Type 0} → (Ipld → V) → Type 0
SameTrees contents = (v w : Ipld) → (contents v ≡ contents w) ↔ (tree_of v ≡ tree_of w)

-- True if a block has a list of links if and only if it decodes.
abbrev pub LinksWhereDecoded : {V : Type 0} → (List ℕ → Option V) → (List ℕ → Option (List Link)) → Type 0
LinksWhereDecoded decoded found = (block : List ℕ) → (decoded block ≡ None) ↔ (found block ≡ None)

-- True if every link appears equally often among the links of a block and in the tree that the
-- block decodes to.
abbrev pub LinksOfTree : {V : Type 0} → (Ipld → V) → (List ℕ → Option V) → (List ℕ → Option (List Link)) → Type 0
LinksOfTree contents decoded found =
    (v : Ipld) (block : List ℕ) (links : List Link) → decoded block ≡ Some (contents v) → found block ≡ Some links → AsOften links (links_of (tree_of v))

-- True if the block that is written for a value decodes only to values with the same tree.
abbrev pub TreeRoundTrip : {V : Type 0} → (Ipld → V) → (V → Option (List ℕ)) → (List ℕ → Option V) → Type 0
TreeRoundTrip contents writes decoded =
    (v w : Ipld) (block : List ℕ) → writes (contents v) ≡ Some block → decoded block ≡ Some (contents w) → tree_of w ≡ tree_of v
