-- The tree that a block encodes, from its tokens. These are read from the last to the first, with
-- the later contents of every open list or map.
use Rattle.std.specs.Prelude.{List, [], ◌∷◌, ℕ, Option, Some, None}
use Rattle.ipld_cid.specs.Cid.{Link}
use Rattle.ipld_tree.specs.Tree.{Tree, text, bytes, list, entries, link, Items, no_items, item, Members, no_members}
use Rattle.ipld_tree.specs.Put.{put}
use Rattle.ipld_tokens.specs.Token.{TokenModel, atom, some, variant, seq, seq_end, map, map_end}
use Rattle.ipld_tokens.specs.Token as token
use Rattle.ipld_tokens.specs.ItemTree.{tree_of_atom}
use Rattle.dag_cbor_format.specs.Reading.{Ran, unless_error, of_block}
use Rattle.dag_cbor_format.specs.Found.{marked_link}

abbrev pub pushed : Tree → List Items → List Items
pushed t [] = []
pushed t (g ∷ gs) = item t g ∷ gs

abbrev pub pushed_if : Option Tree → List Items → List Items
pushed_if None gs = []
pushed_if (Some t) gs = pushed t gs

-- the members of a map, from keys and values that alternate
abbrev pub members_from : Items → Members
members_from (item (text key) (item t ts)) = put key t (members_from ts)
members_from _ = no_members

abbrev pub as_list : List Items → List Items
as_list [] = []
as_list (g ∷ gs) = pushed (list g) gs

abbrev pub as_map : List Items → List Items
as_map [] = []
as_map (g ∷ gs) = pushed (entries (members_from g)) gs

-- the items with this link instead of the first one, which has the bytes of its CID
abbrev pub as_link : Option Link → List Items → List Items
as_link (Some cid) (item t g ∷ gs) = item (link cid) g ∷ gs
as_link _ _ = []

abbrev pub held : List TokenModel → List Items
held [] = no_items ∷ []
held (atom a ∷ ts) = pushed_if (tree_of_atom a) (held ts)
held (token.bytes b ∷ ts) = pushed (bytes b) (held ts)
held (some ∷ ts) = []
held (variant name ∷ ts) = []
held (token.link ∷ ts) = as_link (marked_link ts) (held ts)
held (seq ∷ ts) = as_list (held ts)
held (seq_end ∷ ts) = no_items ∷ held ts
held (map ∷ ts) = as_map (held ts)
held (map_end ∷ ts) = no_items ∷ held ts

abbrev pub only_tree : List Items → Option Tree
only_tree (item t no_items ∷ []) = Some t
only_tree _ = None

abbrev pub tree_of_run : Ran → Option Tree
tree_of_run ran = unless_error ran.error (only_tree (held ran.tokens))

-- The tree that the bytes encode, or nothing if they do not encode one.
unfoldable pub tree_of_block : List ℕ → Option Tree
tree_of_block block = tree_of_run (of_block block)
