-- This file defines the tree of the IPLD data model that an item reads as, if there is one.
use Rattle.std.specs.Prelude.{◌^◌, ℕ, pos, nat_lt, if◌then◌else◌, Bool, false, ◌||◌, List, Option, Some, None, option_map, encode_utf8}
use Rattle.std.specs.Str.{bytes_eq}
use Rattle.ipld_tree.specs.Tree.{Tree, Items, no_items, item, Members, no_members, member}
use Rattle.ipld_tree.specs.Tree as tree
use Rattle.ipld_tree.specs.Put.{put}
use Rattle.ipld_tokens.specs.Token.{Atom, none, unit, unit_struct, boolean, integer, unsigned, character, text, unit_variant}
use Rattle.ipld_tokens.specs.Item.{Item, atom_item, bytes_item, some_item, variant_item, list_item, map_item, link_item, Parts, no_parts, part, Pairs, no_pairs, pair}

-- the tree that a scalar reads as, if there is one. `None`, `()` and a struct without fields are
-- null, and a character is a string. A `u128` of 2^127 or more and a unit variant do not have a
-- tree.
abbrev pub tree_of_atom : Atom → Option Tree
tree_of_atom none = Some tree.null
tree_of_atom unit = Some tree.null
tree_of_atom unit_struct = Some tree.null
tree_of_atom (boolean b) = Some (tree.boolean b)
tree_of_atom (integer n) = Some (tree.integer n)
tree_of_atom (unsigned n) = if nat_lt n (2 ^ 127) then Some (tree.integer (pos n)) else None
tree_of_atom (character c) = Some (tree.text (encode_utf8 c))
tree_of_atom (text s) = Some (tree.text s)
tree_of_atom (unit_variant s) = None

-- the string of an item as a key, if the item is a string or a character
abbrev pub key_text : Item 64 → Option (List ℕ)
key_text (atom_item (text s)) = Some s
key_text (atom_item (character c)) = Some (encode_utf8 c)
key_text _ = None

abbrev pub has_key : List ℕ → Members → Bool
has_key key no_members = false
has_key key (member k t ms) = bytes_eq key k || has_key key ms

-- the items with a tree before them, if both exist
abbrev pub item_before : Option Tree → Option Items → Option Items
item_before (Some t) (Some ts) = Some (item t ts)
item_before _ _ = None

-- the map with one more key and its value, if all three exist and the map does not have the key
abbrev pub put_new : Option (List ℕ) → Option Tree → Option Members → Option Members
put_new (Some key) (Some t) (Some ms) = if has_key key ms then None else Some (put key t ms)
put_new _ _ _ = None

abbrev mutual
  -- the tree that an item reads as, if there is one
  pub tree_of_item : Item 64 → Option Tree
  tree_of_item (atom_item a) = tree_of_atom a
  tree_of_item (bytes_item b) = Some (tree.bytes b)
  tree_of_item (some_item i) = tree_of_item i
  tree_of_item (variant_item name i) = None
  tree_of_item (list_item is) = option_map tree.list (items_of_parts is)
  tree_of_item (map_item ps) = option_map tree.entries (members_of_pairs ps)
  tree_of_item (link_item encoded cid is) = Some (tree.link cid)

  pub items_of_parts : Parts 64 → Option Items
  items_of_parts no_parts = Some no_items
  items_of_parts (part i is) = item_before (tree_of_item i) (items_of_parts is)

  pub members_of_pairs : Pairs 64 → Option Members
  members_of_pairs no_pairs = Some no_members
  members_of_pairs (pair key value ps) = put_new (key_text key) (tree_of_item value) (members_of_pairs ps)
