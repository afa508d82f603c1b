-- This file defines the tokens of a tree of the IPLD data model. The keys of a map keep their
-- order.
use Rattle.std.specs.Prelude.{List, [], ◌∷◌, ◌++◌}
use Rattle.ipld_cid.specs.Bytes.{bytes_of}
use Rattle.ipld_tree.specs.Tree.{Tree, null, Items, no_items, item, Members, no_members, member}
use Rattle.ipld_tree.specs.Tree as tree
use Rattle.ipld_tokens.specs.Token.{TokenModel, atom, bytes, link, seq, seq_end, map, map_end, none, boolean, integer, text}

abbrev mutual
  -- the tokens of a tree
  pub tokens_of_tree : Tree → List TokenModel
  tokens_of_tree null = atom none ∷ []
  tokens_of_tree (tree.boolean b) = atom (boolean b) ∷ []
  tokens_of_tree (tree.integer n) = atom (integer n) ∷ []
  tokens_of_tree (tree.text s) = atom (text s) ∷ []
  tokens_of_tree (tree.bytes b) = bytes b ∷ []
  tokens_of_tree (tree.list ts) = seq ∷ (items_tokens ts ++ seq_end ∷ [])
  tokens_of_tree (tree.entries ms) = map ∷ (members_tokens ms ++ map_end ∷ [])
  tokens_of_tree (tree.link cid) = link ∷ bytes (bytes_of cid) ∷ []

  pub items_tokens : Items → List TokenModel
  items_tokens no_items = []
  items_tokens (item t ts) = tokens_of_tree t ++ items_tokens ts

  pub members_tokens : Members → List TokenModel
  members_tokens no_members = []
  members_tokens (member key t ms) = atom (text key) ∷ (tokens_of_tree t ++ members_tokens ms)
