-- The integers of DAG-CBOR (RFC 8949, section 3.1: arguments of 64 bits).
use Rattle.std.specs.Prelude.{ℤ, pos, negsuc, ◌^◌, ◌&&◌, nat_lt, Bool, true}
use Rattle.ipld_tree.specs.Tree.{Tree, null, boolean, integer, text, bytes, list, entries, link, Items, no_items, item, Members, no_members, member}

-- whether an integer is from -2^64 to 2^64 - 1
abbrev pub has_argument : ℤ → Bool
has_argument (pos n) = nat_lt n (2 ^ 64)
has_argument (negsuc n) = nat_lt n (2 ^ 64)

abbrev mutual
  -- Whether every integer in a tree is from -2^64 to 2^64 - 1 (RFC 8949, section 3.1).
  pub in_range : Tree → Bool
  in_range null = true
  in_range (boolean b) = true
  in_range (integer n) = has_argument n
  in_range (text s) = true
  in_range (bytes b) = true
  in_range (list ts) = items_in_range ts
  in_range (entries ms) = members_in_range ms
  in_range (link cid) = true

  pub items_in_range : Items → Bool
  items_in_range no_items = true
  items_in_range (item t ts) = in_range t && items_in_range ts

  pub members_in_range : Members → Bool
  members_in_range no_members = true
  members_in_range (member k t ms) = in_range t && members_in_range ms
