-- The values that the builders of `ipld!` have so far.
use Rattle.std.specs.Prelude.{ℕ, List, vec_capacity, vec_len}
use Rattle.ipld_tree.specs.Tree.{Members}
use Rattle.ipld_tree.specs.TreeOf.{members_of}
use Rattle.ipld_tree.specs.declared.ipld.Ipld.{Ipld}
use Rattle.ipld_tree.specs.declared.macros.ListBuilder.{ListBuilder}
use Rattle.ipld_tree.specs.declared.macros.MapBuilder.{MapBuilder}

-- the items that a list builder has so far
abbrev pub items_so_far : ListBuilder → List Ipld
items_so_far b = b.items.items

-- the number of items so far
abbrev pub items_len : ListBuilder → ℕ
items_len b = vec_len b.items

-- the number of items that the builder has memory for
abbrev pub items_capacity : ListBuilder → ℕ
items_capacity b = vec_capacity b.items

-- the members that a map builder has so far
abbrev pub members_so_far : MapBuilder → Members
members_so_far b = members_of b.members.entries
