-- A map of the IPLD data model with a value put at a key. The keys stay in order, and a value that
-- was at the key is replaced.
use Rattle.std.specs.Prelude.{ℕ, List}
use Rattle.std.specs.Ordering.{nat_cmp, match_ordering}
use Rattle.std.specs.Cmp.Lexicographic.{slice_cmp}
use Rattle.ipld_tree.specs.Tree.{Tree, Members, no_members, member}

-- The map with this value at the key. It replaces the value that was there.
abbrev pub put : List ℕ → Tree → Members → Members
put key t no_members = member key t no_members
put key t (member k u ms) =
    match_ordering (slice_cmp nat_cmp key k) (member key t (member k u ms)) (member k t ms) (member k u (put key t ms))
