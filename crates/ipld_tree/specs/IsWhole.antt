-- The conditions that a tree of the IPLD data model meets in addition to `IsTree`. Its integers fit
-- in signed 128 bits, its bytes are below 256, and the keys of every map ascend in byte order
-- without repeats.
use Rattle.std.specs.Prelude.{ℕ, List, [], ◌∷◌, FitsSigned}
use Rattle.std.specs.Int.{w128}
use Rattle.std.specs.List.Sorted.{IsStrictlySortedBy}
use Rattle.std.specs.Cmp.Lexicographic.{slice_cmp}
use Rattle.std.specs.Ordering.{nat_cmp}
use Rattle.ipld_cid.specs.Multihash.{IsBytes}
use Rattle.ipld_tree.specs.Tree.{Tree, null, boolean, integer, text, bytes, list, entries, link, Items, no_items, item, Members, no_members, member}

abbrev pub keys_in : Members → List (List ℕ)
keys_in no_members = []
keys_in (member k t ms) = k ∷ keys_in ms

-- True if the keys ascend in byte order, without repeats.
abbrev pub Ascends : Members → Type 0
Ascends ms = IsStrictlySortedBy (slice_cmp nat_cmp) (keys_in ms)

abbrev mutual
  -- True if integers fit in signed 128 bits, bytes are below 256, and the keys of every map ascend
  -- in byte order without repeats (this project's own limits).
  pub IsWhole : Tree → Type 0
  IsWhole null = Unit {0}
  IsWhole (boolean b) = Unit {0}
  IsWhole (integer n) = FitsSigned w128 n
  IsWhole (text s) = Unit {0}
  IsWhole (bytes b) = IsBytes b
  IsWhole (list ts) = AreWhole ts
  IsWhole (entries ms) = Ascends ms × AreWholeEntries ms
  IsWhole (link l) = Unit {0}

  pub AreWhole : Items → Type 0
  AreWhole no_items = Unit {0}
  AreWhole (item t ts) = IsWhole t × AreWhole ts

  pub AreWholeEntries : Members → Type 0
  AreWholeEntries no_members = Unit {0}
  AreWholeEntries (member k t ms) = IsWhole t × AreWholeEntries ms
