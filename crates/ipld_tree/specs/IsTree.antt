-- The condition that every value of the IPLD data model meets here: its strings are UTF-8, and its
-- links are valid CIDs.
use Rattle.std.specs.Str.{IsUtf8}
use Rattle.ipld_cid.specs.Cid.{IsValid}
use Rattle.ipld_tree.specs.Tree.{Tree, null, boolean, integer, text, bytes, list, entries, link, Items, no_items, item, Members, no_members, member}

abbrev mutual
  -- True if every string in the tree, keys included, is UTF-8 and every link is a valid CID (The
  -- IPLD Data Model).
  pub IsTree : Tree → Type 0
  IsTree null = Unit {0}
  IsTree (boolean b) = Unit {0}
  IsTree (integer n) = Unit {0}
  IsTree (text s) = IsUtf8 s
  IsTree (bytes b) = Unit {0}
  IsTree (list ts) = AreTrees ts
  IsTree (entries ms) = AreEntries ms
  IsTree (link l) = IsValid 64 l

  pub AreTrees : Items → Type 0
  AreTrees no_items = Unit {0}
  AreTrees (item t ts) = IsTree t × AreTrees ts

  pub AreEntries : Members → Type 0
  AreEntries no_members = Unit {0}
  AreEntries (member k t ms) = IsUtf8 k × IsTree t × AreEntries ms
