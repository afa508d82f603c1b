-- The kind of a tree (IPLD data model).
use Rattle.ipld_tree.specs.Tree.{Tree, null, boolean, integer, text, bytes, list, entries, link}
use Rattle.ipld_tree.specs.declared.ipld.IpldKind.{IpldKind}
use Rattle.ipld_tree.specs.declared.ipld.IpldKind.TheVariants.{Null, Bool, Integer, String, Bytes, List, Map, Link}

-- The kind of a tree (The IPLD Data Model, kinds).
abbrev pub kind_of : Tree → IpldKind
kind_of null = Null
kind_of (boolean b) = Bool
kind_of (integer n) = Integer
kind_of (text s) = String
kind_of (bytes b) = Bytes
kind_of (list ts) = List
kind_of (entries ms) = Map
kind_of (link l) = Link

-- True if a value of the kind owns memory: it is a string, bytes, a list or a map.
abbrev pub HoldsMemory : Tree → Type 0
HoldsMemory null = ⊥
HoldsMemory (boolean b) = ⊥
HoldsMemory (integer n) = ⊥
HoldsMemory (text s) = Unit {0}
HoldsMemory (bytes b) = Unit {0}
HoldsMemory (list ts) = Unit {0}
HoldsMemory (entries ms) = Unit {0}
HoldsMemory (link l) = ⊥
