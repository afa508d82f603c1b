-- The value at an index of a tree (IPLD data model: a list is indexed by integers, a map by
-- strings).
use Rattle.std.specs.Prelude.{ℕ, zero, suc, ◌^◌, ◌&&◌, ◌==◌, nat_lt, List, [], ◌∷◌, Option, Some, None, Result, Ok, Err, if◌then◌else◌, decimal}
use Rattle.std.specs.Str.{all_ascii_digits, bytes_eq}
use Rattle.std.specs.Str.Parse.{digits_value}
use Rattle.ipld_tree.specs.Tree.{Tree, null, boolean, integer, text, bytes, list, entries, link, Items, no_items, item, Members, no_members, member}
use Rattle.ipld_tree.specs.Kind.{kind_of}
use Rattle.ipld_tree.specs.declared.ipld.IpldKind.{IpldKind}

-- an index: a number, an owned string, or a borrowed string
pub data Index : Type 0 where
  number : ℕ → Index
  name : List ℕ → Index
  name_ref : List ℕ → Index

-- the reason why a lookup fails: the index doesn't mean a number, or the tree is not a list or a
-- map
pub data LookupError : Type 0 where
  no_number : Index → LookupError
  no_container : IpldKind → LookupError

-- ---- numbers as strings

abbrev pub without_plus : List ℕ → List ℕ
without_plus [] = []
without_plus (c ∷ cs) = if c == 43 then cs else (c ∷ cs)

-- the number of one or more decimal digits, if it is below 2^64
abbrev pub numeral : List ℕ → Option ℕ
numeral [] = None
numeral (c ∷ cs) =
    if all_ascii_digits (c ∷ cs) && nat_lt (digits_value 10 (c ∷ cs)) (2 ^ 64) then Some (digits_value 10 (c ∷ cs)) else None

-- the number that a string means: a numeral after an optional `+`
abbrev pub number_of : List ℕ → Option ℕ
number_of s = numeral (without_plus s)

-- ---- an index as a number, and as a string

-- the number that an index means. A string means the number of its characters.
abbrev pub number_meant : Index → Option ℕ
number_meant (number n) = Some n
number_meant (name s) = number_of s
number_meant (name_ref s) = number_of s

-- the key that an index means. A number means its decimal digits.
abbrev pub key_meant : Index → List ℕ
key_meant (number n) = decimal n
key_meant (name s) = s
key_meant (name_ref s) = s

-- ---- looking up

abbrev pub item_at : ℕ → Items → Option Tree
item_at n no_items = None
item_at zero (item t ts) = Some t
item_at (suc n) (item t ts) = item_at n ts

-- the value of a key in a map, if the map has it
abbrev pub value_at : List ℕ → Members → Option Tree
value_at key no_members = None
value_at key (member k t ms) = if bytes_eq key k then Some t else value_at key ms

abbrev pub numbered : Option ℕ → Index → Items → Result (Option Tree) LookupError
numbered None index ts = Err (no_number index)
numbered (Some n) index ts = Ok (item_at n ts)

-- The value at an index: a tree, nothing, or the reason why the lookup fails. In a list it is the
-- item at the number, and in a map the value of the string. On a map, a number means its decimal
-- string. On a list, a string means a number if it is an optional `+` and decimal digits, below
-- 2^64 (this project's own; the Rust crate's rules).
abbrev pub found_at : Tree → Index → Result (Option Tree) LookupError
found_at null index = Err (no_container (kind_of null))
found_at (boolean b) index = Err (no_container (kind_of (boolean b)))
found_at (integer n) index = Err (no_container (kind_of (integer n)))
found_at (text s) index = Err (no_container (kind_of (text s)))
found_at (bytes b) index = Err (no_container (kind_of (bytes b)))
found_at (list ts) index = numbered (number_meant index) index ts
found_at (entries ms) index = Ok (value_at (key_meant index) ms)
found_at (link l) index = Err (no_container (kind_of (link l)))
