-- The maps that DAG-JSON reserves for links and bytes (IPLD's DAG-JSON specification, "Reserved
-- namespace").
use Rattle.std.specs.Prelude.{◌≡◌, ℕ, suc, ◌^◌, ◌-◌, ◌||◌, Bool, true, false, if◌then◌else◌, List, [], ◌∷◌, Option, Some, None, codes, option_map, min}
use Rattle.std.specs.Str.{bytes_eq}
use Rattle.ipld_tree.specs.Tree.{Tree, text, entries, Members, no_members, member}
use Rattle.ipld_tree.specs.Walk.{preorder}

-- the first value of a map, if its key is this one
abbrev pub first_under : List ℕ → Members → Option Tree
first_under name no_members = None
first_under name (member k t ms) = if bytes_eq k name then Some t else None

abbrev pub is_text : Option Tree → Bool
is_text (Some (text s)) = true
is_text _ = false

-- whether the value of the key `/` is read as the content of a link or of bytes: a string, or a map
-- whose first key is `bytes` with a string as its value
abbrev pub reads_as_content : Option Tree → Bool
reads_as_content (Some (text s)) = true
reads_as_content (Some (entries ms)) = is_text (first_under (codes "bytes") ms)
reads_as_content _ = false

-- Whether the tree is a reserved map. Its first key is `/`, and the value is a string, or a map
-- whose first key is `bytes` with a string as its value (IPLD DAG-JSON, reserved namespace).
abbrev pub is_reserved : Tree → Bool
is_reserved (entries ms) = reads_as_content (first_under (codes "/") ms)
is_reserved _ = false

-- whether one of the trees is reserved
abbrev pub any_reserved : List Tree → Bool
any_reserved [] = false
any_reserved (t ∷ ts) = is_reserved t || any_reserved ts

-- Whether the tree, or a map in it, is reserved.
abbrev pub has_reserved : Tree → Bool
has_reserved t = any_reserved (preorder t)

-- The number of trees before the first one that is reserved, or nothing if no tree is reserved.
abbrev pub first_reserved : List Tree → Option ℕ
first_reserved [] = None
first_reserved (t ∷ ts) = if is_reserved t then Some 0 else option_map suc (first_reserved ts)

-- True if `place` is the count as a number of 64 bits, or the greatest such number if the count is
-- more. Without a count, `place` is nothing.
abbrev pub Counts : Option ℕ → Option ℕ → Type 0
Counts None place = place ≡ None
Counts (Some n) place = place ≡ Some (min n (2 ^ 64 - 1))
