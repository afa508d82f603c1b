-- This file defines the tokens that a walk of a tree has yet to yield, from its cursors (the
-- outermost first).
use Rattle.std.specs.Prelude.{◌≡◌, ◌≤◌, ℕ, suc, max, List, [], ◌∷◌, ◌++◌, Option, Some, None, String}
use Rattle.std.specs.Borrow.{Bor}
use Rattle.std.specs.declared.alloc.Global.{Global}
use Rattle.std.specs.Slice.Iter.{iter_rest}
use Rattle.ipld_cid.specs.Bytes.{bytes_of}
use Rattle.ipld_cid.specs.LinkOf.{link_of}
use Rattle.ipld_tree.specs.TreeOf.{tree_of, items_of, members_of}
use Rattle.ipld_tree.specs.Walk.{nest}
use Rattle.ipld_tree.specs.declared.ipld.Ipld.{Ipld}
use Rattle.ipld_tokens.specs.Token.{TokenModel, bytes, seq_end, map_end, erase}
use Rattle.ipld_tokens.specs.TreeTokens.{tokens_of_tree, items_tokens, members_tokens}
use Rattle.ipld_tokens.specs.declared.tree_tokens.TokenCursor.{TokenCursor}
use Rattle.ipld_tokens.specs.declared.tree_tokens.TokenCursor.TheVariants.{Itself, Encoding, Items, Members}
use Rattle.ipld_tokens.specs.declared.tree_tokens.Step.{Step}

-- the tokens of the remaining items of a list, or pairs of a map, and of its end
abbrev pub list_left : List Ipld → List TokenModel
list_left xs = items_tokens (items_of xs) ++ seq_end ∷ []

abbrev pub map_left : List (String Global × Ipld) → List TokenModel
map_left es = members_tokens (members_of es) ++ map_end ∷ []

-- the tokens of the value that comes next, if there is one
abbrev pub value_left : Option (Bor Ipld) → List TokenModel
value_left None = []
value_left (Some x) = tokens_of_tree (tree_of x.now)

abbrev pub left_of : TokenCursor → List TokenModel
left_of (Itself x) = tokens_of_tree (tree_of x.now)
left_of (Encoding cid) = bytes (bytes_of (link_of cid.now)) ∷ []
left_of (Items xs) = list_left (iter_rest xs)
left_of (Members value es) = value_left value ++ map_left es

-- the tokens that the cursors have yet to yield, those of the innermost (the last) cursor first
abbrev pub all_left : List TokenCursor → List TokenModel
all_left [] = []
all_left (c ∷ cs) = all_left cs ++ left_of c

abbrev pub cursors_in : Option TokenCursor → List TokenCursor
cursors_in None = []
cursors_in (Some c) = c ∷ []

-- an upper bound on the cursors that come from a value at once: one more than its nesting
abbrev pub deep : Ipld → ℕ
deep x = suc (nest (tree_of x))

abbrev pub deepest : List Ipld → ℕ
deepest [] = 0
deepest (x ∷ xs) = max (deep x) (deepest xs)

abbrev pub deepest_value : List (String Global × Ipld) → ℕ
deepest_value [] = 0
deepest_value (e ∷ es) = max (deep e.1) (deepest_value es)

abbrev pub deepest_first : Option (Bor Ipld) → ℕ
deepest_first None = 0
deepest_first (Some x) = deep x.now

-- an upper bound on the cursors that come from one cursor at once, including itself
abbrev pub depth : TokenCursor → ℕ
depth (Itself x) = deep x.now
depth (Encoding cid) = 1
depth (Items xs) = suc (deepest (iter_rest xs))
depth (Members value es) = suc (max (deepest_first value) (deepest_value es))

-- an upper bound on the cursors that are held at once from now on
abbrev pub slots : List TokenCursor → ℕ
slots [] = 0
slots (c ∷ cs) = max (depth c) (suc (slots cs))

-- True if `s` has the first token of `c`, and its cursors yield the other tokens. They need at most
-- `depth c` slots.
abbrev pub StepOf : TokenCursor → Step → Type 0
StepOf c s =
    (left_of c ≡ erase s.token ∷ all_left (cursors_in s.rest ++ cursors_in s.inner))
    × (slots (cursors_in s.rest ++ cursors_in s.inner) ≤ depth c)

-- True if the cursor has only the bytes of a link left.
abbrev pub HasLinkBytes : TokenCursor → Type 0
HasLinkBytes (Encoding cid) = Unit {0}
HasLinkBytes c = ⊥
