-- Incomplete copies of a tree: the values that their containers have, and the values that are left.
use Rattle.std.specs.Prelude.{◌≡◌, ◌+◌, ◌*◌, suc, ℕ, List, [], ◌∷◌, ◌++◌, map, Option, Some, None, String, string_bytes}
use Rattle.std.specs.declared.alloc.Global.{Global}
use Rattle.std.specs.Borrow.{Bor}
use Rattle.std.specs.Map.{values_of}
use Rattle.std.specs.Slice.Iter.{iter_rest}
use Rattle.ipld_tree.specs.Tree.{Tree, list, entries, Members}
use Rattle.ipld_tree.specs.TreeOf.{tree_of, as_items, members_of}
use Rattle.ipld_tree.specs.Put.{put}
use Rattle.ipld_tree.specs.Size.{size, total}
use Rattle.ipld_tree.specs.declared.ipld.Ipld.{Ipld}
use Rattle.ipld_tree.specs.declared.clone.by_loop.Begun.{Begun}
use Rattle.ipld_tree.specs.declared.clone.by_loop.Begun.TheVariants as begun
use Rattle.ipld_tree.specs.declared.clone.by_loop.OpenCopy.{OpenCopy}
use Rattle.ipld_tree.specs.declared.clone.by_loop.OpenCopy.TheVariants as container

-- the members after the entries are put among them, one after another
abbrev pub put_all : Members → List (String Global × Ipld) → Members
put_all ms [] = ms
put_all ms (e ∷ es) = put_all (put (string_bytes e.0) (tree_of e.1) ms) es

-- the tree of a container after its remaining values are copied
abbrev pub whole : OpenCopy → Tree
whole (container.List c) = list (as_items (map tree_of c.copies.items ++ map tree_of (iter_rest c.left)))
whole (container.Map c) = entries (put_all (members_of c.copies.entries) c.left)

-- the same, with the tree `t` as the copy of the value that was taken last
abbrev pub around : OpenCopy → Tree → Tree
around (container.List c) t = list (as_items (map tree_of c.copies.items ++ t ∷ map tree_of (iter_rest c.left)))
around (container.Map c) t = entries (put_all (put c.key.now t (members_of c.copies.entries)) c.left)

-- the tree of the outermost of several containers, with `t` as the copy of the value that was taken
-- last from the innermost
abbrev pub around_all : List OpenCopy → Tree → Tree
around_all [] t = t
around_all (c ∷ cs) t = around c (around_all cs t)

-- True if a container has no values left.
abbrev pub IsDone : OpenCopy → Type 0
IsDone (container.List c) = iter_rest c.left ≡ []
IsDone (container.Map c) = c.left ≡ []

-- the bound on the iterations of the loop for a container's remaining values: two for every value,
-- including the values inside them
abbrev pub work : OpenCopy → ℕ
work (container.List c) = 2 * total (iter_rest c.left)
work (container.Map c) = 2 * total (values_of c.left)

abbrev pub work_around : List OpenCopy → ℕ
work_around [] = 0
work_around (c ∷ cs) = suc (work c + work_around cs)

-- the tree of a copy after it is complete
abbrev pub tree_begun : Begun → Tree
tree_begun (begun.Whole x) = tree_of x
tree_begun (begun.Open c) = whole c

abbrev pub work_begun : Begun → ℕ
work_begun (begun.Whole x) = 0
work_begun (begun.Open c) = suc (work c)

-- True if a container yields its next value, or has no values left. Its complete tree stays the
-- same.
abbrev pub TakesNext : OpenCopy → Option (Bor Ipld) → OpenCopy → Type 0
TakesNext before None after = IsDone after × (whole before ≡ whole after)
TakesNext before (Some x) after = (whole before ≡ around after (tree_of x.now)) × (work before ≡ 2 * size x.now + work after)
