-- The depth of a block, and the number of its values and links, counted event by event.
use Rattle.std.specs.Prelude.{◌≡◌, ℕ, ◌+◌, ◌-◌, max, Bool, true, List, [], ◌∷◌, length, Result, Ok, Err}
use Rattle.std.specs.declared.alloc.AllocError.{AllocError}
use Rattle.ipld_tree.specs.Tree.{Tree}
use Rattle.ipld_tree.specs.Walk.{preorder, nest}
use Rattle.ipld_tokens.specs.Token.{TokenModel, atom, text, bytes, seq, seq_end, map, map_end}
use Rattle.dag_cbor_format.specs.Found.{links_among}
use Rattle.dag_cbor_format.specs.Trace.{Event, tokens_in}
use Rattle.dag_cbor_blocks.specs.declared.measure.Measurer.{Measurer}
use Rattle.dag_cbor_blocks.specs.declared.measure.BlockSize.{BlockSize}

-- the number of values that come with a token: a list or a map counts when it begins, a link when
-- its bytes come, and a key does not count
abbrev pub values_of : TokenModel → Bool → ℕ
values_of (atom (text s)) true = 0
values_of (atom a) key = 1
values_of (bytes b) key = 1
values_of seq key = 1
values_of map key = 1
values_of t key = 0

-- the number of values that come with events
abbrev pub values_in : List Event → ℕ
values_in [] = 0
values_in ((t, left, key) ∷ es) = values_of t key + values_in es

-- the number of open lists and maps after a token
abbrev pub depth_after : TokenModel → ℕ → ℕ
depth_after seq depth = depth + 1
depth_after map depth = depth + 1
depth_after seq_end depth = depth - 1
depth_after map_end depth = depth - 1
depth_after t depth = depth

-- the depth of the list or map that a token begins, or 0
abbrev pub depth_at : TokenModel → ℕ → ℕ
depth_at seq depth = depth + 1
depth_at map depth = depth + 1
depth_at t depth = 0

-- the greatest depth of the lists and maps that events begin, if `depth` of them are open before
abbrev pub deepest_in : ℕ → List Event → ℕ
deepest_in depth [] = 0
deepest_in depth ((t, left, key) ∷ es) = max (depth_at t depth) (deepest_in (depth_after t depth) es)

-- the size that a measurer has after these events
abbrev pub measured : Measurer → List Event → BlockSize
measured m es = record {
  levels = max m.levels (deepest_in m.depth es);
  values = m.values + values_in es;
  links = m.links + length (links_among (tokens_in es));
}

-- True if a measurer has counted one more value and has these numbers, or if an allocation failed.
abbrev pub Counts : ℕ → ℕ → ℕ → Measurer → Result (Unit {0}) AllocError → Measurer → Type 0
Counts depth levels links old (Ok u) new = new ≡ record { depth = depth; levels = levels; values = old.values + 1; links = links }
Counts depth levels links old (Err error) new = Unit {0}

-- True if `size` has the depth of the tree and the number of its values.
pub record Measures (t : Tree) (size : BlockSize) : Type 0 where
  pub levels : size.levels ≡ nest t
  pub values : size.values ≡ length (preorder t)
