-- The value at the end of a path (IPLD data model, pathing). The segments are strings, which are
-- looked up one after the other.
use Rattle.std.specs.Prelude.{ℕ, ◌==◌, nat_lt, List, [], ◌∷◌, length, filter, Option, Some, None, Result, Ok, Err, if◌then◌else◌}
use Rattle.std.specs.List.{onto_first}
use Rattle.ipld_tree.specs.Tree.{Tree}
use Rattle.ipld_tree.specs.Index.{LookupError, name_ref, found_at}

-- the parts of a path between its slashes
abbrev pub parts_of : List ℕ → List (List ℕ)
parts_of [] = [] ∷ []
parts_of (c ∷ cs) = if c == 47 then [] ∷ parts_of cs else onto_first c (parts_of cs)

-- The segments of a path: the parts between slashes that are not empty (The IPLD Data Model,
-- pathing; that empty segments are skipped is this project's own).
abbrev pub segments : List ℕ → List (List ℕ)
segments path = filter (λ part. nat_lt 0 (length part)) (parts_of path)

-- Returns the result of `next` for a tree that was found, and otherwise the earlier result.
abbrev pub then_in : (Tree → Result (Option Tree) LookupError) → Result (Option Tree) LookupError → Result (Option Tree) LookupError
then_in next (Err e) = Err e
then_in next (Ok None) = Ok None
then_in next (Ok (Some t)) = next t

-- The value after all the segments, which are looked up as strings. Without segments it is the tree
-- itself (The IPLD Data Model, pathing).
abbrev pub found_along : List (List ℕ) → Tree → Result (Option Tree) LookupError
found_along [] t = Ok (Some t)
found_along (s ∷ ss) t = then_in (found_along ss) (found_at t (name_ref s))
