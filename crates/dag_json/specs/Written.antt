-- The text that is written for a tree.
use Rattle.std.specs.Prelude.{ℕ, if◌then◌else◌, List, Option, Some, None}
use Rattle.ipld_tree.specs.Tree.{Tree}
use Rattle.ipld_tree.specs.Walk.{preorder}
use Rattle.dag_json.specs.Form.{text_of}
use Rattle.dag_json.specs.Reserved.{has_reserved, first_reserved, Counts}
use Rattle.dag_json.specs.declared.error.DagJsonError.{DagJsonError}
use Rattle.dag_json.specs.declared.error.DagJsonError.TheVariants.{Reserved}

-- The text of a tree, or nothing if the tree or a map in it is reserved.
abbrev pub written : Tree → Option (List ℕ)
written t = if has_reserved t then None else Some (text_of t)

-- True if the error reports the number of values before the first reserved map, or `usize::MAX` if
-- there are more.
abbrev pub IsReserved : Tree → DagJsonError → Type 0
IsReserved t (Reserved place) = Counts (first_reserved (preorder t)) (Some place)
IsReserved t _ = ⊥
