-- The number of times that a link appears among links.
use Rattle.std.specs.Prelude.{◌≡◌, ℕ, ◌+◌, Bool, true, false, List, [], ◌∷◌}
use Rattle.ipld_cid.specs.Cid.{Link}
use Rattle.ipld_cid.specs.Order.{link_eq}

abbrev pub one_if : Bool → ℕ
one_if true = 1
one_if false = 0

abbrev pub times : Link → List Link → ℕ
times cid [] = 0
times cid (l ∷ ls) = one_if (link_eq cid l) + times cid ls

-- True if every link appears the same number of times in both lists.
abbrev pub AsOften : List Link → List Link → Type 0
AsOften some others = (cid : Link) → times cid some ≡ times cid others
