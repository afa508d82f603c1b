-- The model of a count that takes no memory in the code.
use Rattle.std.specs.Prelude.{ℕ, suc}
use Rattle.ipld_tree.specs.declared.iterations.Count.{Count, None, After'}

-- the number of a count
abbrev pub count_of : Count → ℕ
count_of None = 0
count_of (After' p before) = suc (count_of before)
