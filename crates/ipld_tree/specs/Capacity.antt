-- The capacity that is reserved for a list.
use Rattle.std.specs.Prelude.{ℕ, min, Option, Some, None}

-- the capacity for a length hint: at most 4,096 values, and 0 without a hint
abbrev pub capacity_for : Option ℕ → ℕ
capacity_for None = 0
capacity_for (Some len) = min len 4096
