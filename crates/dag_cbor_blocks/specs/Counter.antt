-- The counts that the counter of a block's parts keeps.
use Rattle.std.specs.Prelude.{◌≡◌, ◌+◌, ◌-◌, ◌<◌, ◌^◌, ℕ, Result, Ok, Err}
use Rattle.dag_cbor_blocks.specs.declared.block_error.BlockErrorKind.{BlockErrorKind}
use Rattle.dag_cbor_blocks.specs.declared.block_error.BlockErrorKind.TheVariants.{TooDeep, TooMany}
use Rattle.dag_cbor_blocks.specs.declared.counter.Counter.{Counter}
use Rattle.dag_cbor_blocks.specs.declared.counter.PartKind.{PartKind}
use Rattle.dag_cbor_blocks.specs.declared.counter.PartKind.TheVariants.{Scalar, Beginning, End, Nothing}

-- the number of open lists and maps after a part
abbrev pub levels_after : PartKind → ℕ → ℕ
levels_after Scalar n = n
levels_after Beginning n = n + 1
levels_after End n = n - 1
levels_after Nothing n = n

-- the number of values after a part
abbrev pub values_after : PartKind → ℕ → ℕ
values_after Scalar n = n + 1
values_after Beginning n = n + 1
values_after End n = n
values_after Nothing n = n

-- True if a list or a map is open before an end.
abbrev pub Ends : PartKind → ℕ → Type 0
Ends End n = 0 < n
Ends _ n = Unit {0}

-- the number of lists and maps that may still be opened after a part
abbrev pub levels_left : PartKind → ℕ → ℕ
levels_left Scalar n = n
levels_left Beginning n = n - 1
levels_left End n = n + 1
levels_left Nothing n = n

-- the number of values that may still come after a part
abbrev pub values_left : PartKind → ℕ → ℕ
values_left Scalar n = n - 1
values_left Beginning n = n - 1
values_left End n = n
values_left Nothing n = n

-- True if the number of lists and maps that may still be opened has 64 bits after an end.
abbrev pub Closes : PartKind → ℕ → Type 0
Closes End n = n + 1 < 2 ^ 64
Closes _ n = Unit {0}

-- True if the limits leave room for a part.
abbrev pub Fits : PartKind → Counter → Type 0
Fits Scalar c = 0 < c.values
Fits Beginning c = (0 < c.levels) × (0 < c.values)
Fits _ c = Unit {0}

-- True if the limits leave no room for a part, and `error` is the limit that is passed. The limit
-- on levels comes first.
abbrev pub Exceeds : PartKind → Counter → BlockErrorKind → Type 0
Exceeds Scalar c TooMany = c.values ≡ 0
Exceeds Beginning c TooDeep = c.levels ≡ 0
Exceeds Beginning c TooMany = (0 < c.levels) × (c.values ≡ 0)
Exceeds _ c error = ⊥

-- True if a value was counted, or if the error is `TooMany` and no value may come.
abbrev pub CountsValue : Counter → Result (Unit {0}) BlockErrorKind → Counter → Type 0
CountsValue old (Ok done) new = (new ≡ record old { values = old.values - 1 }) × (0 < old.values)
CountsValue old (Err error) new = (error ≡ TooMany) × (old.values ≡ 0)

-- True if a part was counted, or if the error is the limit that it passes.
abbrev pub CountsPart : PartKind → Counter → Result (Unit {0}) BlockErrorKind → Counter → Type 0
CountsPart part old (Ok done) new = (new ≡ record { levels = levels_left part old.levels; values = values_left part old.values }) × Fits part old
CountsPart part old (Err error) new = Exceeds part old error
