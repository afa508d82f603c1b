-- The names of entries (UnixFS specification).
use Rattle.std.specs.Prelude.{ℕ, ◌+◌, ◌-◌, ◌*◌, ◌/◌, ◌%◌, ◌==◌, Bool, not, ◌&&◌, ◌||◌, nat_lt, if◌then◌else◌, List, [], ◌∷◌, Option, Some, None, option_and_then, option_map, bytes_eq, codes, drop}
use Rattle.std.specs.List.{list_any}
use Rattle.std.specs.Cmp.Lexicographic.{slice_cmp}
use Rattle.std.specs.Ordering.{nat_cmp, is_lt}

-- whether a file system has a meaning of its own for the name: it is empty, `.` or `..`
unfoldable pub is_reserved : List ℕ → Bool
is_reserved name = bytes_eq name [] || (bytes_eq name (codes ".") || bytes_eq name (codes ".."))

-- Whether this may be the name of an entry: it is not empty, `.` or `..`, and has no `/` (47) and no
-- NUL.
unfoldable pub is_entry_name : List ℕ → Bool
is_entry_name name = not (is_reserved name) && not (list_any (λ b. b == 47 || b == 0) name)

-- whether the first name is less than the second, byte by byte
unfoldable pub comes_before : List ℕ → List ℕ → Bool
comes_before name other = is_lt (slice_cmp nat_cmp name other)

-- ---- the names of links in a shard

-- the upper-case hexadecimal digit of a number below 16
abbrev pub digit : ℕ → ℕ
digit n = if nat_lt n 10 then 48 + n else 55 + n

-- the two digits of a slot
unfoldable pub digits : ℕ → List ℕ
digits slot = digit (slot / 16) ∷ digit (slot % 16) ∷ []

-- the number of an upper-case hexadecimal digit
unfoldable pub digit_value : ℕ → Option ℕ
digit_value b =
    if nat_lt b 48 then None
    else if nat_lt b 58 then Some (b - 48)
    else if nat_lt b 65 then None
    else if nat_lt b 71 then Some (b - 55)
    else None

-- the number of two digits
unfoldable pub digits_value : ℕ → ℕ → Option ℕ
digits_value a b = option_and_then (λ high. option_map (λ low. 16 * high + low) (digit_value b)) (digit_value a)

-- a name without its first two bytes
abbrev pub after_digits : List ℕ → List ℕ
after_digits name = drop 2 name

-- the slot with which a name begins
unfoldable pub slot_in : List ℕ → Option ℕ
slot_in [] = None
slot_in (a ∷ []) = None
slot_in (a ∷ b ∷ rest) = digits_value a b
