-- The depth and the number of a block's values, counted token by token, and the place at which they
-- pass a limit.
use Rattle.std.specs.Prelude.{ℕ, ◌+◌, ◌-◌, nat_lt, if◌then◌else◌, Bool, true, false, List, [], ◌∷◌, length, Option, Some, None}
use Rattle.ipld_tree.specs.declared.limits.Limits.{Limits}
use Rattle.ipld_tokens.specs.Token.{TokenModel, atom, bytes, some, variant, link, seq, seq_end, map, map_end}
use Rattle.dag_cbor_format.specs.Reading.{of_block}
use Rattle.dag_cbor_format.specs.Trace.{Event, trace_of}

-- the kind of an open level: a list or a map
pub data OpenKind : Type 0 where
  in_list : OpenKind
  in_map : OpenKind

-- the open lists and maps, innermost first, whether a value has to come (as after a key), and the
-- number of values so far
pub record Counts : Type 0 where
  pub kinds : List OpenKind
  pub due : Bool
  pub values : ℕ

abbrev pub counts : List OpenKind → Bool → ℕ → Counts
counts kinds due values = record { kinds = kinds; due = due; values = values }

-- the counts at the start of a block
abbrev pub start : Counts
start = counts [] true 0

-- whether the innermost level is a map and no value is due in it
abbrev pub at_key : List OpenKind → Bool → Bool
at_key [] due = false
at_key (in_list ∷ kinds) due = false
at_key (in_map ∷ kinds) true = false
at_key (in_map ∷ kinds) false = true

abbrev pub outside : List OpenKind → List OpenKind
outside [] = []
outside (kind ∷ kinds) = kinds

-- the counts after a scalar, which counts as a value unless it is a key
abbrev pub after_atom : Bool → Counts → Counts
after_atom true c = counts c.kinds true c.values
after_atom false c = counts c.kinds false (c.values + 1)

-- the counts after a token: a list or a map counts when it begins, and a link when its bytes come
abbrev pub next : Counts → TokenModel → Counts
next c (atom a) = after_atom (at_key c.kinds c.due) c
next c (bytes b) = counts c.kinds false (c.values + 1)
next c some = counts c.kinds true c.values
next c (variant name) = counts c.kinds true c.values
next c link = counts c.kinds true c.values
next c seq = counts (in_list ∷ c.kinds) false (c.values + 1)
next c seq_end = counts (outside c.kinds) false c.values
next c map = counts (in_map ∷ c.kinds) false (c.values + 1)
next c map_end = counts (outside c.kinds) false c.values

-- the limit that was passed
pub data Excess : Type 0 where
  too_deep : Excess
  too_many : Excess

-- the limit that is passed, if any: that on open lists and maps first, and then that on values
abbrev pub beyond : Limits → ℕ → ℕ → Option Excess
beyond limits levels values =
    if nat_lt limits.levels levels then Some too_deep else if nat_lt limits.values values then Some too_many else None

abbrev pub earlier : {A : Type 0} → Option A → Option A → Option A
earlier None later = later
earlier (Some excess) later = Some excess

-- the first limit that is passed while these tokens come
abbrev pub excess : Limits → Counts → List TokenModel → Option Excess
excess limits c [] = beyond limits (length c.kinds) c.values
excess limits c (t ∷ ts) = earlier (beyond limits (length c.kinds) c.values) (excess limits (next c t) ts)

-- the first limit that the bytes pass, read as a block until their end or their first error
unfoldable pub excess_of_block : Limits → List ℕ → Option Excess
excess_of_block limits block = excess limits start (of_block block).tokens

-- ---- with floats or without, and with a place

-- a limit, and the number of bytes left at the start of the item that passes it
abbrev pub Passed : Type 0
Passed = Excess × ℕ

-- the limit that is passed, if any, with the number of bytes left there
abbrev pub passed_at : ℕ → Option Excess → Option Passed
passed_at left None = None
passed_at left (Some excess) = Some (excess, left)

-- The first limit that is passed while these events come. At the start of the event before them
-- `from` bytes are left, and after it `left` bytes.
abbrev pub passed : Limits → Counts → ℕ → ℕ → List Event → Option Passed
passed limits c from left [] = passed_at from (beyond limits (length c.kinds) c.values)
passed limits c from left ((t, behind, key) ∷ es) = earlier (passed_at from (beyond limits (length c.kinds) c.values)) (passed limits (next c t) left behind es)

-- the limit that is passed, if any, with its offset in a block of `size` bytes
abbrev pub with_offset : ℕ → Option Passed → Option Passed
with_offset size None = None
with_offset size (Some (excess, left)) = Some (excess, size - left)

-- The first limit that the bytes pass, read as a block until their end or their first error, and
-- the offset of the item that passes it. For a link that is the offset of the byte string after its
-- tag.
unfoldable pub limit_passed : Bool → Limits → List ℕ → Option Passed
limit_passed floats limits block = with_offset (length block) (passed limits start (length block) (length block) (trace_of floats block).events)
