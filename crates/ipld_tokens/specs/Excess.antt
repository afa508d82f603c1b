-- This file defines the first token of a tree beyond a limit: it opens a list or a map too deep, or
-- begins a value too many.
use Rattle.std.specs.Prelude.{ℕ, suc, nat_lt, if◌then◌else◌, List, [], ◌∷◌, length, Option, Some, None}
use Rattle.ipld_tree.specs.declared.limits.Limits.{Limits}
use Rattle.ipld_tokens.specs.Token.{TokenModel, atom, bytes, some, variant, link, seq, seq_end, map, map_end}

-- a limit that is exceeded
pub data Excess : Type 0 where
  too_deep : Excess
  too_many : Excess

-- the kind of an open container: a list, a map before a key or its end, or a map after a key
pub data OpenKind : Type 0 where
  in_list : OpenKind
  in_key : OpenKind
  in_value : OpenKind

-- the containers that tokens have opened, innermost first, and the number of values that they began
pub data Position : Type 0 where
  -- a part that the innermost container takes may come: a value or the end in a list, a key or the
  -- end in a map, or the value of a key. Without a container, a value may come.
  open_at : List OpenKind → ℕ → Position
  -- a value must come
  wanted : List OpenKind → ℕ → Position
  -- the bytes of a link must come
  marked : List OpenKind → ℕ → Position

abbrev pub start : Position
start = wanted [] 0

-- the open containers after a complete value
abbrev pub completed : List OpenKind → List OpenKind
completed [] = []
completed (in_list ∷ os) = in_list ∷ os
completed (in_key ∷ os) = in_key ∷ os
completed (in_value ∷ os) = in_key ∷ os

-- the open containers after the end of the innermost list or map
abbrev pub closed : List OpenKind → List OpenKind
closed [] = []
closed (o ∷ os) = completed os

-- the position after a token, if a value must come
abbrev pub after_value : List OpenKind → ℕ → TokenModel → Position
after_value os n (atom a) = open_at (completed os) (suc n)
after_value os n (bytes b) = open_at (completed os) (suc n)
after_value os n some = wanted os n
after_value os n (variant name) = wanted os n
after_value os n link = marked os (suc n)
after_value os n seq = open_at (in_list ∷ os) (suc n)
after_value os n seq_end = open_at (closed os) n
after_value os n map = open_at (in_key ∷ os) (suc n)
after_value os n map_end = open_at (closed os) n

-- the position after a token, if a key or the end of the map must come
abbrev pub after_key : List OpenKind → ℕ → TokenModel → Position
after_key os n map_end = open_at (completed os) n
after_key os n t = open_at (in_value ∷ os) n

abbrev pub after_open : List OpenKind → ℕ → TokenModel → Position
after_open [] n t = after_value [] n t
after_open (in_list ∷ os) n t = after_value (in_list ∷ os) n t
after_open (in_key ∷ os) n t = after_key os n t
after_open (in_value ∷ os) n t = after_value (in_value ∷ os) n t

abbrev pub after : Position → TokenModel → Position
after (open_at os n) t = after_open os n t
after (wanted os n) t = after_value os n t
after (marked os n) t = open_at (completed os) n

-- the limit that another value exceeds, if `n` values have begun
abbrev pub excess_of_value : Limits → ℕ → Option Excess
excess_of_value limits n = if nat_lt n limits.values then None else Some too_many

-- the limit that another list or map exceeds, if `n` values have begun (the depth, if both)
abbrev pub excess_of_container : Limits → List OpenKind → ℕ → Option Excess
excess_of_container limits os n = if nat_lt (length os) limits.levels then excess_of_value limits n else Some too_deep

-- the limit that a token exceeds, if a value must come. Every token begins a value, except the mark
-- of an option or a variant, and an end.
abbrev pub value_excess : Limits → List OpenKind → ℕ → TokenModel → Option Excess
value_excess limits os n (atom a) = excess_of_value limits n
value_excess limits os n (bytes b) = excess_of_value limits n
value_excess limits os n some = None
value_excess limits os n (variant name) = None
value_excess limits os n link = excess_of_value limits n
value_excess limits os n seq = excess_of_container limits os n
value_excess limits os n seq_end = None
value_excess limits os n map = excess_of_container limits os n
value_excess limits os n map_end = None

abbrev pub open_excess : Limits → List OpenKind → ℕ → TokenModel → Option Excess
open_excess limits [] n t = value_excess limits [] n t
open_excess limits (in_list ∷ os) n t = value_excess limits (in_list ∷ os) n t
open_excess limits (in_key ∷ os) n t = None
open_excess limits (in_value ∷ os) n t = value_excess limits (in_value ∷ os) n t

-- the limit that a token exceeds, if it exceeds one
abbrev pub token_excess : Limits → Position → TokenModel → Option Excess
token_excess limits (open_at os n) t = open_excess limits os n t
token_excess limits (wanted os n) t = value_excess limits os n t
token_excess limits (marked os n) t = None

abbrev pub or_later : Option Excess → Option Excess → Option Excess
or_later None later = later
or_later (Some e) later = Some e

-- the limit that the first token beyond a limit exceeds, if there is such a token
abbrev pub excess : Limits → Position → List TokenModel → Option Excess
excess limits p [] = None
excess limits p (t ∷ ts) = or_later (token_excess limits p t) (excess limits (after p t) ts)
