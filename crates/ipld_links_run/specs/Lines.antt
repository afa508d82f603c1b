-- The lines of an input.
use Rattle.std.specs.Prelude.{◌≡◌, ◌==◌, ℕ, Bool, MatchBool, if◌then◌else◌, List, [], ◌∷◌, ◌++◌, Option, Some, IfSome, IsSome}
use Rattle.ipld_codec.specs.Codec.{IsReadOut}
use Rattle.ipld_links_run.specs.declared.lines.Part.{Part}
use Rattle.ipld_links_run.specs.declared.lines.Part.TheVariants.{Ended, Last}

-- the lines, with a byte before the first of them
abbrev pub onto_first : ℕ → List (List ℕ) → List (List ℕ)
onto_first byte [] = (byte ∷ []) ∷ []
onto_first byte (line ∷ rest) = (byte ∷ line) ∷ rest

-- The lines of an input without their line feeds. A line ends with a line feed, which the last may
-- lack.
unfoldable pub lines_of : List ℕ → List (List ℕ)
lines_of [] = []
lines_of (byte ∷ rest) = if byte == 10 then [] ∷ lines_of rest else onto_first byte (lines_of rest)

-- True if `line` is the next line and `left` the input after it, or if the input is empty and no
-- line was found.
abbrev pub TakesLine : List ℕ → Bool → List ℕ → Option (List ℕ) → Type 0
TakesLine input found line left =
    MatchBool found ((rest : List ℕ) × (left ≡ Some rest) × (lines_of input ≡ line ∷ lines_of rest)) ((input ≡ []) × (left ≡ Some []))

-- the lines, with bytes before the first of them
abbrev pub before_first : List ℕ → List (List ℕ) → List (List ℕ)
before_first [] lines = lines
before_first (byte ∷ bytes) lines = onto_first byte (before_first bytes lines)

-- the lines of the input after a part of a line; if the part ended its line, the rest of that line
-- is empty
abbrev pub lines_behind : Part → List ℕ → List (List ℕ)
lines_behind Ended rest = [] ∷ lines_of rest
lines_behind _ rest = lines_of rest

-- True if bytes of the first line of the input were taken and appended to `before`, and `left` is
-- the rest of the input. If the part is the last one, nothing is left.
pub record TakesPart (part : Part) (before line input : List ℕ) (left : Option (List ℕ)) : Type 0 where
  pub bytes : List ℕ
  pub rest : List ℕ
  pub line_is : line ≡ before ++ bytes
  pub left_is : left ≡ Some rest
  pub lines_are : lines_of input ≡ before_first bytes (lines_behind part rest)
  pub at_end : part ≡ Last → rest ≡ []

-- True if the bytes of a reader remain known after a buffer is taken. At the end of known bytes, no
-- bytes are left.
abbrev pub TakesBuffer : Bool → Option (List ℕ) → Option (List ℕ) → Type 0
TakesBuffer at_end old new = MatchBool at_end (IsReadOut old new) (IfSome old (λ _. IsSome new))
