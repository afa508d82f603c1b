-- The word that a program's arguments name.
use Rattle.std.specs.Prelude.{ℕ, List, [], ◌∷◌, codes, map, string_bytes, Result, Ok, Err}
use Rattle.std.specs.Vec.Iter.{into_iter_items}
use Rattle.std.specs.declared.alloc.Global.{Global}
use Rattle.std.specs.declared.string.String.{String}
use Rattle.std.specs.declared.vec.IntoIter.{IntoIter}
use Rattle.std.specs.declared.io.Error.{Error}

-- The word that a program runs, by its arguments with its own name first. It is `cid` if no
-- argument follows the name, and otherwise the one argument. Several arguments name the empty word,
-- which is not a word of the program.
abbrev pub word_of : List (List ℕ) → List ℕ
word_of [] = codes "cid"
word_of (program ∷ []) = codes "cid"
word_of (program ∷ word ∷ []) = word
word_of (program ∷ word ∷ other ∷ rest) = []

-- the word by the result of asking for the arguments; if that fails, for example for an argument
-- that is not UTF-8, it is the empty word
abbrev pub word_in : Result (IntoIter (String Global) Global) Error → List ℕ
word_in (Ok arguments) = word_of (map string_bytes (into_iter_items arguments))
word_in (Err error) = []
