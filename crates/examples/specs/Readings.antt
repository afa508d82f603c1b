-- Readings as the tokens of a list.
use Rattle.std.specs.Prelude.{ℤ, List, [], ◌∷◌, ◌++◌, map}
use Rattle.ipld_tokens.specs.Token.{TokenModel, atom, integer, seq, seq_end}
use Rattle.examples.specs.declared.own_source.Readings.{Readings}
use Rattle.examples.specs.declared.own_source.NextToken.{NextToken}
use Rattle.examples.specs.declared.own_source.NextToken.TheVariants.{Begin, Item, Nothing}

abbrev pub token_of_reading : ℤ → TokenModel
token_of_reading n = atom (integer n)

-- the tokens of the items of a list and of its end
abbrev pub items_of_readings : List ℤ → List TokenModel
items_of_readings readings = map token_of_reading readings ++ seq_end ∷ []

-- the tokens of a list of readings
abbrev pub tokens_of_readings : List ℤ → List TokenModel
tokens_of_readings readings = seq ∷ items_of_readings readings

abbrev pub tokens_from : NextToken → List ℤ → List TokenModel
tokens_from Begin rest = tokens_of_readings rest
tokens_from Item rest = items_of_readings rest
tokens_from Nothing rest = []

-- the tokens that the source has left
abbrev pub tokens_left : Readings → List TokenModel
tokens_left source = tokens_from source.next source.rest.now
