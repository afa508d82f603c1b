-- The names and the sentences of the errors.
use Rattle.std.specs.Prelude.{ℕ, List, codes}
use Rattle.pb_wire.specs.declared.error.WireError.{WireError}
use Rattle.pb_wire.specs.declared.error.WireError.TheVariants.{End, VarintTooLarge}

-- the name of an error
abbrev pub name_of : WireError → List ℕ
name_of End = codes "End"
name_of VarintTooLarge = codes "VarintTooLarge"

-- the sentence of an error
abbrev pub sentence_of : WireError → List ℕ
sentence_of End = codes "the bytes end within a field"
sentence_of VarintTooLarge = codes "a varint has more than ten bytes, or encodes a number of 2^64 or more"
