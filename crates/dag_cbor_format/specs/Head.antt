-- The head of a data item (RFC 8949, section 3): three bits of major type and five more bits. Below
-- 24 these are the argument, and otherwise they give the number of bytes of the argument that
-- follows, most significant first. DAG-CBOR has every argument in its shortest form, and no heads
-- except these.
use Rattle.std.specs.Prelude.{ℕ, ◌+◌, ◌*◌, ◌^◌, ◌<◌, nat_lt, if◌then◌else◌, List, [], ◌∷◌}
use Rattle.std.specs.Int.{w16, w32, w64, to_be_bytes}
use Rattle.dag_cbor_format.specs.declared.major.Major.{Major}
use Rattle.dag_cbor_format.specs.declared.major.Major.TheVariants.{Unsigned, Negative, Bytes, Text, List as Array, Map, Tag, Simple}

-- the number of a major type
abbrev pub number_of : Major → ℕ
number_of Unsigned = 0
number_of Negative = 1
number_of Bytes = 2
number_of Text = 3
number_of Array = 4
number_of Map = 5
number_of Tag = 6
number_of Simple = 7

-- the number that every argument of a major type is below: 64 bits, and for simple values those in
-- the first byte
abbrev pub limit_of : Major → ℕ
limit_of Simple = 24
limit_of _ = 2 ^ 64

abbrev pub IsArgument : Major → ℕ → Type 0
IsArgument major n = n < limit_of major

-- The head of an item: its major type, and its argument n in the shortest form, which is the
-- preferred serialization (RFC 8949, sections 3, 4.1 and 4.2.1).
unfoldable pub head : Major → ℕ → List ℕ
head major n =
    if nat_lt n 24 then (32 * number_of major + n) ∷ []
    else if nat_lt n (2 ^ 8) then (32 * number_of major + 24) ∷ n ∷ []
    else if nat_lt n (2 ^ 16) then (32 * number_of major + 25) ∷ to_be_bytes w16 n
    else if nat_lt n (2 ^ 32) then (32 * number_of major + 26) ∷ to_be_bytes w32 n
    else (32 * number_of major + 27) ∷ to_be_bytes w64 n
