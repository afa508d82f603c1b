-- The images of integers and characters (IPLD data model: Integer, String). A clause may use any
-- number, but only a value of the type has an image.
use Rattle.std.specs.Prelude.{ℕ, ℤ, List, pos, negsuc, ◌^◌, ◌-◌, nat_lt, [], ◌∷◌, Option, Some, None, if◌then◌else◌, encode_utf8}
use Rattle.std.specs.Str.{all_scalars}
use Rattle.ipld_tree.specs.Tree.{Tree, integer, text}

-- The image of an unsigned integer of `bits` bits, if it is in range
abbrev pub unsigned_image : ℕ → ℕ → Option Tree
unsigned_image bits n = if nat_lt n (2 ^ bits) then Some (integer (pos n)) else None

-- The image of a signed integer of `bits` bits, including the sign, if it is in range
abbrev pub signed_image : ℕ → ℤ → Option Tree
signed_image bits (pos n) = if nat_lt n (2 ^ (bits - 1)) then Some (integer (pos n)) else None
signed_image bits (negsuc n) = if nat_lt n (2 ^ (bits - 1)) then Some (integer (negsuc n)) else None

-- The image of a character: the string of its UTF-8 bytes, if it is a Unicode scalar value
abbrev pub char_image : ℕ → Option Tree
char_image c = if all_scalars (c ∷ []) then Some (text (encode_utf8 c)) else None

-- The character of a string that has exactly one
abbrev pub only_char : List ℕ → Option ℕ
only_char (c ∷ []) = Some c
only_char cs = None
