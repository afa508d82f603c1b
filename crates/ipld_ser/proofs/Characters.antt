-- A character as a key.
use Rattle.std.proofs.Common.{◌≡◌, ℕ, true, List, [], ◌∷◌, ◌++◌, chars, encode_utf8, Some, append-nil, refl, ap, sym, ◌∙◌}
use Rattle.std.proofs.lemmas.Str.{chars-encodes}
use Rattle.std.specs.Str.{all_scalars}
use Rattle.ipld_ser.specs.Keys.{key_in, one_char}

-- it is the one character of its bytes
pub char_key : (c : ℕ) (s : List ℕ) → all_scalars (c ∷ []) ≡ true → s ≡ encode_utf8 c → key_in one_char (encode_utf8 c) ≡ Some s
char_key c s scalar is =
    let one : chars (encode_utf8 c) ≡ c ∷ [] = ap chars (sym (append-nil (encode_utf8 c))) ∙ chars-encodes (c ∷ []) scalar in
    rw (one, is) refl

-- and so a key
pub char_own : (c : ℕ) → all_scalars (c ∷ []) ≡ true → one_char (encode_utf8 c) ≡ true
char_own c scalar =
    let one : chars (encode_utf8 c) ≡ c ∷ [] = ap chars (sym (append-nil (encode_utf8 c))) ∙ chars-encodes (c ∷ []) scalar in
    rw one refl
