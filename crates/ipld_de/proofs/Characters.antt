-- A string of exactly one character.
use Rattle.std.proofs.Common.{◌≡◌, ℕ, List, [], ◌∷◌, ◌++◌, length, chars, encode_utf8, slice_get, Option, Some, None, Result, append-nil, ok_or, refl, ap, sym, subst, ◌∙◌}
use Rattle.std.specs.Result.{IfOk}
use Rattle.std.specs.Str.{IsUtf8, encode_utf8_all}
use Rattle.std.proofs.lemmas.Str.{chars-nil, chars_past_char, encodes-chars}
use Rattle.ipld_ser.specs.Keys.{key_in, one_char as is_one_char}
use Rattle.ipld_ser.specs.declared.error.SerdeError.{SerdeError}
use Rattle.ipld_ser.specs.declared.error.SerdeError.TheVariants.{NotOneChar}
use Rattle.ipld_de.specs.Scalars.{only_char}

empty_text : (bs : List ℕ) → length bs ≡ 0 → bs ≡ []
empty_text [] is = refl
empty_text (b ∷ bs) is = cc

pub one_char : (bs rest : List ℕ) (c : ℕ) → IsUtf8 bs → bs ≡ encode_utf8 c ++ rest → length rest ≡ 0 → only_char (chars bs) ≡ Some c
one_char bs rest c utf8 is ended =
    ap only_char (chars_past_char bs rest c utf8 is ∙ ap (λ r. c ∷ chars r) (empty_text rest ended) ∙ ap (λ r. c ∷ r) chars-nil)

more : (c d : ℕ) (cs : List ℕ) → Some d ≡ slice_get cs 0 → only_char (c ∷ cs) ≡ None
more c d [] is = cc
more c d (e ∷ cs) is = refl

pub several_chars : (bs rest : List ℕ) (c d : ℕ) → IsUtf8 bs → bs ≡ encode_utf8 c ++ rest → Some d ≡ slice_get (chars rest) 0 → only_char (chars bs) ≡ None
several_chars bs rest c d utf8 is next = ap only_char (chars_past_char bs rest c utf8 is) ∙ more c d (chars rest) next

only_one : (cs : List ℕ) (c : ℕ) → only_char cs ≡ Some c → cs ≡ c ∷ []
only_one [] c is = absurd cc
only_one (d ∷ []) c is = cc
only_one (d ∷ e ∷ cs) c is = absurd cc

-- the character that a text is spells it
pub spelled : (bs : List ℕ) (c : ℕ) → IsUtf8 bs → only_char (chars bs) ≡ Some c → key_in is_one_char bs ≡ Some (encode_utf8 c)
spelled bs c utf8 is =
    let all : chars bs ≡ c ∷ [] = only_one (chars bs) c is in
    let whole : bs ≡ encode_utf8 c = sym (encodes-chars bs utf8) ∙ ap encode_utf8_all all ∙ append-nil (encode_utf8 c) in
    rw is (ap Some whole)

read_key : (s bs : List ℕ) (o : Option ℕ) (r : Result ℕ SerdeError) → IsUtf8 bs → bs ≡ s → only_char (chars bs) ≡ o → r ≡ ok_or o NotOneChar
    → IfOk r (λ k. key_in is_one_char s ≡ Some (encode_utf8 k))
read_key s bs None r utf8 same are is = subst (λ (q : Result ℕ SerdeError). IfOk q (λ k. key_in is_one_char s ≡ Some (encode_utf8 k))) (sym is) tt
read_key s bs (Some c) r utf8 same are is =
    subst (λ (q : Result ℕ SerdeError). IfOk q (λ k. key_in is_one_char s ≡ Some (encode_utf8 k))) (sym is) (ap (key_in is_one_char) (sym same) ∙ spelled bs c utf8 are)

-- the character that is read from a text is the key that is written as it
pub char_from_text : (s bs : List ℕ) (r : Result ℕ SerdeError) → IsUtf8 bs → bs ≡ s → r ≡ ok_or (only_char (chars bs)) NotOneChar
    → IfOk r (λ k. key_in is_one_char s ≡ Some (encode_utf8 k))
char_from_text s bs r utf8 same is = read_key s bs (only_char (chars bs)) r utf8 same refl is
