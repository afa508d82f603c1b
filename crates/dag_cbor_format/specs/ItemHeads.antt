-- The beginnings of items in bytes (RFC 8949, section 3, and the DAG-CBOR specification), and the
-- errors of bytes that do not begin with an item.
use Rattle.std.specs.Prelude.{◌≡◌, ◌⊎◌, ℕ, pos, negsuc, suc, ◌^◌, ◌<◌, ◌≤◌, true, false, List, ◌∷◌, ◌++◌, length, Some, None, Result, Ok, Err}
use Rattle.std.specs.Int.{w64, from_be_bytes}
use Rattle.std.specs.Str.{IsUtf8}
use Rattle.std.specs.Borrow.{Bor}
use Rattle.dag_cbor_format.specs.declared.error.CborError.{CborError}
use Rattle.dag_cbor_format.specs.declared.major.Major.{Major}
use Rattle.dag_cbor_format.specs.declared.major.Major.TheVariants.{Unsigned, Negative, Bytes, Text, List as Array, Map, Tag, Simple}
use Rattle.dag_cbor_format.specs.Head.{head, IsArgument}
use Rattle.dag_cbor_format.specs.ItemHeader.{link, front, item_header_after, key_at}
use Rattle.dag_cbor_format.specs.Errors.{item_error, key_error, link_error}
use Rattle.dag_cbor_format.specs.Floats.{is_finite, if_finite, error_of_float, beginning_at, beginning_error}
use Rattle.dag_cbor_format.specs.LinkBytes.{link_bytes_at}
use Rattle.dag_cbor_format.specs.declared.item.ItemHead.{ItemHead}
use Rattle.dag_cbor_format.specs.declared.item.ItemHead.TheVariants as begin

-- True if `bytes` are the eight bytes of a finite float with these bits, most significant first,
-- and then `rest`.
abbrev pub BeginsWithFloat : ℕ → List ℕ → List ℕ → Type 0
BeginsWithFloat bits bytes rest =
    (content : List ℕ) × (length content ≡ 8) × (is_finite content ≡ true) × (bits ≡ from_be_bytes w64 content) × (bytes ≡ content ++ rest)

-- True if `bytes` are the text string `s` and then `rest`. A key is such a string.
abbrev pub BeginsWithKey : List ℕ → List ℕ → List ℕ → Type 0
BeginsWithKey s bytes rest = IsUtf8 s × (length s < 2 ^ 64) × (bytes ≡ head Text (length s) ++ (s ++ rest))

-- True if `bytes` are this item, or the head of this list or map, and then `rest`.
abbrev pub BeginsWith : ItemHead → List ℕ → List ℕ → Type 0
BeginsWith begin.Null bytes rest = bytes ≡ head Simple 22 ++ rest
BeginsWith (begin.Bool false) bytes rest = bytes ≡ head Simple 20 ++ rest
BeginsWith (begin.Bool true) bytes rest = bytes ≡ head Simple 21 ++ rest
BeginsWith (begin.Integer (pos n)) bytes rest = (n < 2 ^ 64) × (bytes ≡ head Unsigned n ++ rest)
BeginsWith (begin.Integer (negsuc n)) bytes rest = (n < 2 ^ 64) × (bytes ≡ head Negative n ++ rest)
BeginsWith (begin.Float bits) bytes rest = (content : List ℕ) × (bytes ≡ 251 ∷ content) × BeginsWithFloat bits content rest
BeginsWith (begin.Str s) bytes rest = BeginsWithKey s.now bytes rest
BeginsWith (begin.Bytes b) bytes rest = (length b.now < 2 ^ 64) × (bytes ≡ head Bytes (length b.now) ++ (b.now ++ rest))
BeginsWith (begin.Link b) bytes rest = (suc (length b.now) < 2 ^ 64) × (bytes ≡ head Tag 42 ++ (head Bytes (suc (length b.now)) ++ 0 ∷ (b.now ++ rest)))
BeginsWith (begin.List n) bytes rest = (n < 2 ^ 64) × (bytes ≡ head Array n ++ rest)
BeginsWith (begin.Map n) bytes rest = (n < 2 ^ 64) × (bytes ≡ head Map n ++ rest)

-- True if `bytes`, which follow the head of a float, do not begin with the eight bytes of a finite
-- float, and `error` is the error.
abbrev pub RejectsFloat : CborError → List ℕ → Type 0
RejectsFloat error bytes = (if_finite (front 8 bytes) ≡ None) × (error ≡ error_of_float (front 8 bytes))

-- True if `bytes` do not begin with an item or a head of one, with floats, and `error` is the
-- error. Also true if they begin with the tag of a link, the byte string of a link does not follow,
-- and `error` is the error after the tag.
abbrev pub RejectsItem : CborError → List ℕ → Type 0
RejectsItem error bytes =
    ((beginning_at true bytes ≡ None) × (error ≡ beginning_error true bytes))
    ⊎ ((rest : List ℕ) × (beginning_at true bytes ≡ Some (link, rest)) × (link_bytes_at rest ≡ None) × (error ≡ link_error rest))

-- True if `result` is the reading after a head with this major type and argument, which `more`
-- follows. A value and its rest: all bytes that are the head and then `more` begin with this item,
-- and `rest` is at most as long as `more`. An error: the error after the head, or after the tag of
-- a link.
abbrev pub Continues : Major → ℕ → List ℕ → Result (ItemHead × Bor (List ℕ)) CborError → Type 0
Continues major n more (Ok (h, rest)) = (length rest.now ≤ length more) × ((bytes : List ℕ) → IsArgument major n → bytes ≡ head major n ++ more → BeginsWith h bytes rest.now)
Continues major n more (Err error) =
    ((item_header_after major n more ≡ None) × (error ≡ item_error major n more))
    ⊎ ((item_header_after major n more ≡ Some (link, more)) × (link_bytes_at more ≡ None) × (error ≡ link_error more))

-- True if `bytes` do not begin with a key, and `error` is the error.
abbrev pub RejectsKey : CborError → List ℕ → Type 0
RejectsKey error bytes = (key_at bytes ≡ None) × (error ≡ key_error bytes)
