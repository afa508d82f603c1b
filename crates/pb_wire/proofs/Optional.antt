-- Fields that may be left out: what is read is encoded, and what is encoded is read.
use Rattle.std.proofs.Common.{◌≡◌, ℕ, ◌+◌, ◌*◌, ◌<◌, ◌≤◌, ◌^◌, List, [], ◌++◌, Option, Some, None, Result, Ok, inl, inr, refl, sym, ap, subst, ◌∙◌, arith, append_assoc}
use Rattle.std.specs.Prelude.{◌⊎◌, IfSome}
use Rattle.std.specs.Int.{w32, to_le_bytes, from_le_bytes}
use Rattle.std.proofs.lemmas.Nat.{from_le_bytes-to_le_bytes_4, le_bytes_4}
use Rattle.ipld_cid.specs.Multihash.{IsBytes}
use Rattle.pb_wire.specs.declared.error.WireError.{WireError}
use Rattle.pb_wire.specs.Steps.{◌>>=◌}
use Rattle.pb_wire.specs.Wire.{IsVarint, IsNumber, IsContent, IsFixed32, IsNumberOf, IsContentOf, IsFixed32Of}
use Rattle.pb_wire.specs.Reading.{read_varint, split, read_content, read_fixed32, after_key, value_after, number_field, content_field, fixed32_field}
use Rattle.pb_wire.proofs.Steps.{bind_ok, same_ok}
use Rattle.pb_wire.proofs.Varints.{Front, varint_sound, varint_complete}
use Rattle.pb_wire.proofs.Fields.{fits_left, fits_right, content_sound, content_complete, key_sound, key_complete, key_other, content_front, content_opened, split_sound, split_complete}

-- ---- a number

number_found : (field : ℕ) (bytes : List ℕ) (found : Option (List ℕ)) (o : Option ℕ) (rest : List ℕ) → IsBytes bytes → after_key (8 * field + 0) bytes ≡ Ok found
    → value_after read_varint bytes found ≡ Ok (o, rest) → Front (IsNumberOf field o) bytes rest
number_found field bytes None o rest whole key e =
    same_ok (λ (p : Option ℕ × List ℕ). Front (IsNumberOf field p.0) bytes p.1) (None, bytes) (o, rest) e
    (record { taken = []; is = refl; parts = refl; rest_fits = whole })
number_found field bytes (Some after) o rest whole key e =
    let front = key_sound (8 * field + 0) bytes after whole key in
    let found = bind_ok (read_varint after) (λ found. Ok (Some found.0, found.1)) (o, rest) e in
    let value = varint_sound found.0.0 after found.0.1 front.rest_fits found.1 in
    same_ok (λ (p : Option ℕ × List ℕ). Front (IsNumberOf field p.0) bytes p.1) (Some found.0.0, found.0.1) (o, rest) found.2
    (record {
      taken = front.taken ++ value.taken;
      is = record { key = front.taken; value = value.taken; key_encoded = front.is; value_encoded = value.is; encoded = refl };
      parts = front.parts ∙ ap (λ (x : List ℕ). front.taken ++ x) value.parts ∙ sym (simp append_assoc);
      rest_fits = value.rest_fits;
    })

pub number_sound : (field : ℕ) (bytes : List ℕ) (o : Option ℕ) (rest : List ℕ) → IsBytes bytes → number_field (8 * field + 0) bytes ≡ Ok (o, rest) → Front (IsNumberOf field o) bytes rest
unfolding number_field
number_sound field bytes o rest whole e =
    let found = bind_ok (after_key (8 * field + 0) bytes) (value_after read_varint bytes) (o, rest) e in
    number_found field bytes found.0 o rest whole found.1 found.2

-- the field of a number, its key apart
pub number_opened : (field n : ℕ) (taken rest : List ℕ) (is : IsNumber field n taken) → taken ++ rest ≡ is.key ++ (is.value ++ rest)
number_opened field n taken rest is = ap (λ (x : List ℕ). x ++ rest) is.encoded ∙ simp append_assoc

pub number_complete : (field : ℕ) (o : Option ℕ) (taken rest : List ℕ) → IsNumberOf field o taken → after_key (8 * field + 0) rest ≡ Ok None
    → number_field (8 * field + 0) (taken ++ rest) ≡ Ok (o, rest)
unfolding number_field
number_complete field None taken rest is none =
    ap (λ (x : List ℕ). after_key (8 * field + 0) (x ++ rest) >>= value_after read_varint (x ++ rest)) is
    ∙ ap (λ (r : Result (Option (List ℕ)) WireError). r >>= value_after read_varint rest) none
number_complete field (Some n) taken rest is none =
    ap (λ (x : List ℕ). after_key (8 * field + 0) x >>= value_after read_varint x) (number_opened field n taken rest is)
    ∙ ap (λ (r : Result (Option (List ℕ)) WireError). r >>= value_after read_varint (is.key ++ (is.value ++ rest))) (key_complete (8 * field + 0) is.key (is.value ++ rest) is.key_encoded)
    ∙ ap (λ (r : Result (ℕ × List ℕ) WireError). r >>= λ found. Ok (Some found.0, found.1)) (varint_complete n is.value rest is.value_encoded)

-- ---- a content

-- a content that may be left out, at the front
pub record ContentOfFront (field : ℕ) (o : Option (List ℕ)) (bytes rest : List ℕ) : Type 0 where
  pub taken : List ℕ
  pub is : IsContentOf field o taken
  pub parts : bytes ≡ taken ++ rest
  pub content_fits : IfSome o IsBytes
  pub rest_fits : IsBytes rest

content_found : (field : ℕ) (bytes : List ℕ) (found : Option (List ℕ)) (o : Option (List ℕ)) (rest : List ℕ) → IsBytes bytes → after_key (8 * field + 2) bytes ≡ Ok found
    → value_after read_content bytes found ≡ Ok (o, rest) → ContentOfFront field o bytes rest
content_found field bytes None o rest whole key e =
    same_ok (λ (p : Option (List ℕ) × List ℕ). ContentOfFront field p.0 bytes p.1) (None, bytes) (o, rest) e
    (record { taken = []; is = refl; parts = refl; content_fits = tt; rest_fits = whole })
content_found field bytes (Some after) o rest whole key e =
    let front = key_sound (8 * field + 2) bytes after whole key in
    let found = bind_ok (read_content after) (λ found. Ok (Some found.0, found.1)) (o, rest) e in
    let sized = content_sound after found.0.0 found.0.1 front.rest_fits found.1 in
    let here = content_front field bytes after found.0.0 found.0.1 front sized in
    same_ok (λ (p : Option (List ℕ) × List ℕ). ContentOfFront field p.0 bytes p.1) (Some found.0.0, found.0.1) (o, rest) found.2
    (record { taken = here.taken; is = here.is; parts = here.parts; content_fits = here.content_fits; rest_fits = here.rest_fits })

pub content_field_sound : (field : ℕ) (bytes : List ℕ) (o : Option (List ℕ)) (rest : List ℕ) → IsBytes bytes → content_field (8 * field + 2) bytes ≡ Ok (o, rest)
    → ContentOfFront field o bytes rest
unfolding content_field
content_field_sound field bytes o rest whole e =
    let found = bind_ok (after_key (8 * field + 2) bytes) (value_after read_content bytes) (o, rest) e in
    content_found field bytes found.0 o rest whole found.1 found.2

pub content_field_complete : (field : ℕ) (o : Option (List ℕ)) (taken rest : List ℕ) → IsContentOf field o taken → after_key (8 * field + 2) rest ≡ Ok None
    → content_field (8 * field + 2) (taken ++ rest) ≡ Ok (o, rest)
unfolding content_field
content_field_complete field None taken rest is none =
    ap (λ (x : List ℕ). after_key (8 * field + 2) (x ++ rest) >>= value_after read_content (x ++ rest)) is
    ∙ ap (λ (r : Result (Option (List ℕ)) WireError). r >>= value_after read_content rest) none
content_field_complete field (Some c) taken rest is none =
    ap (λ (x : List ℕ). after_key (8 * field + 2) x >>= value_after read_content x) (content_opened field c taken rest is)
    ∙ ap (λ (r : Result (Option (List ℕ)) WireError). r >>= value_after read_content (is.key ++ (is.size ++ (c ++ rest)))) (key_complete (8 * field + 2) is.key (is.size ++ (c ++ rest)) is.key_encoded)
    ∙ ap (λ (r : Result (List ℕ × List ℕ) WireError). r >>= λ found. Ok (Some found.0, found.1)) (content_complete c is.size rest is.size_encoded)

-- a content that is there, whatever follows it
pub content_there : (field : ℕ) (c taken rest : List ℕ) → IsContent field c taken → content_field (8 * field + 2) (taken ++ rest) ≡ Ok (Some c, rest)
unfolding content_field
content_there field c taken rest is =
    ap (λ (x : List ℕ). after_key (8 * field + 2) x >>= value_after read_content x) (content_opened field c taken rest is)
    ∙ ap (λ (r : Result (Option (List ℕ)) WireError). r >>= value_after read_content (is.key ++ (is.size ++ (c ++ rest)))) (key_complete (8 * field + 2) is.key (is.size ++ (c ++ rest)) is.key_encoded)
    ∙ ap (λ (r : Result (List ℕ × List ℕ) WireError). r >>= λ found. Ok (Some found.0, found.1)) (content_complete c is.size rest is.size_encoded)

-- ---- a number of four bytes

fixed32_value_sound : (n : ℕ) (bytes rest : List ℕ) → IsBytes bytes → read_fixed32 bytes ≡ Ok (n, rest) → (n < 2 ^ 32) × (bytes ≡ to_le_bytes w32 n ++ rest) × IsBytes rest
unfolding read_fixed32
fixed32_value_sound n bytes rest whole e =
    let found = bind_ok (split 4 bytes) (λ found. Ok (from_le_bytes w32 found.0, found.1)) (n, rest) e in
    let parts = split_sound 4 bytes found.0.0 found.0.1 found.1 in
    let fits : IsBytes (found.0.0 ++ found.0.1) = subst IsBytes (sym parts.1) whole in
    let front = fits_left found.0.0 found.0.1 fits in
    let is = le_bytes_4 found.0.0 (from_le_bytes w32 found.0.0) parts.0 front refl in
    same_ok (λ (p : ℕ × List ℕ). (p.0 < 2 ^ 32) × (bytes ≡ to_le_bytes w32 p.0 ++ p.1) × IsBytes p.1) (from_le_bytes w32 found.0.0, found.0.1) (n, rest) found.2
    (omega (arith, front 0, front 1, front 2, front 3), sym parts.1 ∙ ap (λ (x : List ℕ). x ++ found.0.1) (sym is), fits_right found.0.0 found.0.1 fits)

fixed32_value_complete : (n : ℕ) (rest : List ℕ) → n < 2 ^ 32 → read_fixed32 (to_le_bytes w32 n ++ rest) ≡ Ok (n, rest)
unfolding read_fixed32
fixed32_value_complete n rest fits =
    ap (λ (r : Result (List ℕ × List ℕ) WireError). r >>= λ found. Ok (from_le_bytes w32 found.0, found.1)) (split_complete (to_le_bytes w32 n) rest)
    ∙ ap (λ (m : ℕ). Ok (m, rest)) (from_le_bytes-to_le_bytes_4 n fits)

fixed32_found : (field : ℕ) (bytes : List ℕ) (found : Option (List ℕ)) (o : Option ℕ) (rest : List ℕ) → IsBytes bytes → after_key (8 * field + 5) bytes ≡ Ok found
    → value_after read_fixed32 bytes found ≡ Ok (o, rest) → Front (IsFixed32Of field o) bytes rest
fixed32_found field bytes None o rest whole key e =
    same_ok (λ (p : Option ℕ × List ℕ). Front (IsFixed32Of field p.0) bytes p.1) (None, bytes) (o, rest) e
    (record { taken = []; is = refl; parts = refl; rest_fits = whole })
fixed32_found field bytes (Some after) o rest whole key e =
    let front = key_sound (8 * field + 5) bytes after whole key in
    let found = bind_ok (read_fixed32 after) (λ found. Ok (Some found.0, found.1)) (o, rest) e in
    let value = fixed32_value_sound found.0.0 after found.0.1 front.rest_fits found.1 in
    same_ok (λ (p : Option ℕ × List ℕ). Front (IsFixed32Of field p.0) bytes p.1) (Some found.0.0, found.0.1) (o, rest) found.2
    (record {
      taken = front.taken ++ to_le_bytes w32 found.0.0;
      is = record { key = front.taken; below = value.0; key_encoded = front.is; encoded = refl };
      parts = front.parts ∙ ap (λ (x : List ℕ). front.taken ++ x) value.1 ∙ sym (append_assoc front.taken (to_le_bytes w32 found.0.0) found.0.1);
      rest_fits = value.2;
    })

pub fixed32_sound : (field : ℕ) (bytes : List ℕ) (o : Option ℕ) (rest : List ℕ) → IsBytes bytes → fixed32_field (8 * field + 5) bytes ≡ Ok (o, rest) → Front (IsFixed32Of field o) bytes rest
unfolding fixed32_field
fixed32_sound field bytes o rest whole e =
    let found = bind_ok (after_key (8 * field + 5) bytes) (value_after read_fixed32 bytes) (o, rest) e in
    fixed32_found field bytes found.0 o rest whole found.1 found.2

fixed32_opened : (field n : ℕ) (taken rest : List ℕ) (is : IsFixed32 field n taken) → taken ++ rest ≡ is.key ++ (to_le_bytes w32 n ++ rest)
fixed32_opened field n taken rest is = ap (λ (x : List ℕ). x ++ rest) is.encoded ∙ append_assoc is.key (to_le_bytes w32 n) rest

pub fixed32_complete : (field : ℕ) (o : Option ℕ) (taken rest : List ℕ) → IsFixed32Of field o taken → after_key (8 * field + 5) rest ≡ Ok None
    → fixed32_field (8 * field + 5) (taken ++ rest) ≡ Ok (o, rest)
unfolding fixed32_field
fixed32_complete field None taken rest is none =
    ap (λ (x : List ℕ). after_key (8 * field + 5) (x ++ rest) >>= value_after read_fixed32 (x ++ rest)) is
    ∙ ap (λ (r : Result (Option (List ℕ)) WireError). r >>= value_after read_fixed32 rest) none
fixed32_complete field (Some n) taken rest is none =
    ap (λ (x : List ℕ). after_key (8 * field + 5) x >>= value_after read_fixed32 x) (fixed32_opened field n taken rest is)
    ∙ ap (λ (r : Result (Option (List ℕ)) WireError). r >>= value_after read_fixed32 (is.key ++ (to_le_bytes w32 n ++ rest))) (key_complete (8 * field + 5) is.key (to_le_bytes w32 n ++ rest) is.key_encoded)
    ∙ ap (λ (r : Result (ℕ × List ℕ) WireError). r >>= λ found. Ok (Some found.0, found.1)) (fixed32_value_complete n rest is.below)

-- ---- what follows

-- nothing follows, or a field whose key is at least this one
abbrev pub From : ℕ → List ℕ → Type 0
From least bytes = (bytes ≡ []) ⊎ ((key : ℕ) × (taken : List ℕ) × (rest : List ℕ) × (least ≤ key) × IsVarint key taken × (bytes ≡ taken ++ rest))

-- a lesser key doesn't follow
pub no_key : (key least : ℕ) (bytes : List ℕ) → key < least → From least bytes → after_key key bytes ≡ Ok None
unfolding after_key
no_key key least bytes less (inl none) = ap (after_key key) none
no_key key least bytes less (inr there) =
    let enough : least ≤ there.0 = there.3 in
    ap (after_key key) there.5 ∙ key_other there.0 key there.1 there.2 (λ same. absurd (omega arith)) there.4

-- what follows from a key on follows from a lesser one on
pub from_less : (less least : ℕ) (bytes : List ℕ) → less ≤ least → From least bytes → From less bytes
from_less less least bytes fewer (inl none) = inl none
from_less less least bytes fewer (inr there) =
    let enough : least ≤ there.0 = there.3 in
    inr (there.0, there.1, there.2, omega arith, there.4, there.5)

-- what a field may be followed by
pub from_number : (field least : ℕ) (o : Option ℕ) (taken rest : List ℕ) → IsNumberOf field o taken → 8 * field + 0 ≤ least → From least rest → From (8 * field + 0) (taken ++ rest)
from_number field least None taken rest is less others =
    subst (λ (x : List ℕ). From (8 * field + 0) (x ++ rest)) (sym is) (from_less (8 * field + 0) least rest less others)
from_number field least (Some n) taken rest is less others =
    inr (8 * field + 0, is.key, is.value ++ rest, omega arith, is.key_encoded, number_opened field n taken rest is)

pub from_content : (field least : ℕ) (o : Option (List ℕ)) (taken rest : List ℕ) → IsContentOf field o taken → 8 * field + 2 ≤ least → From least rest → From (8 * field + 2) (taken ++ rest)
from_content field least None taken rest is less others =
    subst (λ (x : List ℕ). From (8 * field + 2) (x ++ rest)) (sym is) (from_less (8 * field + 2) least rest less others)
from_content field least (Some c) taken rest is less others =
    inr (8 * field + 2, is.key, is.size ++ (c ++ rest), omega arith, is.key_encoded, content_opened field c taken rest is)

pub from_fixed32 : (field least : ℕ) (o : Option ℕ) (taken rest : List ℕ) → IsFixed32Of field o taken → 8 * field + 5 ≤ least → From least rest → From (8 * field + 5) (taken ++ rest)
from_fixed32 field least None taken rest is less others =
    subst (λ (x : List ℕ). From (8 * field + 5) (x ++ rest)) (sym is) (from_less (8 * field + 5) least rest less others)
from_fixed32 field least (Some n) taken rest is less others =
    inr (8 * field + 5, is.key, to_le_bytes w32 n ++ rest, omega arith, is.key_encoded, fixed32_opened field n taken rest is)
