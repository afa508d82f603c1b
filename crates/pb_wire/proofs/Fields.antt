-- Contents and keys: what is read is encoded, and what is encoded is read, whatever follows it.
use Rattle.std.proofs.Common.{◌≡◌, ℕ, zero, suc, ◌<◌, ◌≤◌, Bool, true, false, cond, eqb, List, [], ◌∷◌, ◌++◌, length, take, drop, Option, Some, None, Result, Ok, inl, inr, refl, sym, ap, subst, ◌∙◌, arith, append_assoc, length-append, ◌+◌, ◌*◌}
use Rattle.std.specs.Prelude.{if◌then◌else◌, ◌==◌}
use Rattle.std.proofs.Math.Seq.{take-append_seam, drop-append_seam}
use Rattle.std.proofs.lemmas.Bool.{cases_eq, cases_lt, lt-ltb, le-ltb}
use Rattle.std.proofs.lemmas.Bool.Decides.{nat_tests}
use Rattle.std.proofs.lemmas.List.{length-take-le, take-append-drop}
use Rattle.ipld_cid.specs.Multihash.{IsBytes}
use Rattle.ipld_cid.proofs.Varints.{IsBytes-rest}
use Rattle.pb_wire.specs.declared.error.WireError.{WireError}
use Rattle.pb_wire.specs.Steps.{◌>>=◌}
use Rattle.pb_wire.specs.Wire.{IsVarint, IsContent}
use Rattle.pb_wire.specs.Reading.{read_varint, split, read_content, after_key}
use Rattle.pb_wire.proofs.Steps.{bind_ok, same_ok}
use Rattle.pb_wire.proofs.Varints.{Front, varint_sound, varint_complete}

-- the bytes of a part are bytes
pub fits_right : (xs ys : List ℕ) → IsBytes (xs ++ ys) → IsBytes ys
fits_right [] ys h = h
fits_right (x ∷ xs) ys h = fits_right xs ys (IsBytes-rest x (xs ++ ys) h)

pub fits_left : (xs ys : List ℕ) → IsBytes (xs ++ ys) → IsBytes xs
fits_left [] ys h i = omega arith
fits_left (x ∷ xs) ys h zero = h 0
fits_left (x ∷ xs) ys h (suc i) = fits_left xs ys (IsBytes-rest x (xs ++ ys) h) i

-- ---- contents

-- a content behind its length, and what follows it
pub record Sized (c bytes rest : List ℕ) : Type 0 where
  pub size : List ℕ
  pub size_encoded : IsVarint (length c) size
  pub parts : bytes ≡ size ++ (c ++ rest)
  pub content_fits : IsBytes c
  pub rest_fits : IsBytes rest

pub split_sound : (size : ℕ) (bytes c rest : List ℕ) → split size bytes ≡ Ok (c, rest) → (length c ≡ size) × (c ++ rest ≡ bytes)
split_sound size bytes c rest e =
    elim (cases_lt (length bytes) size) [
      | inl short ↦ let is = rw (lt-ltb (length bytes) size short) at e in absurd cc
      | inr enough ↦
          let is = rw (le-ltb (length bytes) size enough) at e in
          same_ok (λ (p : List ℕ × List ℕ). (length p.0 ≡ size) × (p.0 ++ p.1 ≡ bytes)) (take size bytes, drop size bytes) (c, rest) is
          (length-take-le size bytes enough, take-append-drop size bytes)
    ]

pub content_sound : (bytes c rest : List ℕ) → IsBytes bytes → read_content bytes ≡ Ok (c, rest) → Sized c bytes rest
unfolding read_content
content_sound bytes c rest whole e =
    let size = bind_ok (read_varint bytes) (λ size. split size.0 size.1) (c, rest) e in
    let front = varint_sound size.0.0 bytes size.0.1 whole size.1 in
    let parts = split_sound size.0.0 size.0.1 c rest size.2 in
    let fits : IsBytes (c ++ rest) = subst IsBytes (sym parts.1) front.rest_fits in
    record {
      size = front.taken;
      size_encoded = subst (λ (n : ℕ). IsVarint n front.taken) (sym parts.0) front.is;
      parts = front.parts ∙ ap (λ (x : List ℕ). front.taken ++ x) (sym parts.1);
      content_fits = fits_left c rest fits;
      rest_fits = fits_right c rest fits;
    }

pub split_complete : (c rest : List ℕ) → split (length c) (c ++ rest) ≡ Ok (c, rest)
split_complete c rest =
    let enough : length c ≤ length (c ++ rest) = omega (arith, length-append c rest) in
    rw (le-ltb (length (c ++ rest)) (length c) enough, take-append_seam c rest, drop-append_seam c rest) refl

pub content_complete : (c size rest : List ℕ) → IsVarint (length c) size → read_content (size ++ (c ++ rest)) ≡ Ok (c, rest)
unfolding read_content
content_complete c size rest encoded =
    ap (λ (r : Result (ℕ × List ℕ) WireError). r >>= λ s. split s.0 s.1) (varint_complete (length c) size (c ++ rest) encoded) ∙ split_complete c rest

-- ---- keys

-- a choice of some value tells the test
chosen_some : (test : Bool) (x y : List ℕ) → ◌≡◌ {A = Option (List ℕ)} (cond test (Some x) None) (Some y) → (test ≡ true) × (x ≡ y)
chosen_some true x y e = (refl, cc)
chosen_some false x y e = absurd cc

pub key_sound : (key : ℕ) (bytes rest : List ℕ) → IsBytes bytes → after_key key bytes ≡ Ok (Some rest) → Front (IsVarint key) bytes rest
unfolding after_key
key_sound key [] rest whole e = absurd cc
key_sound key (b ∷ bytes) rest whole e =
    let found = bind_ok (read_varint (b ∷ bytes)) (λ found. Ok (if found.0 == key then Some found.1 else None)) (Some rest) e in
    let is = chosen_some (eqb found.0.0 key) found.0.1 rest (same_ok (λ (o : Option (List ℕ)). cond (eqb found.0.0 key) (Some found.0.1) None ≡ o) (cond (eqb found.0.0 key) (Some found.0.1) None) (Some rest) found.2 refl) in
    let same : found.0.0 ≡ key = elim (cases_eq found.0.0 key) [ inl same ↦ same | inr other ↦ grind (arith, nat_tests, is.0) ] in
    let front = varint_sound found.0.0 (b ∷ bytes) found.0.1 whole found.1 in
    subst (λ (r : List ℕ). Front (IsVarint key) (b ∷ bytes) r) is.1 (subst (λ (k : ℕ). Front (IsVarint k) (b ∷ bytes) found.0.1) same front)

-- a number is equal to itself, and to no other
pub same_key : (key : ℕ) → eqb key key ≡ true
same_key key = grind (arith, nat_tests)

pub other_key : (found key : ℕ) → (found ≡ key → ⊥) → eqb found key ≡ false
other_key found key other = grind (arith, nat_tests)

pub key_complete : (key : ℕ) (taken rest : List ℕ) → IsVarint key taken → after_key key (taken ++ rest) ≡ Ok (Some rest)
unfolding after_key
key_complete key [] rest encoded = absurd encoded.encoded
key_complete key (b ∷ taken) rest encoded =
    ap (λ (r : Result (ℕ × List ℕ) WireError). r >>= λ found. Ok (if found.0 == key then Some found.1 else None)) (varint_complete key (b ∷ taken) rest encoded)
    ∙ rw (same_key key) refl

pub key_other : (found key : ℕ) (taken rest : List ℕ) → (found ≡ key → ⊥) → IsVarint found taken → after_key key (taken ++ rest) ≡ Ok None
unfolding after_key
key_other found key [] rest other encoded = absurd encoded.encoded
key_other found key (b ∷ taken) rest other encoded =
    ap (λ (r : Result (ℕ × List ℕ) WireError). r >>= λ found. Ok (if found.0 == key then Some found.1 else None)) (varint_complete found (b ∷ taken) rest encoded)
    ∙ rw (other_key found key other) refl

-- a varint has a byte
pub has_byte : (n : ℕ) (taken : List ℕ) → IsVarint n taken → 0 < length taken
has_byte n [] encoded = absurd encoded.encoded
has_byte n (b ∷ taken) encoded = omega arith

-- ---- fields of a content

-- the bytes of a field of a content, put together
pub field_parts : (key size c rest : List ℕ) → (key ++ (size ++ c)) ++ rest ≡ key ++ (size ++ (c ++ rest))
field_parts key size c rest = simp append_assoc

-- a key and a sized content are a field
pub record ContentFront (field : ℕ) (c bytes rest : List ℕ) : Type 0 where
  pub taken : List ℕ
  pub is : IsContent field c taken
  pub parts : bytes ≡ taken ++ rest
  pub content_fits : IsBytes c
  pub rest_fits : IsBytes rest

pub content_front : (field : ℕ) (bytes after c rest : List ℕ) → Front (IsVarint (8 * field + 2)) bytes after → Sized c after rest → ContentFront field c bytes rest
content_front field bytes after c rest front sized = record {
  taken = front.taken ++ (sized.size ++ c);
  is = record { key = front.taken; size = sized.size; key_encoded = front.is; size_encoded = sized.size_encoded; encoded = refl };
  parts = front.parts ∙ ap (λ (x : List ℕ). front.taken ++ x) sized.parts ∙ sym (field_parts front.taken sized.size c rest);
  content_fits = sized.content_fits;
  rest_fits = sized.rest_fits;
}

-- the field of a content, its key apart
pub content_opened : (field : ℕ) (c taken rest : List ℕ) (is : IsContent field c taken) → taken ++ rest ≡ is.key ++ (is.size ++ (c ++ rest))
content_opened field c taken rest is = ap (λ (x : List ℕ). x ++ rest) is.encoded ∙ field_parts is.key is.size c rest

-- a field of a content has a byte
pub content_has_byte : (field : ℕ) (c taken rest : List ℕ) → IsContent field c taken → 0 < length (taken ++ rest)
content_has_byte field c taken rest is =
    let key = has_byte (8 * field + 2) is.key is.key_encoded in
    let all : length taken ≡ length (is.key ++ (is.size ++ c)) = ap length is.encoded in
    omega (arith, length-append taken rest, length-append is.key (is.size ++ c))
