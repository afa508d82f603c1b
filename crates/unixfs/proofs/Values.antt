-- Types, modes and numbers: what is read is encoded, and what is encoded is read.
use Rattle.std.proofs.Common.{◌≡◌, ℕ, zero, suc, ◌+◌, ◌*◌, ◌^◌, ◌<◌, ◌≤◌, List, [], ◌∷◌, ◌++◌, length, Option, Some, None, Result, Ok, Err, inl, inr, refl, sym, ap, subst, ◌∙◌, arith, append_assoc}
use Rattle.std.specs.Prelude.{Bool, IfSome, if◌then◌else◌}
use Rattle.unixfs.specs.declared.error.UnixFsErrorKind.TheVariants.{FieldOrder, UnknownField}
use Rattle.std.proofs.lemmas.Bool.{cases_eq, cases_lt, lt-ltb, le-ltb}
use Rattle.std.proofs.lemmas.Option.{same_Some}
use Rattle.ipld_cid.specs.Multihash.{IsBytes}
use Rattle.pb_wire.specs.declared.error.WireError.{WireError}
use Rattle.pb_wire.specs.Steps.{◌>>=◌}
use Rattle.pb_wire.specs.Wire.{IsNumber, IsNumberOf, IsContentOf}
use Rattle.pb_wire.specs.Reading.{read_varint, after_key, value_after, number_field, content_field}
use Rattle.pb_wire.proofs.Steps.{bind_ok, same_ok}
use Rattle.pb_wire.proofs.Varints.{Front, varint_complete}
use Rattle.pb_wire.proofs.Fields.{key_complete, other_key}
use Rattle.pb_wire.proofs.Optional.{ContentOfFront, number_sound, number_complete, number_opened, content_field_sound, content_field_complete, From, from_less}
use Rattle.unixfs.specs.declared.data.DataType.{DataType}
use Rattle.unixfs.specs.declared.data.DataType.TheVariants.{Raw, Directory, File, Metadata, Symlink, HamtShard}
use Rattle.unixfs.specs.declared.error.UnixFsErrorKind.{UnixFsErrorKind}
use Rattle.unixfs.specs.declared.error.Fault.{Fault}
use Rattle.unixfs.specs.Errors.{of_wire, at}
use Rattle.unixfs.specs.Data.{code_of, type_of, IsNumbers}
use Rattle.unixfs.specs.Reading.{read_number, read_bytes, known_type, type_in, read_type, mode_in, read_mode, read_end, and_others, numbers_within, read_numbers}
use Rattle.unixfs.proofs.Fields.{at_ok, at_wire_ok, number_shorter}
use Rattle.unixfs.proofs.Numbers.{numbers_go_on, numbers_end}

-- ---- numbers and contents

pub number_front : (field : ℕ) (bytes : List ℕ) (o : Option ℕ) (rest : List ℕ) → IsBytes bytes → read_number (8 * field + 0) bytes ≡ Ok (o, rest) → Front (IsNumberOf field o) bytes rest
unfolding read_number
number_front field bytes o rest whole e = number_sound field bytes o rest whole (at_wire_ok (length bytes) (number_field (8 * field + 0) bytes) (o, rest) e)

pub number_back : (field : ℕ) (o : Option ℕ) (taken rest : List ℕ) → IsNumberOf field o taken → after_key (8 * field + 0) rest ≡ Ok None → read_number (8 * field + 0) (taken ++ rest) ≡ Ok (o, rest)
unfolding read_number
number_back field o taken rest is none = ap (λ (r : Result (Option ℕ × List ℕ) WireError). at (length (taken ++ rest)) (of_wire r)) (number_complete field o taken rest is none)

pub bytes_front : (field : ℕ) (bytes : List ℕ) (o : Option (List ℕ)) (rest : List ℕ) → IsBytes bytes → read_bytes (8 * field + 2) bytes ≡ Ok (o, rest) → ContentOfFront field o bytes rest
unfolding read_bytes
bytes_front field bytes o rest whole e = content_field_sound field bytes o rest whole (at_wire_ok (length bytes) (content_field (8 * field + 2) bytes) (o, rest) e)

pub bytes_back : (field : ℕ) (o : Option (List ℕ)) (taken rest : List ℕ) → IsContentOf field o taken → after_key (8 * field + 2) rest ≡ Ok None → read_bytes (8 * field + 2) (taken ++ rest) ≡ Ok (o, rest)
unfolding read_bytes
bytes_back field o taken rest is none = ap (λ (r : Result (Option (List ℕ) × List ℕ) WireError). at (length (taken ++ rest)) (of_wire r)) (content_field_complete field o taken rest is none)

-- a number that is there, whatever follows it
pub number_there : (field n : ℕ) (taken rest : List ℕ) → IsNumber field n taken → read_number (8 * field + 0) (taken ++ rest) ≡ Ok (Some n, rest)
unfolding read_number number_field
number_there field n taken rest is =
    ap (λ (r : Result (Option ℕ × List ℕ) WireError). at (length (taken ++ rest)) (of_wire r))
    (ap (λ (x : List ℕ). after_key (8 * field + 0) x >>= value_after read_varint x) (number_opened field n taken rest is)
    ∙ ap (λ (r : Result (Option (List ℕ)) WireError). r >>= value_after read_varint (is.key ++ (is.value ++ rest))) (key_complete (8 * field + 0) is.key (is.value ++ rest) is.key_encoded)
    ∙ ap (λ (r : Result (ℕ × List ℕ) WireError). r >>= λ found. Ok (Some found.0, found.1)) (varint_complete n is.value rest is.value_encoded))

-- ---- types

known_sound : (n : ℕ) (o : Option DataType) (t : DataType) → known_type n o ≡ Ok t → o ≡ Some t
known_sound n None t e = absurd cc
known_sound n (Some s) t e = cc

-- the type of one number
type_at : (k n : ℕ) (s t : DataType) → n ≡ k → type_of k ≡ Some s → type_of n ≡ Some t → code_of s ≡ k → n ≡ code_of t
type_at k n s t same here e code = same ∙ sym code ∙ ap code_of (same_Some s t (sym here ∙ ap type_of (sym same) ∙ e))

no_type : (n : ℕ) → (n ≡ 0 → ⊥) → (n ≡ 1 → ⊥) → (n ≡ 2 → ⊥) → (n ≡ 3 → ⊥) → (n ≡ 4 → ⊥) → (n ≡ 5 → ⊥) → type_of n ≡ None
no_type n a b c d e f = rw (other_key n 0 a, other_key n 1 b, other_key n 2 c, other_key n 3 d, other_key n 4 e, other_key n 5 f) refl

type_of-sound : (n : ℕ) (t : DataType) → type_of n ≡ Some t → n ≡ code_of t
type_of-sound n t e =
    elim (cases_eq n 0) [
      | inl a ↦ type_at 0 n Raw t a refl e refl
      | inr a ↦
          elim (cases_eq n 1) [
            | inl b ↦ type_at 1 n Directory t b refl e refl
            | inr b ↦
                elim (cases_eq n 2) [
                  | inl c ↦ type_at 2 n File t c refl e refl
                  | inr c ↦
                      elim (cases_eq n 3) [
                        | inl d ↦ type_at 3 n Metadata t d refl e refl
                        | inr d ↦
                            elim (cases_eq n 4) [
                              | inl f ↦ type_at 4 n Symlink t f refl e refl
                              | inr f ↦
                                  elim (cases_eq n 5) [
                                    | inl g ↦ type_at 5 n HamtShard t g refl e refl
                                    | inr g ↦ let none = no_type n a b c d f g in absurd cc
                                  ]
                            ]
                      ]
                ]
          ]
    ]

type_in-sound : (o : Option ℕ) (t : DataType) → type_in o ≡ Ok t → o ≡ Some (code_of t)
unfolding type_in
type_in-sound None t e = absurd cc
type_in-sound (Some n) t e = ap Some (type_of-sound n t (known_sound n (type_of n) t e))

type_in-complete : (t : DataType) → type_in (Some (code_of t)) ≡ Ok t
unfolding type_in
type_in-complete Raw = refl
type_in-complete Directory = refl
type_in-complete File = refl
type_in-complete Metadata = refl
type_in-complete Symlink = refl
type_in-complete HamtShard = refl

pub type_front : (bytes : List ℕ) (t : DataType) (rest : List ℕ) → IsBytes bytes → read_type bytes ≡ Ok (t, rest) → Front (IsNumber 1 (code_of t)) bytes rest
unfolding read_type
type_front bytes t rest whole e =
    let found = bind_ok (read_number 8 bytes) (λ found. at (length bytes) (type_in found.0) >>= λ t. Ok (t, found.1)) (t, rest) e in
    let is = bind_ok (at (length bytes) (type_in found.0.0)) (λ t. Ok (t, found.0.1)) (t, rest) found.2 in
    let code = type_in-sound found.0.0 is.0 (at_ok (length bytes) (type_in found.0.0) is.0 is.1) in
    let front = number_front 1 bytes found.0.0 found.0.1 whole found.1 in
    same_ok (λ (p : DataType × List ℕ). Front (IsNumber 1 (code_of p.0)) bytes p.1) (is.0, found.0.1) (t, rest) is.2
    (record { taken = front.taken; is = subst (λ (o : Option ℕ). IsNumberOf 1 o front.taken) code front.is; parts = front.parts; rest_fits = front.rest_fits })

pub type_back : (t : DataType) (taken rest : List ℕ) → IsNumber 1 (code_of t) taken → read_type (taken ++ rest) ≡ Ok (t, rest)
unfolding read_type
type_back t taken rest is =
    ap (λ (r : Result (Option ℕ × List ℕ) Fault). r >>= λ found. at (length (taken ++ rest)) (type_in found.0) >>= λ t. Ok (t, found.1)) (number_there 1 (code_of t) taken rest is)
    ∙ ap (λ (r : Result DataType UnixFsErrorKind). at (length (taken ++ rest)) r >>= λ t. Ok (t, rest)) (type_in-complete t)

-- ---- modes

mode_in-sound : (o m : Option ℕ) → mode_in o ≡ Ok m → (o ≡ m) × IfSome m (λ n. n < 2 ^ 32)
unfolding mode_in
mode_in-sound None m e = same_ok (λ (x : Option ℕ). (None ≡ x) × IfSome x (λ n. n < 2 ^ 32)) None m e (refl, tt)
mode_in-sound (Some n) m e =
    elim (cases_lt n (2 ^ 32)) [
      | inl small ↦ let is = rw (lt-ltb n (2 ^ 32) small) at e in same_ok (λ (x : Option ℕ). (Some n ≡ x) × IfSome x (λ n. n < 2 ^ 32)) (Some n) m is (refl, small)
      | inr large ↦ let is = rw (le-ltb n (2 ^ 32) large) at e in absurd cc
    ]

mode_in-complete : (o : Option ℕ) → IfSome o (λ n. n < 2 ^ 32) → mode_in o ≡ Ok o
unfolding mode_in
mode_in-complete None fits = refl
mode_in-complete (Some n) fits = rw (lt-ltb n (2 ^ 32) fits) refl

-- a mode that fits, at the front
pub record ModeFront (o : Option ℕ) (bytes rest : List ℕ) : Type 0 where
  pub front : Front (IsNumberOf 7 o) bytes rest
  pub fits : IfSome o (λ n. n < 2 ^ 32)

pub mode_front : (bytes : List ℕ) (o : Option ℕ) (rest : List ℕ) → IsBytes bytes → read_mode bytes ≡ Ok (o, rest) → ModeFront o bytes rest
unfolding read_mode
mode_front bytes o rest whole e =
    let found = bind_ok (read_number 56 bytes) (λ found. at (length bytes) (mode_in found.0) >>= λ mode. Ok (mode, found.1)) (o, rest) e in
    let is = bind_ok (at (length bytes) (mode_in found.0.0)) (λ mode. Ok (mode, found.0.1)) (o, rest) found.2 in
    let fits = mode_in-sound found.0.0 is.0 (at_ok (length bytes) (mode_in found.0.0) is.0 is.1) in
    let front = number_front 7 bytes found.0.0 found.0.1 whole found.1 in
    same_ok (λ (p : Option ℕ × List ℕ). ModeFront p.0 bytes p.1) (is.0, found.0.1) (o, rest) is.2
    (record { front = subst (λ (x : Option ℕ). Front (IsNumberOf 7 x) bytes found.0.1) fits.0 front; fits = fits.1 })

pub mode_back : (o : Option ℕ) (taken rest : List ℕ) → IsNumberOf 7 o taken → IfSome o (λ n. n < 2 ^ 32) → after_key 56 rest ≡ Ok None → read_mode (taken ++ rest) ≡ Ok (o, rest)
unfolding read_mode
mode_back o taken rest is fits none =
    ap (λ (r : Result (Option ℕ × List ℕ) Fault). r >>= λ found. at (length (taken ++ rest)) (mode_in found.0) >>= λ mode. Ok (mode, found.1)) (number_back 7 o taken rest is none)
    ∙ ap (λ (r : Result (Option ℕ) UnixFsErrorKind). at (length (taken ++ rest)) r >>= λ mode. Ok (mode, rest)) (mode_in-complete o fits)

-- ---- repeated numbers

-- the fields after the first, if there is one
others_front : (more field : ℕ) (bytes : List ℕ) (o : Option ℕ) (after ns rest : List ℕ) → Front (IsNumberOf field o) bytes after
    → ((ms last : List ℕ) → (n : ℕ) → o ≡ Some n → numbers_within more (8 * field + 0) after ≡ Ok (ms, last) → Front (IsNumbers field ms) after last)
    → and_others o after (numbers_within more (8 * field + 0) after) ≡ Ok (ns, rest) → Front (IsNumbers field ns) bytes rest
others_front more field bytes None after ns rest front others e =
    same_ok (λ (p : List ℕ × List ℕ). Front (IsNumbers field p.0) bytes p.1) ([], after) (ns, rest) e (record { taken = front.taken; is = front.is; parts = front.parts; rest_fits = front.rest_fits })
others_front more field bytes (Some n) after ns rest front others e =
    let found = bind_ok (numbers_within more (8 * field + 0) after) (λ ns. Ok (n ∷ ns.0, ns.1)) (ns, rest) e in
    let last = others found.0.0 found.0.1 n refl found.1 in
    same_ok (λ (p : List ℕ × List ℕ). Front (IsNumbers field p.0) bytes p.1) (n ∷ found.0.0, found.0.1) (ns, rest) found.2
    (record {
      taken = front.taken ++ last.taken;
      is = (front.taken, last.taken, front.is, last.is, refl);
      parts = front.parts ∙ ap (λ (x : List ℕ). front.taken ++ x) last.parts ∙ sym (append_assoc front.taken last.taken found.0.1);
      rest_fits = last.rest_fits;
    })

within_front : (more field : ℕ) (bytes ns rest : List ℕ) → IsBytes bytes → length bytes < more → numbers_within more (8 * field + 0) bytes ≡ Ok (ns, rest) → Front (IsNumbers field ns) bytes rest
within_front zero field bytes ns rest whole few e = absurd (omega arith)
within_front (suc more) field bytes ns rest whole few e =
    let found = bind_ok (read_number (8 * field + 0) bytes) (λ found. and_others found.0 found.1 (numbers_within more (8 * field + 0) found.1)) (ns, rest) e in
    let front = number_front field bytes found.0.0 found.0.1 whole found.1 in
    others_front more field bytes found.0.0 found.0.1 ns rest front
    (λ ms last n is read.
    let less = number_shorter (8 * field + 0) n bytes found.0.1 (found.1 ∙ ap (λ (o : Option ℕ). Ok (o, found.0.1)) is) in
    within_front more field found.0.1 ms last front.rest_fits (omega arith) read)
    found.2

pub numbers_front : (field : ℕ) (bytes ns rest : List ℕ) → IsBytes bytes → read_numbers (8 * field + 0) bytes ≡ Ok (ns, rest) → Front (IsNumbers field ns) bytes rest
unfolding read_numbers
numbers_front field bytes ns rest whole e = within_front (suc (length bytes)) field bytes ns rest whole (omega arith) e

pub numbers_back : (field : ℕ) (ns taken rest : List ℕ) → IsNumbers field ns taken → after_key (8 * field + 0) rest ≡ Ok None → read_numbers (8 * field + 0) (taken ++ rest) ≡ Ok (ns, rest)
numbers_back field [] taken rest is none =
    ap (λ (x : List ℕ). read_numbers (8 * field + 0) (x ++ rest)) is ∙ numbers_end (8 * field + 0) rest rest (number_back field None [] rest refl none)
numbers_back field (n ∷ ns) taken rest is none =
    ap (read_numbers (8 * field + 0)) (ap (λ (x : List ℕ). x ++ rest) is.4 ∙ append_assoc is.0 is.1 rest)
    ∙ numbers_go_on (8 * field + 0) n (is.0 ++ (is.1 ++ rest)) (is.1 ++ rest) (number_there field n is.0 (is.1 ++ rest) is.2)
    ∙ ap (λ (r : Result (List ℕ × List ℕ) Fault). r >>= λ ns. Ok (n ∷ ns.0, ns.1)) (numbers_back field ns is.1 rest is.3 none)

pub from_numbers : (field least : ℕ) (ns taken rest : List ℕ) → IsNumbers field ns taken → 8 * field + 0 ≤ least → From least rest → From (8 * field + 0) (taken ++ rest)
from_numbers field least [] taken rest is less others =
    subst (λ (x : List ℕ). From (8 * field + 0) (x ++ rest)) (sym is) (from_less (8 * field + 0) least rest less others)
from_numbers field least (n ∷ ns) taken rest is less others =
    inr (
      8 * field + 0,
      is.2.key,
      is.2.value ++ (is.1 ++ rest),
      omega arith,
      is.2.key_encoded,
      ap (λ (x : List ℕ). x ++ rest) is.4 ∙ append_assoc is.0 is.1 rest ∙ number_opened field n is.0 (is.1 ++ rest) is.2,
    )

-- ---- the end

pub end_sound : (known : ℕ → Bool) (bytes : List ℕ) → read_end known bytes ≡ Ok tt → bytes ≡ []
unfolding read_end
end_sound known [] e = refl
end_sound known (b ∷ bytes) e =
    let found = bind_ok (of_wire (read_varint (b ∷ bytes))) (λ key. Err (if known key.0 then FieldOrder else UnknownField key.0)) tt (at_ok (length (b ∷ bytes)) (of_wire (read_varint (b ∷ bytes)) >>= λ key. Err (if known key.0 then FieldOrder else UnknownField key.0)) tt e) in
    absurd cc
