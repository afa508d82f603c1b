-- What an item begins with, by what was read of it.
use Rattle.std.proofs.Common.{◌≡◌, inl, inr, ℕ, ℤ, pos, negsuc, zero, suc, ◌^◌, ◌<◌, ◌≤◌, cond, true, false, List, [], ◌∷◌, ◌++◌, length, Bor, Option, Some, None, Result, Ok, Err, refl, sym, ap, subst, ◌∙◌, append_assoc, arith}
use Rattle.std.specs.Prelude.{IfOk, IfErr}
use Rattle.std.proofs.lemmas.Bool.{lt-ltb}
use Rattle.std.proofs.lemmas.List.{length-append}
use Rattle.ipld_tokens.specs.Token.{atom, none}
use Rattle.dag_cbor_format.specs.declared.error.CborError.{CborError}
use Rattle.dag_cbor_format.specs.declared.error.CborError.TheVariants.{End, Float}
use Rattle.dag_cbor_format.specs.declared.major.Major.{Major}
use Rattle.dag_cbor_format.specs.declared.major.Major.TheVariants.{Unsigned, Negative, Bytes, Text, List as Array, Map, Tag, Simple}
use Rattle.dag_cbor_format.specs.Head.{head}
use Rattle.dag_cbor_format.specs.HeadReading.{head_at}
use Rattle.dag_cbor_format.specs.ItemHeader.{scalar, front, if_text, item_header_of, item_header_at, key_at}
use Rattle.dag_cbor_format.specs.Errors.{head_error, item_header_error_of, item_header_error, key_error}
use Rattle.dag_cbor_format.specs.Floats.{is_finite, has_float_head, if_finite, float_at, error_of_float, float_error, beginning_at, beginning_error}
use Rattle.dag_cbor_format.proofs.HeadLaws.{head_encoded, head_some}
use Rattle.dag_cbor_format.proofs.ItemHeaders.{front-append, front_is, text_is, key_is}
use Rattle.dag_cbor_format.specs.ItemHeads.{BeginsWith, BeginsWithKey, RejectsFloat, RejectsItem, Continues}
use Rattle.dag_cbor_format.specs.Parts.{Returns}
use Rattle.dag_cbor_format.specs.LinkBytes.{behind_zero, link_bytes_after, link_bytes_of_head, link_bytes_at}
use Rattle.dag_cbor_format.specs.declared.item.ItemHead.{ItemHead}
use Rattle.dag_cbor_format.specs.declared.item.ItemHead.TheVariants as begin

-- ---- what was read behind a head

pub unsigned_begins : (z : ℤ) (n : ℕ) (bytes more : List ℕ) → pos n ≡ z → n < 2 ^ 64 → bytes ≡ head Unsigned n ++ more → BeginsWith (begin.Integer z) bytes more
unsigned_begins z n bytes more e lt is = subst (λ y. BeginsWith (begin.Integer y) bytes more) e (lt, is)

pub negative_begins : (z : ℤ) (n : ℕ) (bytes more : List ℕ) → negsuc n ≡ z → n < 2 ^ 64 → bytes ≡ head Negative n ++ more → BeginsWith (begin.Integer z) bytes more
negative_begins z n bytes more e lt is = subst (λ y. BeginsWith (begin.Integer y) bytes more) e (lt, is)

module _ (n : ℕ) (more : List ℕ) where
  pub front_shorter : (b rest : List ℕ) → front n more ≡ Some (b, rest) → length rest ≤ length more
  front_shorter b rest f = omega (arith, ap length (front_is n more b rest f).1, length-append b rest)

  pub text_shorter : (s rest : List ℕ) → if_text (front n more) ≡ Some (s, rest) → length rest ≤ length more
  text_shorter s rest f = front_shorter s rest (text_is (front n more) s rest f).0

  pub bytes_begin : (b rest bytes : List ℕ) → front n more ≡ Some (b, rest) → n < 2 ^ 64 → bytes ≡ head Bytes n ++ more → (length b < 2 ^ 64) × (bytes ≡ head Bytes (length b) ++ (b ++ rest))
  bytes_begin b rest bytes f lt is =
      let p = front_is n more b rest f in
      (omega (arith, lt, p.0), is ∙ ap (λ xs. head Bytes n ++ xs) p.1 ∙ ap (λ k. head Bytes k ++ (b ++ rest)) (sym p.0))

  pub text_begins : (s rest bytes : List ℕ) → if_text (front n more) ≡ Some (s, rest) → n < 2 ^ 64 → bytes ≡ head Text n ++ more → BeginsWithKey s bytes rest
  text_begins s rest bytes f lt is =
      let t = text_is (front n more) s rest f in
      let p = front_is n more s rest t.0 in
      (t.1, omega (arith, lt, p.0), is ∙ ap (λ xs. head Text n ++ xs) p.1 ∙ ap (λ k. head Text k ++ (s ++ rest)) (sym p.0))

zero_behind : (o : Option (List ℕ × List ℕ)) (encoded rest : List ℕ) → behind_zero o ≡ Some (encoded, rest) → o ≡ Some (0 ∷ encoded, rest)
zero_behind None encoded rest e = absurd cc
zero_behind (Some ([], more)) encoded rest e = absurd cc
zero_behind (Some (zero ∷ b, more)) encoded rest e =
    let cut : List ℕ × List ℕ = (b, more) in
    let found : List ℕ × List ℕ = (encoded, rest) in
    let p : cut ≡ found = cc e in
    ap (λ (q : List ℕ × List ℕ). Some (0 ∷ q.0, q.1)) p
zero_behind (Some (suc n ∷ b, more)) encoded rest e = absurd cc

abbrev LinkBytesAre : List ℕ → List ℕ → List ℕ → Type 0
LinkBytesAre bytes encoded rest = (suc (length encoded) < 2 ^ 64) × (bytes ≡ head Bytes (suc (length encoded)) ++ 0 ∷ (encoded ++ rest))

link_after_head : (bytes : List ℕ) (major : Major) (n : ℕ) (more encoded rest : List ℕ) → head_at bytes ≡ Some (major, n, more) → link_bytes_after major n more ≡ Some (encoded, rest) → LinkBytesAre bytes encoded rest
link_after_head bytes Bytes n more encoded rest e f =
    let h = head_encoded bytes Bytes n more e in
    let p = front_is n more (0 ∷ encoded) rest (zero_behind (front n more) encoded rest f) in
    (omega (arith, h.0, p.0), h.1 ∙ ap (λ xs. head Bytes n ++ xs) p.1 ∙ ap (λ k. head Bytes k ++ 0 ∷ (encoded ++ rest)) (sym p.0))
link_after_head bytes Unsigned n more encoded rest e f = absurd cc
link_after_head bytes Negative n more encoded rest e f = absurd cc
link_after_head bytes Text n more encoded rest e f = absurd cc
link_after_head bytes Array n more encoded rest e f = absurd cc
link_after_head bytes Map n more encoded rest e f = absurd cc
link_after_head bytes Tag n more encoded rest e f = absurd cc
link_after_head bytes Simple n more encoded rest e f = absurd cc

link_of_bytes : (bytes : List ℕ) (o : Option (Major × ℕ × List ℕ)) (encoded rest : List ℕ) → head_at bytes ≡ o → link_bytes_of_head o ≡ Some (encoded, rest) → LinkBytesAre bytes encoded rest
link_of_bytes bytes None encoded rest e f = absurd cc
link_of_bytes bytes (Some h) encoded rest e f = link_after_head bytes h.0 h.1 h.2 encoded rest e f

link_bytes_are : (bytes encoded rest : List ℕ) → link_bytes_at bytes ≡ Some (encoded, rest) → LinkBytesAre bytes encoded rest
unfolding link_bytes_at
link_bytes_are bytes encoded rest e = link_of_bytes bytes (head_at bytes) encoded rest refl e

pub link_begins : (n : ℕ) (more encoded rest bytes : List ℕ) → n ≡ 42 → link_bytes_at more ≡ Some (encoded, rest) → bytes ≡ head Tag n ++ more
    → (suc (length encoded) < 2 ^ 64) × (bytes ≡ head Tag 42 ++ (head Bytes (suc (length encoded)) ++ 0 ∷ (encoded ++ rest)))
link_begins n more encoded rest bytes same f is =
    let l = link_bytes_are more encoded rest f in
    (l.0, is ∙ ap (λ k. head Tag k ++ more) same ∙ ap (λ xs. head Tag 42 ++ xs) l.1)

pub link_shorter : (more encoded rest : List ℕ) → link_bytes_at more ≡ Some (encoded, rest) → length rest ≤ length more
link_shorter more encoded rest f =
    omega (arith, ap length (link_bytes_are more encoded rest f).1, length-append (head Bytes (suc (length encoded))) (0 ∷ (encoded ++ rest)), length-append encoded rest)

-- ---- floats

pub float_cut : (bytes content rest : List ℕ) → bytes ≡ content ++ rest → length content ≡ 8 → is_finite content ≡ false → RejectsFloat Float bytes
float_cut bytes content rest e wide infinite =
    let f : front 8 bytes ≡ Some (content, rest) = ap (front 8) e ∙ front-append content rest 8 wide in
    (ap if_finite f ∙ ap (λ b. cond b (Some (scalar (atom none), rest)) None) infinite, sym (ap error_of_float f))

pub float_short : (bytes : List ℕ) → length bytes < 8 → RejectsFloat End bytes
unfolding front
float_short bytes short = let test = lt-ltb (length bytes) 8 short in (rw test refl, rw test refl)

-- ---- an item that is no float

module _ (bytes : List ℕ) (plain : has_float_head bytes ≡ false) where
  none_begins : item_header_at bytes ≡ None → beginning_at true bytes ≡ None
  none_begins e = ap (λ b. cond b (float_at bytes) (item_header_at bytes)) plain ∙ e

  error_is : beginning_error true bytes ≡ item_header_error bytes
  error_is = ap (λ b. cond b (float_error bytes) (item_header_error bytes)) plain

  pub no_head : head_at bytes ≡ None → RejectsItem (head_error bytes) bytes
  unfolding item_header_at item_header_error
  no_head e = inl (none_begins (ap item_header_of e), sym (error_is ∙ ap (item_header_error_of bytes) e))

  module _ (major : Major) (n : ℕ) (more : List ℕ) (e : head_at bytes ≡ Some (major, n, more)) where
    pub item_begins : (r : Result (ItemHead × Bor (List ℕ)) CborError) → Continues major n more r → IfOk r (λ read. BeginsWith read.0 bytes read.1.now)
    item_begins (Ok (h, rest)) c = let p = head_encoded bytes major n more e in c.1 bytes p.0 p.1
    item_begins (Err error) c = tt

    pub item_shorter : (r : Result (ItemHead × Bor (List ℕ)) CborError) → Continues major n more r → IfOk r (λ read. length read.1.now < length bytes)
    item_shorter (Ok (h, rest)) c = omega (arith, c.0, ap length (head_encoded bytes major n more e).1, length-append (head major n) more, head_some major n)
    item_shorter (Err error) c = tt

    pub item_rejected : (r : Result (ItemHead × Bor (List ℕ)) CborError) → Continues major n more r → IfErr r (λ error. RejectsItem error bytes)
    unfolding item_header_at item_header_error
    item_rejected (Ok (h, rest)) c = tt
    item_rejected (Err error) (inl c) = inl (none_begins (ap item_header_of e ∙ c.0), c.1 ∙ sym (error_is ∙ ap (item_header_error_of bytes) e))
    item_rejected (Err error) (inr c) = inr (more, ap (λ b. cond b (float_at bytes) (item_header_at bytes)) plain ∙ ap item_header_of e ∙ c.0, c.1, c.2)

-- ---- a key

module _ (bytes : List ℕ) where
  pub key_begins : (r : Result (Bor (List ℕ) × Bor (List ℕ)) CborError) → Returns (λ x. (x.0.now, x.1.now)) (key_error bytes) r (key_at bytes) → IfOk r (λ read. BeginsWithKey read.0.now bytes read.1.now)
  key_begins (Ok (k, rest)) e = let p = key_is bytes k.now rest.now e in (p.1, p.2, p.3 ∙ append_assoc (head Text (length k.now)) k.now rest.now)
  key_begins (Err error) e = tt

  pub key_shorter : (r : Result (Bor (List ℕ) × Bor (List ℕ)) CborError) → Returns (λ x. (x.0.now, x.1.now)) (key_error bytes) r (key_at bytes) → IfOk r (λ read. length read.1.now < length bytes)
  key_shorter (Ok (k, rest)) e = (key_is bytes k.now rest.now e).0
  key_shorter (Err error) e = tt
