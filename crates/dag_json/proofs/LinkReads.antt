-- The text of a CID is read as that CID, and what is read is written so.
use Rattle.std.proofs.Common.{◌≡◌, ℕ, zero, suc, ◌+◌, ◌*◌, ◌<◌, ◌≤◌, inl, inr, Bool, true, false, eqb, List, [], ◌∷◌, ◌++◌, length, get_or, drop, Option, Some, None, Result, Ok, Err, refl, sym, ap, ap₂, subst, ◌∙◌, arith, lit<, lit≤}
use Rattle.std.specs.Prelude.{map, ◌&&◌, ◌==◌, if◌then◌else◌}
use Rattle.std.specs.Result.{result_ok}
use Rattle.std.specs.Str.{bytes_eq}
use Rattle.std.specs.Int.Digits.{digits_of, number_from_digits, AllBelowBase}
use Rattle.std.proofs.lemmas.Bool.{agree_below_at, eqb-true, eq-eqb, cases_Bool}
use Rattle.std.proofs.lemmas.Int.Digits.{number_digits_of, all_below_base_digits_of, first_digits_of, number_after_ge}
use Rattle.std.proofs.lemmas.Slice.Eq.{bytes_eq-Decides}
use Rattle.ipld_cid.specs.declared.cid.Version.{Version}
use Rattle.ipld_cid.specs.declared.cid.Version.TheVariants.{V0, V1}
use Rattle.ipld_cid.specs.Bytes.{bytes_of, head_of}
use Rattle.ipld_cid.specs.Cid.{Link, IsValid, IsForm, hash_of}
use Rattle.ipld_cid.specs.Base32.{base32}
use Rattle.ipld_cid.specs.declared.error.CidError.{CidError}
use Rattle.ipld_cid.specs.TextReading.{read_text}
use Rattle.ipld_cid.specs.TextReading as reading
use Rattle.ipld_cid.proofs.Encodings.{encoded_is_valid}
use Rattle.ipld_cid.proofs.TextReadings.{text_is_encoded, one_text, read_text-text_of}
use Rattle.ipld_cid.proofs.Texts.{text_of_v1}
use Rattle.ipld_cid_text.specs.declared.base.Base.TheVariants.{Base32Lower, Base58Btc}
use Rattle.ipld_cid_text.specs.Base.{letter, alphabet}
use Rattle.ipld_cid_text.specs.Digits.{IsBelow, leading_zeros, SameNumber}
use Rattle.ipld_cid_text.specs.Encodes.{Encodes}
use Rattle.ipld_cid_text.specs.Text.{Form, IsText, IsTextAt, has_path, path_len, begins_qm, form_of, multibase_form}
use Rattle.ipld_cid_text.proofs.Places.{digits-are, below-cons, below-drop}
use Rattle.ipld_cid_text.proofs.Writing.{written_reads}
use Rattle.ipld_cid_text.specs.UsualText.{base58, usual_text}
use Rattle.dag_json.specs.LinkRead.{value58, v0_of_number, if_written, v0_of, begins_b, cid_of}
use Rattle.ipld_cid_text.proofs.UsualTexts.{usual_v0, usual_v1}

-- ---- digits of base58btc

letter_right : (d : ℕ) → d < 58 → (value58 (letter Base58Btc d) == d) ≡ true
unfolding alphabet
letter_right d few = agree_below_at (λ k. value58 (letter Base58Btc k) == k) (λ k. true) 58 d refl few

value58-letter : (d : ℕ) → d < 58 → value58 (letter Base58Btc d) ≡ d
value58-letter d few = eqb-true (value58 (letter Base58Btc d)) d (letter_right d few)

digits58 : (ds : List ℕ) → AllBelowBase 58 ds → map value58 (map (letter Base58Btc) ds) ≡ ds
digits58 [] h = refl
digits58 (d ∷ ds) h = ap₂ (λ (x : ℕ) (xs : List ℕ). x ∷ xs) (value58-letter d h.0) (digits58 ds h.1)

below_at : (b : ℕ) (ds : List ℕ) → 0 < b → AllBelowBase b ds → IsBelow b ds
below_at b [] some h = λ i. some
below_at b (d ∷ ds) some h = below-cons b d ds h.0 (below_at b ds some h.1)

no_zeros : (xs : List ℕ) → 0 < get_or xs 0 0 → leading_zeros xs ≡ 0
no_zeros [] h = refl
no_zeros (zero ∷ xs) h = absurd (omega arith)
no_zeros (suc x ∷ xs) h = refl

-- ---- version 0

record IsV0 (l : Link) : Type 0 where
  codec : l.codec ≡ 0x70
  code : l.code ≡ 0x12
  size : length l.digest ≡ 32
  bytes : bytes_of l ≡ 0x12 ∷ 0x20 ∷ l.digest
  below : IsBelow 256 (0x12 ∷ 0x20 ∷ l.digest)

is_v0 : (l : Link) → l.version ≡ V0 → IsValid 64 l → IsV0 l
unfolding bytes_of
is_v0 l v valid =
    let form : IsForm V0 l.codec (hash_of l) = subst (λ (w : Version). IsForm w l.codec (hash_of l)) v valid.2 in
    record {
      codec = form.0;
      code = form.1.0;
      size = form.1.1;
      bytes = ap (λ (w : Version). head_of (record { version = w; codec = l.codec; code = l.code; digest = l.digest }) ++ l.digest) v;
      below = below-cons 256 0x12 (0x20 ∷ l.digest) (lit< tt) (below-cons 256 0x20 l.digest (lit< tt) valid.1.2);
    }

-- the number of its bytes
abbrev number : Link → ℕ
number l = number_from_digits 256 (0x12 ∷ 0x20 ∷ l.digest)

text_is : (l : Link) → l.version ≡ V0 → IsV0 l → usual_text l ≡ map (letter Base58Btc) (digits_of 58 (number l))
unfolding base58
text_is l v is = usual_v0 l v ∙ ap base58 is.bytes

digits_are : (l : Link) → IsV0 l → 0x12 ∷ 0x20 ∷ l.digest ≡ digits_of 256 (number l)
digits_are l is = digits-are 256 (0x12 ∷ 0x20 ∷ l.digest) (lit≤ tt) is.below

same_link : (l : Link) → l.version ≡ V0 → IsV0 l → v0_of_number (number l) ≡ l
same_link l v is =
    ap (λ (ds : List ℕ). let m : Link = record { version = V0; codec = 0x70; code = 0x12; digest = drop 2 ds } in m) (sym (digits_are l is))
    ∙ ap (λ (w : Version). let m : Link = record { version = w; codec = 0x70; code = 0x12; digest = l.digest } in m) (sym v)
    ∙ ap (λ (c : ℕ). let m : Link = record { version = l.version; codec = c; code = 0x12; digest = l.digest } in m) (sym is.codec)
    ∙ ap (λ (c : ℕ). let m : Link = record { version = l.version; codec = l.codec; code = c; digest = l.digest } in m) (sym is.code)

same_bytes : (xs : List ℕ) → bytes_eq xs xs ≡ true
same_bytes xs = (bytes_eq-Decides xs xs).1 refl

written_so : (l : Link) (s : List ℕ) → length l.digest ≡ 32 → s ≡ usual_text l → if_written l s ≡ Some l
written_so l s size e =
    ap (λ (b : Bool). if b && bytes_eq (usual_text l) s then Some l else None) (eq-eqb (length l.digest) 32 size)
    ∙ ap (λ (b : Bool). if b then Some l else None) (ap (bytes_eq (usual_text l)) e ∙ same_bytes (usual_text l))

pub v0_read : (l : Link) (s : List ℕ) → l.version ≡ V0 → IsValid 64 l → s ≡ usual_text l → v0_of s ≡ Some l
unfolding v0_of
v0_read l s v valid e =
    let is = is_v0 l v valid in
    let n = number l in
    let values : map value58 s ≡ digits_of 58 n = ap (map value58) (e ∙ text_is l v is) ∙ digits58 (digits_of 58 n) (all_below_base_digits_of 58 n (lit≤ tt)) in
    let same : number_from_digits 58 (map value58 s) ≡ n = ap (number_from_digits 58) values ∙ number_digits_of 58 n (lit≤ tt) in
    ap (λ (k : ℕ). if_written (v0_of_number k) s) same ∙ ap (λ (m : Link). if_written m s) (same_link l v is) ∙ written_so l s is.size e

record IsWritten (l : Link) (s : List ℕ) : Type 0 where
  size : length l.digest ≡ 32
  text : s ≡ usual_text l

if_written-some : (l m : Link) (s : List ℕ) (b c : Bool) → eqb (length l.digest) 32 ≡ b → bytes_eq (usual_text l) s ≡ c → (if b && c then Some l else None) ≡ Some m → (l ≡ m) × IsWritten l s
if_written-some l m s false c size text e = absurd cc
if_written-some l m s true false size text e = absurd cc
if_written-some l m s true true size text e = (cc, record { size = eqb-true (length l.digest) 32 size; text = sym ((bytes_eq-Decides (usual_text l) s).0 text) })

pub record ReadV0 (l : Link) (s : List ℕ) : Type 0 where
  pub version : l.version ≡ V0
  pub valid : IsValid 64 l
  pub text : s ≡ usual_text l

pub v0_found : (l : Link) (s : List ℕ) → v0_of s ≡ Some l → ReadV0 l s
unfolding v0_of
v0_found l s e =
    let n = number_from_digits 58 (map value58 s) in
    let m = v0_of_number n in
    let found = if_written-some m l s (eqb (length m.digest) 32) (bytes_eq (usual_text m) s) refl refl e in
    let size = found.1.size in
    let below = below-drop 256 2 (digits_of 256 n) (lit< tt) (below_at 256 (digits_of 256 n) (lit< tt) (all_below_base_digits_of 256 n (lit≤ tt))) in
    subst (λ (k : Link). ReadV0 k s) found.0
    (record { version = refl; valid = (lit< tt, (lit< tt, omega (arith, size), below), (refl, (refl, size))); text = found.1.text })

-- its text is that of the CID
pub v0_text : (l : Link) (s : List ℕ) → l.version ≡ V0 → IsValid 64 l → s ≡ usual_text l → IsText l s
v0_text l s v valid e =
    let is = is_v0 l v valid in
    let n = number l in
    let ds = digits_of 58 n in
    let some : 0 < n = let least : 0 * 256 + 0x12 ≤ n = number_after_ge 256 (0 * 256 + 0x12) (0x20 ∷ l.digest) (lit< tt) in omega (arith, least) in
    let same : SameNumber 256 (0x12 ∷ 0x20 ∷ l.digest) 58 ds = record {
      number = number_digits_of 58 n (lit≤ tt);
      zeros = no_zeros ds (first_digits_of 58 n (lit≤ tt) some);
      below = is.below;
      others_below = below_at 58 ds (lit< tt) (all_below_base_digits_of 58 n (lit≤ tt));
    } in
    let encodes : Encodes Base58Btc (bytes_of l) s = record {
      digits = ds;
      encoded = subst (λ (bs : List ℕ). SameNumber 256 bs 58 ds) (sym is.bytes) same;
      letters_are = e ∙ text_is l v is;
    } in
    written_reads Base58Btc l s valid (subst (λ (w : Version). IsTextAt w Base58Btc (bytes_of l) s) (sym v) (refl, encodes))

none_or : (s : List ℕ) (o : Option Link) → v0_of s ≡ o → ((l : Link) → v0_of s ≡ Some l → ⊥) → o ≡ None
none_or s None e h = refl
none_or s (Some l) e h = absurd (h l e)

-- a text that is none
pub no_v0 : (s : List ℕ) → ((l : Link) → l.version ≡ V0 → s ≡ usual_text l → IsText l s → ⊥) → None ≡ v0_of s
no_v0 s h = sym (none_or s (v0_of s) refl (λ l e. let is = v0_found l s e in h l is.version is.text (v0_text l s is.version is.valid is.text)))

-- ---- either version

-- a text is that of the CID that it is read as
pub record ReadLink (l : Link) (s : List ℕ) : Type 0 where
  pub valid : IsValid 64 l
  pub text : s ≡ usual_text l

ok_from : (r : Result Link CidError) (l : Link) → result_ok r ≡ Some l → r ≡ Ok l
ok_from (Ok x) l e = ap Ok cc
ok_from (Err x) l e = absurd cc

v1_found : (l : Link) (s : List ℕ) → reading.IsText 64 l s → ReadLink l s
v1_found l s is = record { valid = encoded_is_valid 64 is.bytes l is.encoded; text = one_text 64 s l is ∙ sym (usual_v1 l is.is_v1) }

pub link_found : (s : List ℕ) (l : Link) → cid_of s ≡ Some l → ReadLink l s
unfolding cid_of
link_found s l e = elim (cases_Bool (begins_b s)) [
  | inl b ↦ v1_found l s (text_is_encoded 64 s l (ok_from (read_text 64 s) l (sym (ap (λ (c : Bool). if c then result_ok (read_text 64 s) else v0_of s) b) ∙ e)))
  | inr other ↦
      let is = v0_found l s (sym (ap (λ (c : Bool). if c then result_ok (read_text 64 s) else v0_of s) other) ∙ e) in
      record { valid = is.valid; text = is.text }
]

-- which of the two it is
pub v1_is : (s : List ℕ) (l : Link) → begins_b s ≡ true → read_text 64 s ≡ Ok l → Some l ≡ cid_of s
unfolding cid_of
v1_is s l b e = sym (ap (λ (c : Bool). if c then result_ok (read_text 64 s) else v0_of s) b ∙ ap result_ok e)

pub v1_none : (s : List ℕ) (error : CidError) → begins_b s ≡ true → read_text 64 s ≡ Err error → None ≡ cid_of s
unfolding cid_of
v1_none s error b e = sym (ap (λ (c : Bool). if c then result_ok (read_text 64 s) else v0_of s) b ∙ ap result_ok e)

pub v0_is : (s : List ℕ) → begins_b s ≡ false → cid_of s ≡ v0_of s
unfolding cid_of
v0_is s other = ap (λ (c : Bool). if c then result_ok (read_text 64 s) else v0_of s) other

-- ---- a text of version 0 begins with no `b`

no_path : (s : List ℕ) → has_path (98 ∷ s) ≡ false
no_path [] = refl
no_path (b ∷ []) = refl
no_path (b ∷ c ∷ []) = refl
no_path (b ∷ c ∷ d ∷ []) = refl
no_path (b ∷ c ∷ d ∷ e ∷ []) = refl
no_path (b ∷ c ∷ d ∷ e ∷ f ∷ s) = refl

no_qm : (s : List ℕ) → begins_qm (98 ∷ s) ≡ false
no_qm [] = refl
no_qm (b ∷ s) = refl

and_false : (b : Bool) → (b && false) ≡ false
and_false true = refl
and_false false = refl

abbrev base32_form : Form
base32_form = record { base = Base32Lower; version = V1; skip = 1 }

abbrev base58_form : Form
base58_form = record { base = Base58Btc; version = V0; skip = 0 }

form98 : (s : List ℕ) → form_of (98 ∷ s) ≡ Some base32_form
form98 s =
    ap (λ (b : Bool). if eqb (length (98 ∷ s)) 46 && b then Some base58_form else multibase_form (98 ∷ s)) (no_qm s)
    ∙ ap (λ (b : Bool). if b then Some base58_form else multibase_form (98 ∷ s)) (and_false (eqb (length (98 ∷ s)) 46))

not_v0 : (f : Form) (l : Link) → Some base32_form ≡ Some f → l.version ≡ f.version → l.version ≡ V0 → ⊥
not_v0 f l e same v = let is : base32_form ≡ f = cc in let clash : ◌≡◌ {A = Version} V1 V0 = ap (λ (g : Form). g.version) is ∙ sym same ∙ v in cc

begins_other : (s : List ℕ) (l : Link) → IsText l (98 ∷ s) → l.version ≡ V0 → ⊥
begins_other s l is v =
    let none : path_len (98 ∷ s) ≡ 0 = ap (λ (b : Bool). if b then 6 else 0) (no_path s) in
    not_v0 is.form l (sym (form98 s) ∙ sym (ap (λ (n : ℕ). form_of (drop n (98 ∷ s))) none) ∙ is.has_form) is.version v

other_start : (s : List ℕ) (l : Link) → l.version ≡ V0 → IsText l s → begins_b s ≡ true → ⊥
other_start [] l v is e = absurd cc
other_start (first ∷ s) l v is e = begins_other s l (subst (λ (c : ℕ). IsText l (c ∷ s)) (eqb-true first 98 e) is) v

v0_cid : (s : List ℕ) (l : Link) → l.version ≡ V0 → IsText l s → v0_of s ≡ Some l → cid_of s ≡ Some l
v0_cid s l v is e = elim (cases_Bool (begins_b s)) [
  | inl b ↦ absurd (other_start s l v is b)
  | inr other ↦ v0_is s other ∙ e
]

v1_cid : (l : Link) → l.version ≡ V1 → IsValid 64 l → cid_of (98 ∷ base32 (bytes_of l)) ≡ Some l
unfolding cid_of
v1_cid l v valid = ap (λ (s : List ℕ). result_ok (read_text 64 s)) (sym (text_of_v1 l v)) ∙ ap result_ok (read_text-text_of 64 l (lit< tt) v valid)

cid_by : (w : Version) (l : Link) → l.version ≡ w → IsValid 64 l → cid_of (usual_text l) ≡ Some l
cid_by V0 l v valid = v0_cid (usual_text l) l v (v0_text l (usual_text l) v valid refl) (v0_read l (usual_text l) v valid refl)
cid_by V1 l v valid = ap cid_of (usual_v1 l v ∙ text_of_v1 l v) ∙ v1_cid l v valid

-- the text of a CID is read as it
pub link_read : (l : Link) → IsValid 64 l → cid_of (usual_text l) ≡ Some l
link_read l valid = cid_by l.version l refl valid

-- a text that was compared to the one that is written
pub same_text : (xs ys : List ℕ) → true ≡ bytes_eq xs ys → xs ≡ ys
same_text xs ys e = (bytes_eq-Decides xs ys).0 (sym e)

pub other_text : (xs ys : List ℕ) → false ≡ bytes_eq xs ys → xs ≡ ys → ⊥
other_text xs ys e same = let clash : ◌≡◌ {A = Bool} true false = sym ((bytes_eq-Decides xs ys).1 same) ∙ sym e in cc
