-- Entries by themselves: what is written of a scalar is its bytes.
use Rattle.std.proofs.Common.{◌≡◌, ℕ, suc, ◌+◌, ◌≤◌, true, false, cond, eqb, List, [], ◌∷◌, ◌++◌, length, take, drop, Option, Some, None, Result, Ok, Err, inl, inr, refl, sym, ap, subst, ◌∙◌, arith, length-drop}
use Rattle.std.specs.Prelude.{pos, negsuc, ◌==◌, ◌&&◌, nat_lt}
use Rattle.std.specs.Str.{IsUtf8, is_utf8}
use Rattle.std.proofs.lemmas.Str.{IsUtf8-from_is_utf8}
use Rattle.std.proofs.lemmas.Bool.{and_parts, eqb-true, ltb-false, cases_Bool, cases_lt}
use Rattle.std.proofs.lemmas.List.{length-take, length-take-le, get_or-take, get_or-drop, get_or_past}
use Rattle.ipld_cid.specs.declared.error.CidError.{CidError}
use Rattle.ipld_cid.specs.Cid.{Link}
use Rattle.ipld_cid.specs.Bytes.{read_cid}
use Rattle.ipld_cid.specs.Multihash.{IsBytes}
use Rattle.ipld_cid.proofs.Encodings.{read_is_encoded}
use Rattle.ipld_tokens.specs.Token.{none, boolean, integer, text}
use Rattle.ipld_tokens.specs.Item.{Item, atom_item, bytes_item, link_item}
use Rattle.dag_cbor_format.specs.declared.major.Major.{Major}
use Rattle.dag_cbor_format.specs.declared.major.Major.TheVariants as major
use Rattle.dag_cbor_format.specs.Head.{head}
use Rattle.dag_cbor_format.specs.Floats.{is_finite}
use Rattle.dag_cbor_blocks.specs.Tape.{entry}
use Rattle.dag_cbor_blocks.specs.declared.tape.TapeEntry.{TapeEntry}
use Rattle.dag_cbor_tape.specs.declared.entry.EntryKind.{EntryKind}
use Rattle.dag_cbor_tape.specs.declared.entry.EntryKind.TheVariants as kind
use Rattle.dag_cbor_tape.specs.declared.error.EncodeErrorKind.TheVariants as wrong
use Rattle.dag_cbor_tape.specs.Entry.{kind_of, content_of, simple_of, number_of, float_of, text_of, bytes_of, cid_of, link_of, written_of}
use Rattle.dag_cbor_tape.specs.Describes.{DescribesText, Describes}
use Rattle.dag_cbor_tape.proofs.Results.{then_ok, else_some, ok_same, some_same}

-- ---- kinds

abbrev pub number : EntryKind → ℕ
number kind.Null = 0
number kind.False = 1
number kind.True = 2
number kind.Unsigned = 3
number kind.Negative = 4
number kind.Float = 5
number kind.Text = 6
number kind.Bytes = 7
number kind.Link = 8
number kind.List = 9
number kind.Map = 10
number kind.Key = 11

peel : (n m : ℕ) (x k : EntryKind) (rest : Option EntryKind) → m ≡ number x → (rest ≡ Some k → n ≡ number k) → cond (eqb n m) (Some x) rest ≡ Some k → n ≡ number k
peel n m x k rest is more e =
    elim (cases_Bool (eqb n m)) [
      | inl t ↦ (let found = rw t at e in eqb-true n m t ∙ is ∙ ap number (some_same x k found))
      | inr f ↦ more (rw f at e)
    ]

no_kind : (n : ℕ) (k : EntryKind) → None ≡ Some k → n ≡ number k
no_kind n k e = absurd cc

pub kind_number : (n : ℕ) (k : EntryKind) → kind_of n ≡ Some k → n ≡ number k
unfolding kind_of
kind_number n k e =
    peel n 0 kind.Null k _ refl (peel n 1 kind.False k _ refl (peel n 2 kind.True k _ refl (peel n 3 kind.Unsigned k _ refl (peel n 4 kind.Negative k _ refl
    (peel n 5 kind.Float k _ refl (peel n 6 kind.Text k _ refl (peel n 7 kind.Bytes k _ refl (peel n 8 kind.Link k _ refl (peel n 9 kind.List k _ refl
    (peel n 10 kind.Map k _ refl (peel n 11 kind.Key k _ refl (no_kind n k)))))))))))) e

pub kind_is : (k : EntryKind) → kind_of (number k) ≡ Some k
unfolding kind_of
kind_is kind.Null = refl
kind_is kind.False = refl
kind_is kind.True = refl
kind_is kind.Unsigned = refl
kind_is kind.Negative = refl
kind_is kind.Float = refl
kind_is kind.Text = refl
kind_is kind.Bytes = refl
kind_is kind.Link = refl
kind_is kind.List = refl
kind_is kind.Map = refl
kind_is kind.Key = refl

-- neither a list nor a map nor a key
abbrev pub IsScalar : EntryKind → Type 0
IsScalar kind.List = ⊥
IsScalar kind.Map = ⊥
IsScalar kind.Key = ⊥
IsScalar _ = Unit {0}

pub entry_is : (e : TapeEntry) (k l v : ℕ) → e.kind ≡ k → e.len ≡ l → e.value ≡ v → e ≡ entry k l v
entry_is e k l v a b c =
    ap (λ (x : ℕ). entry x e.len e.value) a ∙ ap (λ (x : ℕ). entry k x e.value) b ∙ ap (λ (x : ℕ). entry k l x) c

-- ---- content

content_where : (over : List ℕ) (e : TapeEntry) (c : List ℕ) → content_of over e ≡ Some c → (e.value + e.len ≤ length over) × (take e.len (drop e.value over) ≡ c)
unfolding content_of
content_where over e c is =
    let t = else_some (nat_lt (length over) (e.value + e.len)) (Some (take e.len (drop e.value over))) c is in
    (ltb-false (length over) (e.value + e.len) t.0, some_same (take e.len (drop e.value over)) c t.1)

pub content_length : (over : List ℕ) (e : TapeEntry) (c : List ℕ) → content_of over e ≡ Some c → length c ≡ e.len
content_length over e c is =
    let t = content_where over e c is in
    ap length (sym t.1) ∙ length-take-le e.len (drop e.value over) (omega (arith, length-drop e.value over))

cut-bytes : (over : List ℕ) (m n : ℕ) → IsBytes over → IsBytes (take n (drop m over))
cut-bytes over m n whole i =
    elim (cases_lt i n) [
      | inl within ↦ rw (get_or-take n (drop m over) i 0 within, get_or-drop m over i 0) (whole (m + i))
      | inr past ↦ (let none = get_or_past (take n (drop m over)) i 0 (omega (arith, length-take n (drop m over))) in rw none (omega arith))
    ]

pub content_bytes : (over : List ℕ) (e : TapeEntry) (c : List ℕ) → IsBytes over → content_of over e ≡ Some c → IsBytes c
content_bytes over e c whole is = subst IsBytes (content_where over e c is).1 (cut-bytes over e.value e.len whole)

-- ---- what is written of scalars

simple_sound : (n : ℕ) (e : TapeEntry) (b : List ℕ) → simple_of n e ≡ Ok b → (e.len ≡ 0) × (e.value ≡ 0) × (b ≡ head major.Simple n)
simple_sound n e b w =
    let t = then_ok (e.len == 0 && e.value == 0) (Ok (head major.Simple n)) wrong.Fields b w in
    let p = and_parts (e.len == 0) (e.value == 0) t.0 in
    (eqb-true e.len 0 p.0, eqb-true e.value 0 p.1, sym (ok_same (head major.Simple n) b t.1))

number_sound : (m : Major) (e : TapeEntry) (b : List ℕ) → number_of m e ≡ Ok b → (e.len ≡ 0) × (b ≡ head m e.value)
number_sound m e b w =
    let t = then_ok (e.len == 0) (Ok (head m e.value)) wrong.Fields b w in
    (eqb-true e.len 0 t.0, sym (ok_same (head m e.value) b t.1))

pub text_sound : (o : Option (List ℕ)) (b : List ℕ) → text_of o ≡ Ok b → (s : List ℕ) × (o ≡ Some s) × IsUtf8 s × (b ≡ head major.Text (length s) ++ s)
text_sound None b w = absurd cc
text_sound (Some s) b w =
    let t = then_ok (is_utf8 s) (Ok (head major.Text (length s) ++ s)) wrong.Utf8 b w in
    (s, refl, IsUtf8-from_is_utf8 s t.0, sym (ok_same (head major.Text (length s) ++ s) b t.1))

float_sound : (o : Option (List ℕ)) (b : List ℕ) → float_of o ≡ Ok b → (c : List ℕ) × (o ≡ Some c) × (is_finite c ≡ true) × (b ≡ 251 ∷ c)
float_sound None b w = absurd cc
float_sound (Some c) b w =
    let t = then_ok (is_finite c) (Ok (251 ∷ c)) wrong.Float b w in
    (c, refl, t.0, sym (ok_same (251 ∷ c) b t.1))

bytes_sound : (o : Option (List ℕ)) (b : List ℕ) → bytes_of o ≡ Ok b → (c : List ℕ) × (o ≡ Some c) × (b ≡ head major.Bytes (length c) ++ c)
bytes_sound None b w = absurd cc
bytes_sound (Some c) b w = (c, refl, sym (ok_same (head major.Bytes (length c) ++ c) b w))

-- the bytes of a link
abbrev linked : List ℕ → List ℕ
linked c = head major.Tag 42 ++ (head major.Bytes (suc (length c)) ++ 0 ∷ c)

cid_sound : (c : List ℕ) (r : Result Link CidError) (b : List ℕ) → cid_of c r ≡ Ok b → (cid : Link) × (r ≡ Ok cid) × (b ≡ linked c)
cid_sound c (Ok cid) b w = (cid, refl, sym (ok_same (linked c) b w))
cid_sound c (Err error) b w = absurd cc

link_sound : (o : Option (List ℕ)) (b : List ℕ) → link_of o ≡ Ok b → (c : List ℕ) × (cid : Link) × (o ≡ Some c) × (read_cid 64 c ≡ Ok cid) × (b ≡ linked c)
link_sound None b w = absurd cc
link_sound (Some c) b w = let t = cid_sound c (read_cid 64 c) b w in (c, t.0, refl, t.1, t.2)

pub text_described : (over : List ℕ) (n : ℕ) (e : TapeEntry) (b : List ℕ) → e.kind ≡ n → text_of (content_of over e) ≡ Ok b → (s : List ℕ) × DescribesText over n s e b
text_described over n e b is w =
    let t = text_sound (content_of over e) b w in
    (t.0, record { refers = record { kind_is = is; content_is = t.1 }; utf8 = t.2; is = t.3 })

-- a scalar
pub scalar_sound : (over : List ℕ) (k : EntryKind) (e : TapeEntry) (b : List ℕ) → IsBytes over → e.kind ≡ number k → IsScalar k → written_of over k e ≡ Ok b
    → (i : Item 64) × Describes over i (e ∷ []) b
unfolding written_of
scalar_sound over kind.Null e b whole is scalar w = let s = simple_sound 22 e b w in (atom_item none, (e, inl (entry_is e 0 0 0 is s.0 s.1, s.2), refl))
scalar_sound over kind.False e b whole is scalar w = let s = simple_sound 20 e b w in (atom_item (boolean false), (e, (entry_is e 1 0 0 is s.0 s.1, s.2), refl))
scalar_sound over kind.True e b whole is scalar w = let s = simple_sound 21 e b w in (atom_item (boolean true), (e, (entry_is e 2 0 0 is s.0 s.1, s.2), refl))
scalar_sound over kind.Unsigned e b whole is scalar w = let s = number_sound major.Unsigned e b w in (atom_item (integer (pos e.value)), (e, (entry_is e 3 0 e.value is s.0 refl, s.1), refl))
scalar_sound over kind.Negative e b whole is scalar w = let s = number_sound major.Negative e b w in (atom_item (integer (negsuc e.value)), (e, (entry_is e 4 0 e.value is s.0 refl, s.1), refl))
scalar_sound over kind.Float e b whole is scalar w =
    let t = then_ok (e.len == 8) (float_of (content_of over e)) wrong.Fields b w in
    let s = float_sound (content_of over e) b t.1 in
    let wide = eqb-true e.len 8 t.0 in (
      atom_item none,
      (
        e,
        inr (record {
          content = s.0;
          refers = record { kind_is = is; content_is = s.1 };
          wide = wide;
          is = s.3;
          float = record { content = s.0; is = s.3; wide = content_length over e s.0 s.1 ∙ wide; finite = s.2 };
        }),
        refl,
      ),
    )
scalar_sound over kind.Text e b whole is scalar w = let t = text_described over 6 e b is w in (atom_item (text t.0), (e, t.1, refl))
scalar_sound over kind.Bytes e b whole is scalar w =
    let t = bytes_sound (content_of over e) b w in (bytes_item t.0, (e, record { kind_is = is; content_is = t.1 }, t.2, refl))
scalar_sound over kind.Link e b whole is scalar w =
    let t = link_sound (content_of over e) b w in
    let cid = read_is_encoded 64 t.0 t.1 (content_bytes over e t.0 whole t.2) t.3 in
    (link_item t.0 t.1 cid, (e, record { kind_is = is; content_is = t.2 }, t.4, refl))
scalar_sound over kind.List e b whole is scalar w = absurd scalar
scalar_sound over kind.Map e b whole is scalar w = absurd scalar
scalar_sound over kind.Key e b whole is scalar w = absurd scalar
