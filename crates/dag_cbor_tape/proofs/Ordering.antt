-- What is written of a tape, its maps gone into in order, is the canonical block: of a block's tape, and of one that describes an item.
use Rattle.std.proofs.Common.{◌≡◌, ℕ, suc, ◌+◌, ◌<◌, ◌≤◌, ◌^◌, pos, negsuc, true, false, List, [], ◌∷◌, ◌++◌, length, map, take, drop, Some, None, Result, Ok, Err, inl, inr, refl, sym, ap, subst, ◌∙◌, arith, append_assoc, length-append}
use Rattle.std.specs.Prelude.{◌==◌, nat_lt}
use Rattle.std.specs.List.{AllByRecursion, sum_by}
use Rattle.std.specs.List.Sorted.{IsPermutation}
use Rattle.std.specs.Str.{is_utf8}
use Rattle.std.proofs.lemmas.Str.{is_utf8-from_IsUtf8}
use Rattle.std.proofs.lemmas.Bool.{le-ltb, eq-eqb}
use Rattle.std.proofs.lemmas.List.{take_at, drop_at, append-nil}
use Rattle.std.proofs.lemmas.List.Sorted.{IsPermutation-sym, IsPermutation-map, All-permutation, sum_by-IsPermutation}
use Rattle.std.proofs.lemmas.List.Sums.{sum_by-append, sum_by-cons}
use Rattle.std.proofs.lemmas.List.Elements.{All-from_recursion, recursion_from_All}
use Rattle.ipld_cid.specs.Bytes.{IsCid}
use Rattle.ipld_cid.specs.Cid.{Link}
use Rattle.ipld_cid.proofs.Encodings.{encoded_is_read}
use Rattle.ipld_tokens.specs.Token.{Atom, none, unit, unit_struct, boolean, integer, unsigned, character, text, unit_variant}
use Rattle.ipld_tokens.specs.Item.{Item, atom_item, bytes_item, some_item, variant_item, list_item, map_item, link_item, Parts, no_parts, part, Pairs, no_pairs, pair}
use Rattle.dag_cbor_format.specs.declared.major.Major.TheVariants as major
use Rattle.dag_cbor_format.specs.Head.{head}
use Rattle.dag_cbor_format.specs.Encoding.{part_count, pair_count}
use Rattle.dag_cbor_format.specs.Reading.{and_key}
use Rattle.dag_cbor_format.specs.Floats.{IsFloat, is_finite}
use Rattle.dag_cbor_format.specs.WithFloats.{EncodesIn}
use Rattle.dag_cbor_blocks.specs.Tape.{entry, DescribesText, DescribesAtom, DescribesKey, Describes, DescribeParts, DescribePairs, IsTapeOf}
use Rattle.dag_cbor_blocks.specs.declared.tape.TapeEntry.{TapeEntry}
use Rattle.dag_cbor_tape.specs.declared.entry.EntryKind.{EntryKind}
use Rattle.dag_cbor_tape.specs.declared.entry.EntryKind.TheVariants as kind
use Rattle.dag_cbor_tape.specs.Canonical.{Keyed, AreInOrder, all_pairs, HasKey, Orders, OrderParts, OrderPairs, IsCanonicalOf}
use Rattle.dag_cbor_tape.specs.declared.error.EncodeErrorKind.{EncodeErrorKind}
use Rattle.dag_cbor_tape.specs.Canonicalizing.{Pair, Splits, Enters, Goes, Steps, NoStep}
use Rattle.dag_cbor_tape.specs.Memory.{IsMemory}
use Rattle.dag_cbor_tape.specs.Entry.{kind_of, content_of, text_of, float_of, link_of, cid_of, bytes_of, written_of}
use Rattle.dag_cbor_tape.specs.Structure.{after_value}
use Rattle.dag_cbor_tape.proofs.Entries.{number, IsScalar}
use Rattle.dag_cbor_tape.specs.Describes as of_data
use Rattle.dag_cbor_tape.specs.Describes.{AreNarrow}
use Rattle.dag_cbor_tape.proofs.Complete.{kind_from, after_is, scalar_span, spanned_is, text_written as text_of_data}
use Rattle.dag_cbor_tape.proofs.InFormat.{item_in, key_in_format, first_narrow, narrow_left, narrow_right}
use Rattle.dag_cbor_format.proofs.Permuting.{lifted}

-- ---- where bytes stand

record Stands (over : List ℕ) (at : ℕ) (bytes : List ℕ) : Type 0 where
  before : List ℕ
  after : List ℕ
  parts : over ≡ before ++ (bytes ++ after)
  begins : at ≡ length before

stands_first : (over : List ℕ) (at : ℕ) (a b bytes : List ℕ) → bytes ≡ a ++ b → Stands over at bytes → Stands over at a
stands_first over at a b bytes is s = record {
  before = s.before;
  after = b ++ s.after;
  parts = s.parts ∙ ap (λ (x : List ℕ). s.before ++ (x ++ s.after)) is ∙ ap (λ (x : List ℕ). s.before ++ x) (append_assoc a b s.after);
  begins = s.begins;
}

stands_more : (over : List ℕ) (at : ℕ) (a b bytes : List ℕ) → bytes ≡ a ++ b → Stands over at bytes → Stands over (at + length a) b
stands_more over at a b bytes is s = record {
  before = s.before ++ a;
  after = s.after;
  parts = s.parts ∙ ap (λ (x : List ℕ). s.before ++ (x ++ s.after)) is ∙ ap (λ (x : List ℕ). s.before ++ x) (append_assoc a b s.after)
      ∙ sym (append_assoc s.before a (b ++ s.after));
  begins = let b = s.begins in omega (arith, length-append s.before a);
}

content_there : (over : List ℕ) (kind at n : ℕ) (c : List ℕ) → n ≡ length c → Stands over at c → content_of over (entry kind n at) ≡ Some c
unfolding content_of
content_there over kind at n c is s =
    let long : length over ≡ length s.before + length (c ++ s.after) = ap length s.parts ∙ length-append s.before (c ++ s.after) in
    let enough : nat_lt (length over) (at + n) ≡ false = le-ltb (length over) (at + n) (let b = s.begins in omega (arith, length-append c s.after)) in
    let there : drop at over ≡ c ++ s.after = ap (λ (x : List ℕ). drop at x) s.parts ∙ drop_at s.before (c ++ s.after) at (sym s.begins) in
    let same : take n (drop at over) ≡ c = ap (take n) there ∙ take_at c s.after n (sym is) in
    rw (enough, same) refl

-- ---- one entry

record Scalar (over : List ℕ) (e : TapeEntry) (bytes : List ℕ) : Type 0 where
  k : EntryKind
  scalar : IsScalar k
  kind_there : kind_of e.kind ≡ Some k
  is_written : written_of over k e ≡ Ok bytes

known : (over : List ℕ) (k : EntryKind) (e x : TapeEntry) (b bytes : List ℕ) → e ≡ x → bytes ≡ b → IsScalar k → kind_of x.kind ≡ Some k → written_of over k x ≡ Ok b → Scalar over e bytes
known over k e x b bytes same is s kind w = record {
  k = k;
  scalar = s;
  kind_there = ap (λ (z : TapeEntry). kind_of z.kind) same ∙ kind;
  is_written = ap (written_of over k) same ∙ w ∙ ap (λ (z : List ℕ). Ok z) (sym is);
}

text_there : (over : List ℕ) (kind : ℕ) (s : List ℕ) (at : ℕ) (bytes : List ℕ) (e : TapeEntry) → DescribesText kind s at bytes e → Stands over at bytes
    → content_of over (entry kind (length s) (at + length (head major.Text (length s)))) ≡ Some s
text_there over kind s at bytes e d st =
    content_there over kind (at + length (head major.Text (length s))) (length s) s refl (stands_more over at (head major.Text (length s)) s bytes d.is st)

text_written : (over : List ℕ) (kind : ℕ) (s : List ℕ) (at : ℕ) (bytes : List ℕ) (e : TapeEntry) → DescribesText kind s at bytes e → Stands over at bytes
    → text_of (content_of over (entry kind (length s) (at + length (head major.Text (length s))))) ≡ Ok (head major.Text (length s) ++ s)
text_written over kind s at bytes e d st =
    let test : is_utf8 s ≡ true = is_utf8-from_IsUtf8 s d.utf8 in
    ap text_of (text_there over kind s at bytes e d st) ∙ rw test refl

float_scalar : (over : List ℕ) (at : ℕ) (bytes : List ℕ) (e : TapeEntry) → Stands over at bytes → IsFloat bytes → e ≡ entry 5 8 (at + 1) → Scalar over e bytes
unfolding written_of
float_scalar over at bytes e s f same =
    let there = content_there over 5 (at + 1) 8 f.content (sym f.wide) (stands_more over at (251 ∷ []) f.content bytes f.is s) in
    let finite = f.finite in
    let float : float_of (Some f.content) ≡ Ok (251 ∷ f.content) = rw finite refl in
    known over kind.Float e (entry 5 8 (at + 1)) (251 ∷ f.content) bytes same f.is tt (kind_from (entry 5 8 (at + 1)) kind.Float refl) (ap float_of there ∙ float)

atom_scalar : (over : List ℕ) (a : Atom) (at : ℕ) (bytes : List ℕ) (e : TapeEntry) → Stands over at bytes → DescribesAtom a at bytes e → Scalar over e bytes
unfolding written_of
atom_scalar over none at bytes e s (inl d) = known over kind.Null e (entry 0 0 0) (head major.Simple 22) bytes d.1 d.0 tt (kind_from (entry 0 0 0) kind.Null refl) refl
atom_scalar over none at bytes e s (inr d) = float_scalar over at bytes e s d.0 d.1
atom_scalar over (boolean false) at bytes e s d = known over kind.False e (entry 1 0 0) (head major.Simple 20) bytes d.1 d.0 tt (kind_from (entry 1 0 0) kind.False refl) refl
atom_scalar over (boolean true) at bytes e s d = known over kind.True e (entry 2 0 0) (head major.Simple 21) bytes d.1 d.0 tt (kind_from (entry 2 0 0) kind.True refl) refl
atom_scalar over (integer (pos n)) at bytes e s d = known over kind.Unsigned e (entry 3 0 n) (head major.Unsigned n) bytes d.2 d.1 tt (kind_from (entry 3 0 n) kind.Unsigned refl) refl
atom_scalar over (integer (negsuc n)) at bytes e s d = known over kind.Negative e (entry 4 0 n) (head major.Negative n) bytes d.2 d.1 tt (kind_from (entry 4 0 n) kind.Negative refl) refl
atom_scalar over (text t) at bytes e s d =
    let x = entry 6 (length t) (at + length (head major.Text (length t))) in
    known over kind.Text e x (head major.Text (length t) ++ t) bytes d.entry_is d.is tt (kind_from x kind.Text refl) (text_written over 6 t at bytes e d s)
atom_scalar over unit at bytes e s d = absurd d
atom_scalar over unit_struct at bytes e s d = absurd d
atom_scalar over (unsigned n) at bytes e s d = absurd d
atom_scalar over (character n) at bytes e s d = absurd d
atom_scalar over (unit_variant t) at bytes e s d = absurd d

atom_in : (a : Atom) (at : ℕ) (bytes : List ℕ) (e : TapeEntry) → DescribesAtom a at bytes e → EncodesIn true (atom_item a) bytes
atom_in none at bytes e (inl d) = inl d.0
atom_in none at bytes e (inr d) = inr (refl, d.0)
atom_in (boolean false) at bytes e d = (tt, d.0)
atom_in (boolean true) at bytes e d = (tt, d.0)
atom_in (integer (pos n)) at bytes e d = (d.0, d.1)
atom_in (integer (negsuc n)) at bytes e d = (d.0, d.1)
atom_in (text s) at bytes e d = let t : DescribesText 6 s at bytes e = d in ((t.utf8, t.fits), t.is)
atom_in unit at bytes e d = absurd d
atom_in unit_struct at bytes e d = absurd d
atom_in (unsigned n) at bytes e d = absurd d
atom_in (character n) at bytes e d = absurd d
atom_in (unit_variant t) at bytes e d = absurd d

bytes_scalar : (over b : List ℕ) (at : ℕ) (bytes : List ℕ) → Stands over at bytes → bytes ≡ head major.Bytes (length b) ++ b
    → Scalar over (entry 7 (length b) (at + length (head major.Bytes (length b)))) bytes
unfolding written_of
bytes_scalar over b at bytes s is =
    let h = head major.Bytes (length b) in
    let x = entry 7 (length b) (at + length h) in
    known over kind.Bytes x x (h ++ b) bytes refl is tt (kind_from x kind.Bytes refl)
    (ap bytes_of (content_there over 7 (at + length h) (length b) b refl (stands_more over at h b bytes is s)))

link_scalar : (over b : List ℕ) (cid : Link) → IsCid 64 b cid → (at : ℕ) (bytes : List ℕ) → Stands over at bytes
    → bytes ≡ head major.Tag 42 ++ (head major.Bytes (suc (length b)) ++ 0 ∷ b)
    → Scalar over (entry 8 (length b) (at + length (head major.Tag 42) + length (head major.Bytes (suc (length b))) + 1)) bytes
unfolding written_of
link_scalar over b cid valid at bytes s is =
    let tag = head major.Tag 42 in
    let h = head major.Bytes (suc (length b)) in
    let x = entry 8 (length b) (at + length tag + length h + 1) in
    let behind = stands_more over at tag (h ++ 0 ∷ b) bytes is s in
    let zero_on = stands_more over (at + length tag) h (0 ∷ b) (h ++ 0 ∷ b) refl behind in
    let there = stands_more over (at + length tag + length h) (0 ∷ []) b (0 ∷ b) refl zero_on in
    known over kind.Link x x (tag ++ (h ++ 0 ∷ b)) bytes refl is tt (kind_from x kind.Link refl)
    (ap link_of (content_there over 8 (at + length tag + length h + 1) (length b) b refl there) ∙ ap (cid_of b) (encoded_is_read 64 b cid valid))

list_written : (over : List ℕ) (e : TapeEntry) → written_of over kind.List e ≡ Ok (head major.List e.value)
unfolding written_of
list_written over e = refl

record Key (over : List ℕ) (k : Item 64) (e : TapeEntry) (name : List ℕ) : Type 0 where
  key : List ℕ
  has : HasKey k key
  is : name ≡ head major.Text (length key) ++ key
  content : content_of over e ≡ Some key
  kind_there : kind_of e.kind ≡ Some kind.Key
  is_written : written_of over kind.Key e ≡ Ok name

key_there : (over : List ℕ) (k : Item 64) (at : ℕ) (name : List ℕ) (e : TapeEntry) → Stands over at name → DescribesKey k at name e → Key over k e name
unfolding written_of
key_there over (atom_item (text s)) at name e st d =
    let x = entry 11 (length s) (at + length (head major.Text (length s))) in
    record {
      key = s;
      has = ((d.utf8, d.fits), refl);
      is = d.is;
      content = ap (content_of over) d.entry_is ∙ text_there over 11 s at name e d st;
      kind_there = ap (λ (z : TapeEntry). kind_of z.kind) d.entry_is ∙ kind_from x kind.Key refl;
      is_written = ap (written_of over kind.Key) d.entry_is ∙ text_written over 11 s at name e d st ∙ ap (λ (z : List ℕ). Ok z) (sym d.is);
    }
key_there over (atom_item none) at name e st d = absurd d
key_there over (atom_item unit) at name e st d = absurd d
key_there over (atom_item unit_struct) at name e st d = absurd d
key_there over (atom_item (boolean b)) at name e st d = absurd d
key_there over (atom_item (integer n)) at name e st d = absurd d
key_there over (atom_item (unsigned n)) at name e st d = absurd d
key_there over (atom_item (character c)) at name e st d = absurd d
key_there over (atom_item (unit_variant s)) at name e st d = absurd d
key_there over (bytes_item b) at name e st d = absurd d
key_there over (some_item i) at name e st d = absurd d
key_there over (variant_item n i) at name e st d = absurd d
key_there over (list_item is) at name e st d = absurd d
key_there over (map_item ps) at name e st d = absurd d
key_there over (link_item encoded cid is) at name e st d = absurd d

-- ---- one entry, wherever its content stands

scalar_of : (over : List ℕ) (k : EntryKind) (e : TapeEntry) (b bytes : List ℕ) → IsScalar k → e.kind ≡ number k → written_of over k e ≡ Ok b → bytes ≡ b → Scalar over e bytes
scalar_of over k e b bytes s kind w is = record { k = k; scalar = s; kind_there = kind_from e k kind; is_written = w ∙ ap (λ (z : List ℕ). Ok z) (sym is) }

float_of_data : (over : List ℕ) (e : TapeEntry) (bytes : List ℕ) → of_data.DescribesFloat over e bytes → Scalar over e bytes
unfolding written_of
float_of_data over e bytes d =
    let c = d.content in
    let parts : 251 ∷ d.float.content ≡ 251 ∷ c = sym d.float.is ∙ d.is in
    let same : d.float.content ≡ c = cc in
    let finite : is_finite c ≡ true = subst (λ (x : List ℕ). is_finite x ≡ true) same d.float.finite in
    let wide : (e.len == 8) ≡ true = eq-eqb e.len 8 d.wide in
    let float : float_of (Some c) ≡ Ok (251 ∷ c) = rw finite refl in
    let content = d.refers.content_is in
    scalar_of over kind.Float e (251 ∷ c) bytes tt d.refers.kind_is (rw wide (ap float_of content ∙ float)) d.is

atom_of_data : (over : List ℕ) (a : Atom) (e : TapeEntry) (bytes : List ℕ) → of_data.DescribesAtom over a e bytes → Scalar over e bytes
unfolding written_of
atom_of_data over none e bytes (inl d) = known over kind.Null e (entry 0 0 0) (head major.Simple 22) bytes d.0 d.1 tt (kind_from (entry 0 0 0) kind.Null refl) refl
atom_of_data over none e bytes (inr d) = float_of_data over e bytes d
atom_of_data over (boolean false) e bytes d = known over kind.False e (entry 1 0 0) (head major.Simple 20) bytes d.0 d.1 tt (kind_from (entry 1 0 0) kind.False refl) refl
atom_of_data over (boolean true) e bytes d = known over kind.True e (entry 2 0 0) (head major.Simple 21) bytes d.0 d.1 tt (kind_from (entry 2 0 0) kind.True refl) refl
atom_of_data over (integer (pos n)) e bytes d = known over kind.Unsigned e (entry 3 0 n) (head major.Unsigned n) bytes d.0 d.1 tt (kind_from (entry 3 0 n) kind.Unsigned refl) refl
atom_of_data over (integer (negsuc n)) e bytes d = known over kind.Negative e (entry 4 0 n) (head major.Negative n) bytes d.0 d.1 tt (kind_from (entry 4 0 n) kind.Negative refl) refl
atom_of_data over (text s) e bytes d = scalar_of over kind.Text e (head major.Text (length s) ++ s) bytes tt d.refers.kind_is (text_of_data over 6 s e bytes d) d.is
atom_of_data over unit e bytes d = absurd d
atom_of_data over unit_struct e bytes d = absurd d
atom_of_data over (unsigned n) e bytes d = absurd d
atom_of_data over (character n) e bytes d = absurd d
atom_of_data over (unit_variant s) e bytes d = absurd d

bytes_of_data : (over b : List ℕ) (e : TapeEntry) (bytes : List ℕ) → of_data.Refers over 7 e b → bytes ≡ head major.Bytes (length b) ++ b → Scalar over e bytes
unfolding written_of
bytes_of_data over b e bytes r is = scalar_of over kind.Bytes e (head major.Bytes (length b) ++ b) bytes tt r.kind_is (ap bytes_of r.content_is) is

link_of_data : (over b : List ℕ) (cid : Link) → IsCid 64 b cid → (e : TapeEntry) (bytes : List ℕ) → of_data.Refers over 8 e b
    → bytes ≡ head major.Tag 42 ++ (head major.Bytes (suc (length b)) ++ 0 ∷ b) → Scalar over e bytes
unfolding written_of
link_of_data over b cid valid e bytes r is =
    scalar_of over kind.Link e (head major.Tag 42 ++ (head major.Bytes (suc (length b)) ++ 0 ∷ b)) bytes tt r.kind_is
    (ap link_of r.content_is ∙ ap (cid_of b) (encoded_is_read 64 b cid valid)) is

key_of_data : (over : List ℕ) (seen : List (List ℕ)) (k : Item 64) (key : List ℕ) (e : TapeEntry) (name : List ℕ) → e.len < 2 ^ 32 → of_data.DescribesKey over seen k key e name → Key over k e name
unfolding written_of
key_of_data over seen (atom_item (text s)) key e name short d =
    let t = d.0 in
    record {
      key = s;
      has = ((key_in_format over seen (atom_item (text s)) key e name short d).0, refl);
      is = t.is;
      content = t.refers.content_is;
      kind_there = kind_from e kind.Key t.refers.kind_is;
      is_written = text_of_data over 11 s e name t ∙ ap (λ (z : List ℕ). Ok z) (sym t.is);
    }
key_of_data over seen _ key e name short d = absurd d

-- ---- what is still to be written leads to a result

abbrev pub NoMap : EntryKind → Type 0
NoMap kind.Map = ⊥
NoMap _ = Unit {0}

pub data Good (over : List ℕ) (Q : List ℕ → Type 0) : List ℕ → List (List TapeEntry) → Type 0 where
  finished : (out : List ℕ) → Q out → Good over Q out []
  left_behind : (out : List ℕ) (rs : List (List TapeEntry)) → Good over Q out rs → Good over Q out ([] ∷ rs)
  one_written : (out b : List ℕ) (k : EntryKind) (e : TapeEntry) (es : List TapeEntry) (rs : List (List TapeEntry)) → NoMap k → kind_of e.kind ≡ Some k
      → written_of over k e ≡ Ok b → Good over Q (out ++ b) (es ∷ rs) → Good over Q out ((e ∷ es) ∷ rs)
  map_entered : (out b : List ℕ) (e : TapeEntry) (inner behind es : List TapeEntry) (rs : List (List TapeEntry)) (pairs : List Pair) → kind_of e.kind ≡ Some kind.Map
      → written_of over kind.Map e ≡ Ok b → es ≡ inner ++ behind → e.len ≡ suc (length inner) → Splits over inner pairs
      → ((ordered : List Pair) → IsPermutation pairs ordered → AreInOrder (map (λ p. p.0) ordered) → Good over Q (out ++ b) (map (λ p. p.1) ordered ++ (behind ∷ rs)))
      → Good over Q out ((e ∷ es) ∷ rs)

-- a pair of a map: its key, the bytes of that, its value with its bytes, and its entries
record Member : Type 0 where
  key : List ℕ
  name : List ℕ
  value : Item 64
  first : List ℕ
  entries : List TapeEntry

abbrev view : Member → Pair
view m = (m.key, m.entries)

-- a pair with what is written of its value
record Own : Type 0 where
  member : Member
  own : List ℕ
  orders : Orders member.value member.first own

abbrev keyed : Own → Keyed
keyed o = (o.member.key, o.member.name ++ o.own)

keys_same : (os : List Own) → map (λ (p : Pair). p.0) (map view (map (λ (o : Own). o.member) os)) ≡ map (λ (p : Keyed). p.0) (map keyed os)
keys_same [] = refl
keys_same (o ∷ os) = ap (λ (ks : List (List ℕ)). o.member.key ∷ ks) (keys_same os)

entries_same : (ms : List Member) → map (λ (p : Pair). p.1) (map view ms) ≡ map (λ (m : Member). m.entries) ms
entries_same [] = refl
entries_same (m ∷ ms) = ap (λ (es : List (List TapeEntry)). m.entries ∷ es) (entries_same ms)

none_left : (os : List Own) → map (λ (o : Own). o.member) os ≡ [] → os ≡ []
none_left [] e = refl
none_left (o ∷ os) e = absurd cc

-- a pair before others
ordered_pairs : (k v : Item 64) (ps : Pairs 64) (bytes key name first more : List ℕ) (m : Member) → HasKey k key → name ≡ head major.Text (length key) ++ key → bytes ≡ name ++ (first ++ more)
    → m.key ≡ key → m.name ≡ name → m.value ≡ v → m.first ≡ first → (ms : List Member) (os : List Own) → map (λ (o : Own). o.member) os ≡ m ∷ ms
    → ((qs : List Own) → map (λ (o : Own). o.member) qs ≡ ms → OrderPairs ps more (map keyed qs)) → OrderPairs (pair k v ps) bytes (map keyed os)
ordered_pairs k v ps bytes key name first more m has is bytes_is a b c d ms [] same rest = absurd cc
ordered_pairs k v ps bytes key name first more m has is bytes_is a b c d ms (o ∷ os) same rest =
    let here : o.member ≡ m = cc in
    let there : map (λ (o : Own). o.member) os ≡ ms = cc in
    let own : Orders v first o.own =
    subst (λ (i : Item 64). Orders i first o.own) (ap (λ (x : Member). x.value) here ∙ c)
    (subst (λ (x : List ℕ). Orders o.member.value x o.own) (ap (λ (x : Member). x.first) here ∙ d) o.orders) in
    let key_is : o.member.key ≡ key = ap (λ (x : Member). x.key) here ∙ a in
    let name_is : o.member.name ≡ head major.Text (length key) ++ key = ap (λ (x : Member). x.name) here ∙ b ∙ is in (
      key,
      first,
      more,
      o.own,
      map keyed os,
      has,
      own,
      rest os there,
      bytes_is ∙ ap (λ (x : List ℕ). x ++ (first ++ more)) is,
      ap (λ (x : List ℕ). (x, o.member.name ++ o.own) ∷ map keyed os) key_is ∙ ap (λ (x : List ℕ). (key, x ++ o.own) ∷ map keyed os) name_is,
    )

module _ (over : List ℕ) (Q : List ℕ → Type 0) where
  -- these entries are written, as one of these, and then others
  abbrev Leads : (List ℕ → Type 0) → List TapeEntry → Type 0
  Leads W es = (out : List ℕ) (tail : List TapeEntry) (rs : List (List TapeEntry)) → ((w : List ℕ) → W w → Good over Q (out ++ w) (tail ∷ rs)) → Good over Q out ((es ++ tail) ∷ rs)

  record Value (i : Item 64) (bytes : List ℕ) (es : List TapeEntry) : Type 0 where
    after : (tail : List TapeEntry) → after_value (es ++ tail) ≡ Ok tail
    leads : Leads (Orders i bytes) es

  joined : (out a w : List ℕ) (rs : List (List TapeEntry)) → Good over Q (out ++ (a ++ w)) rs → Good over Q ((out ++ a) ++ w) rs
  joined out a w rs g = subst (λ (x : List ℕ). Good over Q x rs) (sym (append_assoc out a w)) g

  scalar_value : (i : Item 64) (bytes : List ℕ) (e : TapeEntry) (es : List TapeEntry) → es ≡ e ∷ [] → Scalar over e bytes → Orders i bytes bytes → Value i bytes es
  scalar_value i bytes e es one s o =
      subst (Value i bytes) (sym one) (record {
        after = λ tail. after_is e [] tail s.k s.kind_there (scalar_span s.k e s.scalar);
        leads = λ out tail rs g. one_written out bytes s.k e tail rs (no_map s.k s.scalar) s.kind_there s.is_written (g bytes o);
      })
    where
      no_map : (k : EntryKind) → IsScalar k → NoMap k
      no_map kind.Map s = absurd s
      no_map kind.Null s = tt
      no_map kind.False s = tt
      no_map kind.True s = tt
      no_map kind.Unsigned s = tt
      no_map kind.Negative s = tt
      no_map kind.Float s = tt
      no_map kind.Text s = tt
      no_map kind.Bytes s = tt
      no_map kind.Link s = tt
      no_map kind.List s = tt
      no_map kind.Key s = tt

  -- a pair is written, and then others
  abbrev PairLeads : Member → Type 0
  PairLeads m = (out : List ℕ) (rs : List (List TapeEntry)) → ((own : List ℕ) → Orders m.value m.first own → Good over Q (out ++ (m.name ++ own)) rs) → Good over Q out (m.entries ∷ rs)

  record Members (ps : Pairs 64) (bytes : List ℕ) (es : List TapeEntry) : Type 0 where
    members : List Member
    splits : Splits over es (map view members)
    leads : AllByRecursion PairLeads members
    orders : (os : List Own) → map (λ (o : Own). o.member) os ≡ members → OrderPairs ps bytes (map keyed os)

  many : (ms : List Member) → AllByRecursion PairLeads ms → (out : List ℕ) (rs : List (List TapeEntry))
      → ((os : List Own) → map (λ (o : Own). o.member) os ≡ ms → Good over Q (out ++ all_pairs (map keyed os)) rs) → Good over Q out (map (λ (m : Member). m.entries) ms ++ rs)
  many [] led out rs g = subst (λ (x : List ℕ). Good over Q x rs) (append-nil out) (g [] refl)
  many (m ∷ ms) led out rs g =
      led.0 out (map (λ (x : Member). x.entries) ms ++ rs) (λ own o.
      many ms led.1 (out ++ (m.name ++ own)) rs (λ os same.
      let one : Own = record { member = m; own = own; orders = o } in
      joined out (m.name ++ own) (all_pairs (map keyed os)) rs (g (one ∷ os) (ap (λ (xs : List Member). m ∷ xs) same))))

  -- the pairs of a map in order
  map_leads : (ps : Pairs 64) (bytes content : List ℕ) (inner : List TapeEntry) → pair_count ps < 2 ^ 64 → bytes ≡ head major.Map (pair_count ps) ++ content
      → Members ps content inner → Leads (Orders (map_item ps) bytes) (entry 10 (suc (length inner)) (pair_count ps) ∷ inner)
  unfolding written_of
  map_leads ps bytes content inner few is m out tail rs g =
      let h = head major.Map (pair_count ps) in
      let e = entry 10 (suc (length inner)) (pair_count ps) in
      map_entered out h e inner tail (inner ++ tail) rs (map view m.members) (kind_from e kind.Map refl) refl refl refl m.splits (λ ordered same sorted.
      let l = lifted view m.members ordered same in
      let led = recursion_from_All PairLeads l.list (All-permutation PairLeads m.members l.list l.same (All-from_recursion PairLeads m.members m.leads)) in
      subst (λ (xs : List (List TapeEntry)). Good over Q (out ++ h) (xs ++ (tail ∷ rs))) (sym (ap (map (λ (p : Pair). p.1)) l.is ∙ entries_same l.list))
      (many l.list led (out ++ h) (tail ∷ rs) (λ os of_list.
      let u = lifted (λ (o : Own). o.member) os m.members
      (subst (λ (xs : List Member). IsPermutation xs m.members) (sym of_list) (IsPermutation-sym m.members l.list l.same)) in
      let keys : map (λ (p : Pair). p.0) ordered ≡ map (λ (p : Keyed). p.0) (map keyed os) =
      ap (map (λ (p : Pair). p.0)) (l.is ∙ ap (map view) (sym of_list)) ∙ keys_same os in
      joined out h (all_pairs (map keyed os)) (tail ∷ rs) (g (h ++ all_pairs (map keyed os)) (
        few,
        content,
        map keyed u.list,
        map keyed os,
        m.orders u.list (sym u.is),
        record { same = IsPermutation-map keyed u.list os (IsPermutation-sym os u.list u.same); in_order = subst AreInOrder keys sorted },
        is,
        refl,
      )))))

  mutual
    value_there : (i : Item 64) (at : ℕ) (bytes : List ℕ) (es : List TapeEntry) → Stands over at bytes → Describes i at bytes es → Value i bytes es
    value_there (atom_item a) at bytes es s d = scalar_value (atom_item a) bytes d.0 es d.2 (atom_scalar over a at bytes d.0 s d.1) (atom_in a at bytes d.0 d.1, refl)
    value_there (bytes_item b) at bytes es s d = scalar_value (bytes_item b) bytes _ es d.2 (bytes_scalar over b at bytes s d.1) ((d.0, d.1), refl)
    value_there (some_item i) at bytes es s d = absurd d
    value_there (variant_item name i) at bytes es s d = absurd d
    value_there (list_item is) at bytes es s d =
        let n = part_count is in
        let h = head major.List n in
        let content = d.1 in
        let inner = d.2 in
        let e = entry 9 (suc (length inner)) n in
        subst (Value (list_item is) bytes) (sym d.5) (record {
          after = λ tail. after_is e inner tail kind.List (kind_from e kind.List refl) (spanned_is e (length inner) refl);
          leads = λ out tail rs g.
              one_written out h kind.List e (inner ++ tail) rs tt (kind_from e kind.List refl) (list_written over e)
              (parts_there is (at + length h) content inner (stands_more over at h content bytes d.4 s) d.3 (out ++ h) tail rs (λ w o.
              joined out h w (tail ∷ rs) (g (h ++ w) (d.0, content, w, o, d.4, refl))));
        })
    value_there (map_item ps) at bytes es s d =
        let n = pair_count ps in
        let h = head major.Map n in
        let content = d.1 in
        let inner = d.2 in
        let e = entry 10 (suc (length inner)) n in
        subst (Value (map_item ps) bytes) (sym d.5) (record {
          after = λ tail. after_is e inner tail kind.Map (kind_from e kind.Map refl) (spanned_is e (length inner) refl);
          leads = map_leads ps bytes content inner d.0 d.4 (pairs_there ps (at + length h) content inner (stands_more over at h content bytes d.4 s) d.3);
        })
    value_there (link_item encoded cid is) at bytes es s d =
        scalar_value (link_item encoded cid is) bytes _ es d.2 (link_scalar over encoded cid is at bytes s d.1) ((d.0, d.1), refl)

    parts_there : (is : Parts 64) (at : ℕ) (bytes : List ℕ) (es : List TapeEntry) → Stands over at bytes → DescribeParts is at bytes es → Leads (OrderParts is bytes) es
    parts_there no_parts at bytes es s d out tail rs g =
        subst (λ (xs : List TapeEntry). Good over Q out ((xs ++ tail) ∷ rs)) (sym d.1)
        (subst (λ (x : List ℕ). Good over Q x (tail ∷ rs)) (append-nil out) (g [] (d.0, refl)))
    parts_there (part i is) at bytes es s (first, more, here, others, di, dis, bytes_is, es_is) out tail rs g =
        let v = value_there i at first here (stands_first over at first more bytes bytes_is s) di in
        subst (λ (xs : List TapeEntry). Good over Q out (xs ∷ rs)) (sym (ap (λ (xs : List TapeEntry). xs ++ tail) es_is ∙ append_assoc here others tail))
        (v.leads out (others ++ tail) rs (λ own o.
        parts_there is (at + length first) more others (stands_more over at first more bytes bytes_is s) dis (out ++ own) tail rs (λ w p.
        joined out own w (tail ∷ rs) (g (own ++ w) (first, more, own, w, o, p, bytes_is, refl)))))

    pairs_there : (ps : Pairs 64) (at : ℕ) (bytes : List ℕ) (es : List TapeEntry) → Stands over at bytes → DescribePairs ps at bytes es → Members ps bytes es
    pairs_there no_pairs at bytes es s d = record {
      members = [];
      splits = d.1;
      leads = tt;
      orders = λ os same. (d.0, ap (map keyed) (none_left os same));
    }
    pairs_there (pair k v ps) at bytes es s (name, first, more, e, here, others, dk, dv, dps, bytes_is, es_is) =
        let behind = stands_more over at name (first ++ more) bytes bytes_is s in
        let key = key_there over k at name e (stands_first over at name (first ++ more) bytes bytes_is s) dk in
        let x = value_there v (at + length name) first here (stands_first over (at + length name) first more (first ++ more) refl behind) dv in
        let m = pairs_there ps (at + length name + length first) more others (stands_more over (at + length name) first more (first ++ more) refl behind) dps in
        let own : Member = record { key = key.key; name = name; value = v; first = first; entries = e ∷ here } in
        record {
          members = own ∷ m.members;
          splits = (e, here, others, es_is, key.content, x.after others, refl, m.splits);
          leads = (
            λ out rs g.
                one_written out name kind.Key e here rs tt key.kind_there key.is_written
                (subst (λ (xs : List TapeEntry). Good over Q (out ++ name) (xs ∷ rs)) (append-nil here)
                (x.leads (out ++ name) [] rs (λ w o. left_behind ((out ++ name) ++ w) rs (joined out name w rs (g w o))))),
            m.leads,
          );
          orders = λ os same.
              ordered_pairs k v ps bytes key.key name first more own key.has key.is bytes_is refl refl refl refl m.members os same m.orders;
        }

  mutual
    value_of : (i : Item 64) (bytes : List ℕ) (es : List TapeEntry) → AreNarrow es → of_data.Describes over i es bytes → Value i bytes es
    value_of (atom_item a) bytes es n d =
        scalar_value (atom_item a) bytes d.0 es d.2 (atom_of_data over a d.0 bytes d.1) (item_in over (atom_item a) es bytes n d, refl)
    value_of (bytes_item b) bytes es n d =
        scalar_value (bytes_item b) bytes d.0 es d.3 (bytes_of_data over b d.0 bytes d.1 d.2) (item_in over (bytes_item b) es bytes n d, refl)
    value_of (some_item i) bytes es n d = absurd d
    value_of (variant_item name i) bytes es n d = absurd d
    value_of (list_item is) bytes es n d =
        let c = part_count is in
        let h = head major.List c in
        let inner = d.0 in
        let content = d.1 in
        let e = entry 9 (suc (length inner)) c in
        let f = first_narrow e inner es n d.3 in
        subst (Value (list_item is) bytes) (sym d.3) (record {
          after = λ tail. after_is e inner tail kind.List (kind_from e kind.List refl) (spanned_is e (length inner) refl);
          leads = λ out tail rs g.
              one_written out h kind.List e (inner ++ tail) rs tt (kind_from e kind.List refl) (list_written over e)
              (parts_of is content inner f.2 d.2 (out ++ h) tail rs (λ w o.
              joined out h w (tail ∷ rs) (g (h ++ w) (f.1, content, w, o, d.4, refl))));
        })
    value_of (map_item ps) bytes es n d =
        let c = pair_count ps in
        let inner = d.0 in
        let content = d.1 in
        let e = entry 10 (suc (length inner)) c in
        let f = first_narrow e inner es n d.3 in
        subst (Value (map_item ps) bytes) (sym d.3) (record {
          after = λ tail. after_is e inner tail kind.Map (kind_from e kind.Map refl) (spanned_is e (length inner) refl);
          leads = map_leads ps bytes content inner f.1 d.4 (pairs_of ps [] content inner f.2 d.2);
        })
    value_of (link_item encoded cid is) bytes es n d =
        scalar_value (link_item encoded cid is) bytes d.0 es d.3 (link_of_data over encoded cid is d.0 bytes d.1 d.2) (item_in over (link_item encoded cid is) es bytes n d, refl)

    parts_of : (is : Parts 64) (bytes : List ℕ) (es : List TapeEntry) → AreNarrow es → of_data.DescribeParts over is es bytes → Leads (OrderParts is bytes) es
    parts_of no_parts bytes es n d out tail rs g =
        subst (λ (xs : List TapeEntry). Good over Q out ((xs ++ tail) ∷ rs)) (sym d.0)
        (subst (λ (x : List ℕ). Good over Q x (tail ∷ rs)) (append-nil out) (g [] (d.1, refl)))
    parts_of (part i is) bytes es n (here, others, first, more, di, dis, es_is, bytes_is) out tail rs g =
        let m = subst AreNarrow es_is n in
        let v = value_of i first here (narrow_left here others m) di in
        subst (λ (xs : List TapeEntry). Good over Q out (xs ∷ rs)) (sym (ap (λ (xs : List TapeEntry). xs ++ tail) es_is ∙ append_assoc here others tail))
        (v.leads out (others ++ tail) rs (λ own o.
        parts_of is more others (narrow_right here others m) dis (out ++ own) tail rs (λ w p.
        joined out own w (tail ∷ rs) (g (own ++ w) (first, more, own, w, o, p, bytes_is, refl)))))

    pairs_of : (ps : Pairs 64) (seen : List (List ℕ)) (bytes : List ℕ) (es : List TapeEntry) → AreNarrow es → of_data.DescribePairs over seen ps es bytes → Members ps bytes es
    pairs_of no_pairs seen bytes es n d = record {
      members = [];
      splits = d.0;
      leads = tt;
      orders = λ os same. (d.1, ap (map keyed) (none_left os same));
    }
    pairs_of (pair k v ps) seen bytes es n (named, e, here, others, name, first, more, dk, dv, dps, es_is, bytes_is) =
        let f = first_narrow e (here ++ others) es n es_is in
        let key = key_of_data over seen k named e name f.0 dk in
        let x = value_of v first here (narrow_left here others f.2) dv in
        let m = pairs_of ps (and_key named seen) more others (narrow_right here others f.2) dps in
        let own : Member = record { key = key.key; name = name; value = v; first = first; entries = e ∷ here } in
        record {
          members = own ∷ m.members;
          splits = (e, here, others, es_is, key.content, x.after others, refl, m.splits);
          leads = (
            λ out rs g.
                one_written out name kind.Key e here rs tt key.kind_there key.is_written
                (subst (λ (xs : List TapeEntry). Good over Q (out ++ name) (xs ∷ rs)) (append-nil here)
                (x.leads (out ++ name) [] rs (λ w o. left_behind ((out ++ name) ++ w) rs (joined out name w rs (g w o))))),
            m.leads,
          );
          orders = λ os same.
              ordered_pairs k v ps bytes key.key name first more own key.has key.is bytes_is refl refl refl refl m.members os same m.orders;
        }

-- the whole tape
pub tape_leads : (block : List ℕ) (es : List TapeEntry) → IsTapeOf es block → Good block (IsCanonicalOf block) [] (es ∷ [])
tape_leads block es (i, t, tree, d) =
    let s : Stands block 0 block = record { before = []; after = []; parts = sym (append-nil block); begins = refl } in
    let v = value_there block (IsCanonicalOf block) i 0 block es s d in
    subst (λ (xs : List TapeEntry). Good block (IsCanonicalOf block) [] (xs ∷ [])) (append-nil es)
    (v.leads [] [] [] (λ w o. left_behind w [] (finished w (i, t, tree, o))))

pub described_leads : (over : List ℕ) (es : List TapeEntry) (i : Item 64) (written : List ℕ) → AreNarrow es → of_data.Describes over i es written → Good over (Orders i written) [] (es ∷ [])
described_leads over es i written n d =
    let v = value_of over (Orders i written) i written es n d in
    subst (λ (xs : List TapeEntry). Good over (Orders i written) [] (xs ∷ [])) (append-nil es)
    (v.leads [] [] [] (λ w o. left_behind w [] (finished w o)))

-- ---- one step after the other

some_same : {A : Type 0} (x y : A) → Some x ≡ Some y → x ≡ y
some_same x y e = cc

ok_same : {A E : Type 0} (x y : A) → ◌≡◌ {A = Result A E} (Ok x) (Ok y) → x ≡ y
ok_same x y e = cc

-- entries are split in one way
same_parts : (a b c d : List TapeEntry) → a ++ b ≡ c ++ d → length a ≡ length c → (a ≡ c) × (b ≡ d)
same_parts a b c d e n = (
  sym (take_at a b (length a) refl) ∙ ap (take (length a)) e ∙ take_at c d (length a) (sym n),
  sym (drop_at a b (length a) refl) ∙ ap (drop (length a)) e ∙ drop_at c d (length a) (sym n),
)

pub splits_same : (over : List ℕ) (es : List TapeEntry) (ps qs : List Pair) → Splits over es ps → Splits over es qs → ps ≡ qs
splits_same over es [] [] a b = refl
splits_same over es [] (q ∷ qs) a b = absurd (let none : [] ≡ b.0 ∷ (b.1 ++ b.2) = sym a ∙ b.3 in cc)
splits_same over es (p ∷ ps) [] a b = absurd (let none : [] ≡ a.0 ∷ (a.1 ++ a.2) = sym b ∙ a.3 in cc)
splits_same over es (p ∷ ps) (q ∷ qs) (e, value, rest, es_is, key, after, own, more) (e', value', rest', es_is', key', after', own', more') =
    let both : e ∷ (value ++ rest) ≡ e' ∷ (value' ++ rest') = sym es_is ∙ es_is' in
    let first : e ≡ e' = cc in
    let behind : value ++ rest ≡ value' ++ rest' = cc in
    let rests : rest ≡ rest' = ok_same rest rest' (sym after ∙ ap after_value behind ∙ after') in
    let long : length value ≡ length value' =
    let n : length (value ++ rest) ≡ length (value' ++ rest') = ap length behind in
    let m : length rest ≡ length rest' = ap length rests in omega (arith, length-append value rest, length-append value' rest') in
    let values : value ≡ value' = (same_parts value rest value' rest' behind long).0 in
    let keys : p.0 ≡ q.0 = some_same p.0 q.0 (sym key ∙ ap (content_of over) first ∙ key') in
    let owns : p.1 ≡ q.1 = own ∙ ap (λ (x : TapeEntry). x ∷ value) first ∙ ap (λ (x : List TapeEntry). e' ∷ x) values ∙ sym own' in
    let others : ps ≡ qs = splits_same over rest ps qs more (subst (λ (x : List TapeEntry). Splits over x qs) (sym rests) more') in
    ap (λ (x : List ℕ). (x, p.1) ∷ ps) keys ∙ ap (λ (x : List TapeEntry). (q.0, x) ∷ ps) owns ∙ ap (λ (x : List Pair). q ∷ x) others

goes_plain : (over : List ℕ) (k : EntryKind) (e : TapeEntry) (es : List TapeEntry) (before after : List (List TapeEntry)) → NoMap k → Goes over k e es before after → after ≡ es ∷ before
goes_plain over kind.Null e es before after n g = g
goes_plain over kind.False e es before after n g = g
goes_plain over kind.True e es before after n g = g
goes_plain over kind.Unsigned e es before after n g = g
goes_plain over kind.Negative e es before after n g = g
goes_plain over kind.Float e es before after n g = g
goes_plain over kind.Text e es before after n g = g
goes_plain over kind.Bytes e es before after n g = g
goes_plain over kind.Link e es before after n g = g
goes_plain over kind.List e es before after n g = g
goes_plain over kind.Map e es before after n g = absurd n
goes_plain over kind.Key e es before after n g = g

module _ (over : List ℕ) (Q : List ℕ → Type 0) where
  stepped : (out out' : List ℕ) (e : TapeEntry) (es : List TapeEntry) (rs st st' : List (List TapeEntry)) → st ≡ (e ∷ es) ∷ rs → Steps over e es out out' rs st' → Good over Q out st → Good over Q out' st'
  stepped out out' e es rs st st' is s (finished x q) = absurd cc
  stepped out out' e es rs st st' is s (left_behind x rs' g) = absurd cc
  stepped out out' e es rs st st' is s (one_written x b k e' es' rs' plain kind_there is_written g) =
      let first : e' ≡ e = cc in
      let here : es' ≡ es = cc in
      let there : rs' ≡ rs = cc in
      let kinds : k ≡ s.kind = some_same k s.kind (sym kind_there ∙ ap (λ (x : TapeEntry). kind_of x.kind) first ∙ s.kind_is) in
      let content : b ≡ s.content =
      ok_same b s.content (sym is_written ∙ ap (λ (x : TapeEntry). written_of over k x) first ∙ ap (λ (x : EntryKind). written_of over x e) kinds ∙ s.is_written) in
      let next : st' ≡ es' ∷ rs' =
      goes_plain over s.kind e es rs st' (subst NoMap kinds plain) s.goes ∙ ap (λ (x : List TapeEntry). x ∷ rs) (sym here) ∙ ap (λ (x : List (List TapeEntry)). es' ∷ x) (sym there) in
      subst (Good over Q out') (sym next) (subst (λ (x : List ℕ). Good over Q x (es' ∷ rs')) (ap (λ (x : List ℕ). out ++ x) content ∙ sym s.appended) g)
  stepped out out' e es rs st st' is s (map_entered x b e' inner behind es' rs' pairs kind_there is_written parts spans splits g) =
      let first : e' ≡ e = cc in
      let here : es' ≡ es = cc in
      let there : rs' ≡ rs = cc in
      let kinds : kind.Map ≡ s.kind = some_same kind.Map s.kind (sym kind_there ∙ ap (λ (x : TapeEntry). kind_of x.kind) first ∙ s.kind_is) in
      let content : b ≡ s.content =
      ok_same b s.content (sym is_written ∙ ap (λ (x : TapeEntry). written_of over kind.Map x) first ∙ ap (λ (x : EntryKind). written_of over x e) kinds ∙ s.is_written) in
      let n : Enters over e es rs st' = subst (λ (x : EntryKind). Goes over x e es rs st') (sym kinds) s.goes in
      let long : length inner ≡ length n.inner =
      let lens : suc (length inner) ≡ suc (length n.inner) = sym spans ∙ ap (λ (x : TapeEntry). x.len) first ∙ n.spans in omega arith in
      let cuts = same_parts inner behind n.inner n.behind (sym parts ∙ here ∙ n.parts) long in
      let same : pairs ≡ n.pairs = splits_same over inner pairs n.pairs splits (subst (λ (x : List TapeEntry). Splits over x n.pairs) (sym cuts.0) n.splits) in
      let goes_on = g n.ordered (subst (λ (x : List Pair). IsPermutation x n.ordered) (sym same) n.same) n.in_order in
      let next : st' ≡ map (λ (p : Pair). p.1) n.ordered ++ (behind ∷ rs') =
      n.next ∙ ap (λ (x : List TapeEntry). map (λ (p : Pair). p.1) n.ordered ++ (x ∷ rs)) (sym cuts.1)
      ∙ ap (λ (x : List (List TapeEntry)). map (λ (p : Pair). p.1) n.ordered ++ (behind ∷ x)) (sym there) in
      subst (Good over Q out') (sym next)
      (subst (λ (x : List ℕ). Good over Q x (map (λ (p : Pair). p.1) n.ordered ++ (behind ∷ rs'))) (ap (λ (x : List ℕ). out ++ x) content ∙ sym s.appended) goes_on)

  -- an entry was written
  pub step_good : (out out' : List ℕ) (e : TapeEntry) (es : List TapeEntry) (rs st' : List (List TapeEntry)) → Good over Q out ((e ∷ es) ∷ rs) → Steps over e es out out' rs st' → Good over Q out' st'
  step_good out out' e es rs st' g s = stepped out out' e es rs ((e ∷ es) ∷ rs) st' refl s g

  failed : (out : List ℕ) (e : TapeEntry) (es : List TapeEntry) (rs st : List (List TapeEntry)) (error : EncodeErrorKind) → st ≡ (e ∷ es) ∷ rs → NoStep over e es error → Good over Q out st → IsMemory error
  failed out e es rs st error is (inl memory) g = memory
  failed out e es rs st error is n (finished x q) = absurd cc
  failed out e es rs st error is n (left_behind x rs' g) = absurd cc
  failed out e es rs st error is (inr (inl without)) (one_written x b k e' es' rs' plain kind_there is_written g) =
      absurd (let first : e' ≡ e = cc in let clash : Some k ≡ None = sym kind_there ∙ ap (λ (x : TapeEntry). kind_of x.kind) first ∙ without in cc)
  failed out e es rs st error is (inr (inr (inl w))) (one_written x b k e' es' rs' plain kind_there is_written g) =
      let first : e' ≡ e = cc in
      let kinds : k ≡ w.0 = some_same k w.0 (sym kind_there ∙ ap (λ (x : TapeEntry). kind_of x.kind) first ∙ w.1) in
      absurd (let clash : Ok b ≡ Err error = sym is_written ∙ ap (λ (x : TapeEntry). written_of over k x) first ∙ ap (λ (x : EntryKind). written_of over x e) kinds ∙ w.2 in cc)
  failed out e es rs st error is (inr (inr (inr m))) (one_written x b k e' es' rs' plain kind_there is_written g) =
      let first : e' ≡ e = cc in
      let kinds : k ≡ kind.Map = some_same k kind.Map (sym kind_there ∙ ap (λ (x : TapeEntry). kind_of x.kind) first ∙ m.0) in
      absurd (subst NoMap kinds plain)
  failed out e es rs st error is (inr (inl without)) (map_entered x b e' inner behind es' rs' pairs kind_there is_written parts spans splits g) =
      absurd (let first : e' ≡ e = cc in let clash : Some kind.Map ≡ None = sym kind_there ∙ ap (λ (x : TapeEntry). kind_of x.kind) first ∙ without in cc)
  failed out e es rs st error is (inr (inr (inl w))) (map_entered x b e' inner behind es' rs' pairs kind_there is_written parts spans splits g) =
      let first : e' ≡ e = cc in
      let kinds : kind.Map ≡ w.0 = some_same kind.Map w.0 (sym kind_there ∙ ap (λ (x : TapeEntry). kind_of x.kind) first ∙ w.1) in
      absurd (let clash : Ok b ≡ Err error = sym is_written ∙ ap (λ (x : TapeEntry). written_of over kind.Map x) first ∙ ap (λ (x : EntryKind). written_of over x e) kinds ∙ w.2 in cc)
  failed out e es rs st error is (inr (inr (inr m))) (map_entered x b e' inner behind es' rs' pairs kind_there is_written parts spans splits g) =
      let first : e' ≡ e = cc in
      let here : es' ≡ es = cc in
      absurd (m.1 inner behind pairs (sym here ∙ parts) (sym (ap (λ (x : TapeEntry). x.len) first) ∙ spans) splits)

  -- no entry of a tape is at fault
  pub step_fails : (out : List ℕ) (e : TapeEntry) (es : List TapeEntry) (rs : List (List TapeEntry)) (error : EncodeErrorKind) → Good over Q out ((e ∷ es) ∷ rs) → NoStep over e es error → IsMemory error
  step_fails out e es rs error g n = failed out e es rs ((e ∷ es) ∷ rs) error refl n g

-- ---- how much is left to do

-- what goes down with each entry that is written, and with each range that is left
abbrev pub load : List TapeEntry → ℕ
load [] = 1
load (e ∷ es) = suc (suc (length es + length es))

abbrev pub loads : List (List TapeEntry) → ℕ
loads rs = sum_by load rs

load_at_most : (es : List TapeEntry) → load es ≤ suc (length es + length es)
load_at_most [] = omega arith
load_at_most (e ∷ es) = omega arith

splits_load : (over : List ℕ) (es : List TapeEntry) (ps : List Pair) → Splits over es ps → sum_by load (map (λ (p : Pair). p.1) ps) ≡ length es + length es
splits_load over es [] s = let none : length es ≡ 0 = ap length s in omega arith
splits_load over es (p ∷ ps) (e, value, rest, es_is, key, after, own, more) =
    let here : load p.1 ≡ suc (suc (length value + length value)) = ap load own in
    let others = splits_load over rest ps more in
    let long : length es ≡ suc (length (value ++ rest)) = ap length es_is in
    sum_by-cons load p.1 (map (λ (q : Pair). q.1) ps) ∙ omega (arith, length-append value rest)

pub step_less : (over : List ℕ) (out out' : List ℕ) (e : TapeEntry) (es : List TapeEntry) (rs st' : List (List TapeEntry)) → Steps over e es out out' rs st' → loads st' < loads ((e ∷ es) ∷ rs)
step_less over out out' e es rs st' s = by s.kind s.goes
  where
    plain : st' ≡ es ∷ rs → loads st' < loads ((e ∷ es) ∷ rs)
    plain is =
        let n : loads st' ≡ loads (es ∷ rs) = ap loads is in
        omega (arith, load_at_most es, sum_by-cons load es rs, sum_by-cons load (e ∷ es) rs)

    entered : Enters over e es rs st' → loads st' < loads ((e ∷ es) ∷ rs)
    entered n =
        let is : loads st' ≡ loads (map (λ (p : Pair). p.1) n.ordered ++ (n.behind ∷ rs)) = ap loads n.next in
        let same = sum_by-IsPermutation load (map (λ (p : Pair). p.1) n.pairs) (map (λ (p : Pair). p.1) n.ordered) (IsPermutation-map (λ (p : Pair). p.1) n.pairs n.ordered n.same) in
        let inner = splits_load over n.inner n.pairs n.splits in
        let long : length es ≡ length (n.inner ++ n.behind) = ap length n.parts in
        omega (
          arith,
          is,
          same,
          inner,
          load_at_most n.behind,
          length-append n.inner n.behind,
          sum_by-append load (map (λ (p : Pair). p.1) n.ordered) (n.behind ∷ rs),
          sum_by-cons load n.behind rs,
          sum_by-cons load (e ∷ es) rs,
        )

    by : (k : EntryKind) → Goes over k e es rs st' → loads st' < loads ((e ∷ es) ∷ rs)
    by kind.Map g = entered g
    by kind.Null g = plain g
    by kind.False g = plain g
    by kind.True g = plain g
    by kind.Unsigned g = plain g
    by kind.Negative g = plain g
    by kind.Float g = plain g
    by kind.Text g = plain g
    by kind.Bytes g = plain g
    by kind.Link g = plain g
    by kind.List g = plain g
    by kind.Key g = plain g
