-- What is written is the block of an item that the entries describe.
use Rattle.std.proofs.Common.{◌≡◌, ℕ, zero, suc, ◌-◌, ◌≤◌, false, List, [], ◌∷◌, ◌++◌, length, take, drop, Option, Some, None, Result, Ok, Err, refl, sym, ap, subst, ◌∙◌, arith, append_assoc, length-append}
use Rattle.std.specs.Prelude.{◌==◌, ◌||◌, nat_lt}
use Rattle.std.proofs.lemmas.Bool.{or_parts, eqb-false, ltb-false}
use Rattle.std.proofs.lemmas.List.{take-append-le, take-append-drop, length-take-le, append-nil}
use Rattle.ipld_cid.specs.Multihash.{IsBytes}
use Rattle.ipld_tokens.specs.Token.{text}
use Rattle.ipld_tokens.specs.Item.{Item, atom_item, list_item, map_item, Parts, no_parts, part, Pairs, no_pairs, pair}
use Rattle.dag_cbor_format.specs.declared.major.Major.TheVariants as major
use Rattle.dag_cbor_format.specs.Head.{head}
use Rattle.dag_cbor_format.specs.Encoding.{part_count, pair_count}
use Rattle.dag_cbor_format.specs.Reading.{among, and_key}
use Rattle.dag_cbor_blocks.specs.declared.tape.TapeEntry.{TapeEntry}
use Rattle.dag_cbor_tape.specs.declared.entry.EntryKind.{EntryKind}
use Rattle.dag_cbor_tape.specs.declared.entry.EntryKind.TheVariants as kind
use Rattle.dag_cbor_tape.specs.declared.error.EncodeErrorKind.TheVariants as wrong
use Rattle.dag_cbor_tape.specs.declared.error.Fault.{Fault}
use Rattle.dag_cbor_tape.specs.Errors.{fault, ◌>>=◌, at}
use Rattle.dag_cbor_tape.specs.Entry.{kind_of, content_of, written_of}
use Rattle.dag_cbor_tape.specs.Structure.{spanned, span_in, behind, after_value, ends, values, within_data, key_in, after_key, is_new, pairs, inner_count, within, spans}
use Rattle.dag_cbor_tape.specs.Encoding.{encoded_as, encoded, all_encoded, in_tape, block_of}
use Rattle.dag_cbor_tape.specs.Describes.{Describes, DescribeParts, DescribePairs}
use Rattle.dag_cbor_tape.proofs.Results.{bind_ok, ok_same, some_same, at_ok, before_ok, else_ok, else_some}
use Rattle.dag_cbor_tape.proofs.Entries.{number, kind_number, IsScalar, entry_is, text_described, scalar_sound}

-- ---- one step

-- what was written of an entry
encoded_where : (over : List ℕ) (o : Option EntryKind) (e : TapeEntry) (es : List TapeEntry) (b : List ℕ) → encoded_as over o e es ≡ Ok b
    → (k : EntryKind) × (d : Unit {0}) × (o ≡ Some k) × (spans over k e es ≡ Ok d) × (written_of over k e ≡ Ok b)
encoded_where over None e es b w = absurd cc
encoded_where over (Some k) e es b w =
    let t = bind_ok (spans over k e es) (λ done. at (suc (length es)) (written_of over k e)) b w in
    (k, t.0, refl, t.1, at_ok (suc (length es)) (written_of over k e) b t.2)

pub encoded_sound : (over : List ℕ) (e : TapeEntry) (es : List TapeEntry) (b : List ℕ) → encoded over e es ≡ Ok b
    → (k : EntryKind) × (d : Unit {0}) × (kind_of e.kind ≡ Some k) × (spans over k e es ≡ Ok d) × (written_of over k e ≡ Ok b)
unfolding encoded
encoded_sound over e es b w = encoded_where over (kind_of e.kind) e es b w

-- what is written of entries, one after another
all_sound : (over : List ℕ) (e : TapeEntry) (es : List TapeEntry) (block : List ℕ) → all_encoded over (e ∷ es) ≡ Ok block
    → (b : List ℕ) × (more : List ℕ) × (encoded over e es ≡ Ok b) × (all_encoded over es ≡ Ok more) × (block ≡ b ++ more)
all_sound over e es block w =
    let s = bind_ok (encoded over e es) (λ b. all_encoded over es >>= λ more. Ok (b ++ more)) block w in
    let t = bind_ok (all_encoded over es) (λ more. Ok (s.0 ++ more)) block s.2 in
    (s.0, t.0, s.1, t.1, sym (ok_same (s.0 ++ t.0) block t.2))

-- the entries behind a value
pub after_sound : (e : TapeEntry) (es rest : List TapeEntry) → after_value (e ∷ es) ≡ Ok rest
    → (n : ℕ) × (span_in (kind_of e.kind) e ≡ Ok n) × (n ≤ suc (length es)) × (drop n (e ∷ es) ≡ rest)
unfolding after_value
after_sound e es rest w =
    let s = bind_ok (at (length (e ∷ es)) (span_in (kind_of e.kind) e)) (λ n. behind n (e ∷ es)) rest w in
    let t = else_ok (nat_lt (length (e ∷ es)) s.0) (Ok (drop s.0 (e ∷ es))) (fault wrong.Span (length (e ∷ es))) rest s.2 in
    (s.0, at_ok (length (e ∷ es)) (span_in (kind_of e.kind) e) s.0 s.1, ltb-false (suc (length es)) s.0 t.0, ok_same (drop s.0 (e ∷ es)) rest t.1)

-- what a list or a map spans
pub count_sound : (e : TapeEntry) (n m : ℕ) → inner_count e n ≡ Some m → (e.len ≡ suc m) × (m ≤ n)
count_sound e n m w =
    let t = else_some (e.len == 0 || nat_lt n (e.len - 1)) (Some (e.len - 1)) m w in
    let p = or_parts (e.len == 0) (nat_lt n (e.len - 1)) t.0 in
    let some = eqb-false e.len 0 p.0 in
    let few = ltb-false n (e.len - 1) p.1 in
    let is = some_same (e.len - 1) m t.1 in (omega arith, omega arith)

within_sound : (e : TapeEntry) (es : List TapeEntry) (inner : List TapeEntry → Result (Unit {0}) Fault) (o : Option ℕ) (d : Unit {0}) → within e es inner o ≡ Ok d
    → (m : ℕ) × (o ≡ Some m) × (inner (take m es) ≡ Ok d)
within_sound e es inner None d w = absurd cc
within_sound e es inner (Some m) d w = (m, refl, before_ok (length es - m) (inner (take m es)) d w)

ends_sound : (es : List TapeEntry) (d : Unit {0}) → ends es ≡ Ok d → es ≡ []
ends_sound [] d w = refl
ends_sound (e ∷ es) d w = absurd cc

-- a key
key_where : (over : List ℕ) (o : Option EntryKind) (e : TapeEntry) (k : List ℕ) → key_in over o e ≡ Ok k
    → (o ≡ Some kind.Key) × (within_data (content_of over e) ≡ Ok k)
key_where over (Some kind.Key) e k w = (refl, w)
key_where over None e k w = absurd cc
key_where over (Some kind.Null) e k w = absurd cc
key_where over (Some kind.False) e k w = absurd cc
key_where over (Some kind.True) e k w = absurd cc
key_where over (Some kind.Unsigned) e k w = absurd cc
key_where over (Some kind.Negative) e k w = absurd cc
key_where over (Some kind.Float) e k w = absurd cc
key_where over (Some kind.Text) e k w = absurd cc
key_where over (Some kind.Bytes) e k w = absurd cc
key_where over (Some kind.Link) e k w = absurd cc
key_where over (Some kind.List) e k w = absurd cc
key_where over (Some kind.Map) e k w = absurd cc

data_where : (o : Option (List ℕ)) (k : List ℕ) → within_data o ≡ Ok k → o ≡ Some k
data_where None k w = absurd cc
data_where (Some c) k w = ap (λ (x : List ℕ). Some x) (ok_same c k w)

pub key_sound : (over : List ℕ) (es rest : List TapeEntry) (k : List ℕ) → after_key over es ≡ Ok (k, rest)
    → (e : TapeEntry) × (es ≡ e ∷ rest) × (kind_of e.kind ≡ Some kind.Key) × (content_of over e ≡ Some k)
unfolding after_key
key_sound over [] rest k w = absurd cc
key_sound over (e ∷ es) rest k w =
    let s = bind_ok (at (length (e ∷ es)) (key_in over (kind_of e.kind) e)) (λ k. Ok (k, es)) (k, rest) w in
    let pair_is : (s.0, es) ≡ (k, rest) = ok_same (s.0, es) (k, rest) s.2 in
    let key_is : s.0 ≡ k = ap (λ (p : List ℕ × List TapeEntry). p.0) pair_is in
    let rest_is : es ≡ rest = ap (λ (p : List ℕ × List TapeEntry). p.1) pair_is in
    let t = key_where over (kind_of e.kind) e s.0 (at_ok (length (e ∷ es)) (key_in over (kind_of e.kind) e) s.0 s.1) in
    (e, ap (λ (x : List TapeEntry). e ∷ x) rest_is, t.0, data_where (content_of over e) s.0 t.1 ∙ ap (λ (x : List ℕ). Some x) key_is)

-- a key that none before it is
new_sound : (seen : List (List ℕ)) (k : List ℕ) (left : ℕ) (d : Unit {0}) → is_new seen k left ≡ Ok d → among k seen ≡ false
new_sound seen k left d w = (else_ok (among k seen) (Ok tt) (fault wrong.DuplicateKey left) d w).0

-- ---- values, and what follows them

-- a value that the entries begin with, behind which others follow
record Value (over : List ℕ) (es rest tail : List TapeEntry) (block : List ℕ) : Type 0 where
  i : Item 64
  here : List TapeEntry
  first : List ℕ
  more : List ℕ
  describes : Describes over i here first
  parts : es ≡ here ++ rest
  goes_on : all_encoded over (rest ++ tail) ≡ Ok more
  bytes : block ≡ first ++ more

-- items that the entries are
record Values (over : List ℕ) (n : ℕ) (es tail : List TapeEntry) (block : List ℕ) : Type 0 where
  is : Parts 64
  content : List ℕ
  more : List ℕ
  describe : DescribeParts over is es content
  count : part_count is ≡ n
  goes_on : all_encoded over tail ≡ Ok more
  bytes : block ≡ content ++ more

-- pairs that they are
record KeyedValues (over : List ℕ) (seen : List (List ℕ)) (n : ℕ) (es tail : List TapeEntry) (block : List ℕ) : Type 0 where
  ps : Pairs 64
  content : List ℕ
  more : List ℕ
  describe : DescribePairs over seen ps es content
  count : pair_count ps ≡ n
  goes_on : all_encoded over tail ≡ Ok more
  bytes : block ≡ content ++ more

-- each value of at most so many entries is described
abbrev Sound : List ℕ → ℕ → Type 0
Sound over n = (es rest tail : List TapeEntry) (block : List ℕ) → length es ≤ n → all_encoded over (es ++ tail) ≡ Ok block → after_value es ≡ Ok rest → Value over es rest tail block

shorter : (es here rest : List TapeEntry) (n : ℕ) → es ≡ here ++ rest → length es ≤ n → length rest ≤ n
shorter es here rest n is few = omega (arith, ap length is, length-append here rest)

values_sound : (over : List ℕ) (n : ℕ) → Sound over n → (c : ℕ) (es tail : List TapeEntry) (block : List ℕ) (d : Unit {0}) → length es ≤ n
    → all_encoded over (es ++ tail) ≡ Ok block → values c es ≡ Ok d → Values over c es tail block
values_sound over n sound zero es tail block d few all w =
    let none = ends_sound es d w in
    record {
      is = no_parts;
      content = [];
      more = block;
      describe = (none, refl);
      count = refl;
      goes_on = subst (λ (xs : List TapeEntry). all_encoded over (xs ++ tail) ≡ Ok block) none all;
      bytes = refl;
    }
values_sound over n sound (suc c) es tail block d few all w =
    let s = bind_ok (after_value es) (values c) d w in
    let v = sound es s.0 tail block few all s.1 in
    let r = values_sound over n sound c s.0 tail v.more d (shorter es v.here s.0 n v.parts few) v.goes_on s.2 in
    record {
      is = part v.i r.is;
      content = v.first ++ r.content;
      more = r.more;
      describe = (v.here, s.0, v.first, r.content, v.describes, r.describe, v.parts, refl);
      count = ap (λ (x : ℕ). suc x) r.count;
      goes_on = r.goes_on;
      bytes = v.bytes ∙ ap (λ (x : List ℕ). v.first ++ x) r.bytes ∙ sym (append_assoc v.first r.content r.more);
    }

pairs_sound : (over : List ℕ) (n : ℕ) → Sound over n → (c : ℕ) (seen : List (List ℕ)) (es tail : List TapeEntry) (block : List ℕ) (d : Unit {0}) → length es ≤ n
    → all_encoded over (es ++ tail) ≡ Ok block → pairs over c seen es ≡ Ok d → KeyedValues over seen c es tail block
unfolding written_of
pairs_sound over n sound zero seen es tail block d few all w =
    let none = ends_sound es d w in
    record {
      ps = no_pairs;
      content = [];
      more = block;
      describe = (none, refl);
      count = refl;
      goes_on = subst (λ (xs : List TapeEntry). all_encoded over (xs ++ tail) ≡ Ok block) none all;
      bytes = refl;
    }
pairs_sound over n sound (suc c) seen es tail block d few all w =
    let s = bind_ok (after_key over es) (λ k. is_new seen k.0 (length es) >>= λ done. after_value k.1 >>= λ rest. pairs over c (and_key k.0 seen) rest) d w in
    let key = s.0.0 in
    let after = s.0.1 in
    let k = key_sound over es after key s.1 in
    let u = bind_ok (is_new seen key (length es)) (λ done. after_value after >>= λ rest. pairs over c (and_key key seen) rest) d s.2 in
    let new : among key seen ≡ false = new_sound seen key (length es) u.0 u.1 in
    let a = all_sound over k.0 (after ++ tail) block (subst (λ (xs : List TapeEntry). all_encoded over (xs ++ tail) ≡ Ok block) k.1 all) in
    let x = encoded_sound over k.0 (after ++ tail) a.0 a.2 in
    let is_key : x.0 ≡ kind.Key = some_same x.0 kind.Key (sym x.2 ∙ k.2) in
    let w : written_of over kind.Key k.0 ≡ Ok a.0 = subst (λ (z : EntryKind). written_of over z k.0 ≡ Ok a.0) is_key x.4 in
    let t = text_described over 11 k.0 a.0 (kind_number k.0.kind kind.Key k.2) w in
    let same : t.0 ≡ key = some_same t.0 key (sym t.1.refers.content_is ∙ k.3) in
    let s2 = bind_ok (after_value after) (λ rest. pairs over c (and_key key seen) rest) d u.2 in
    let few_after : length after ≤ n = omega (arith, ap length k.1) in
    let v = sound after s2.0 tail a.1 few_after a.3 s2.1 in
    let r = pairs_sound over n sound c (and_key key seen) s2.0 tail v.more d (shorter after v.here s2.0 n v.parts few_after) v.goes_on s2.2 in
    record {
      ps = pair (atom_item (text t.0)) v.i r.ps;
      content = a.0 ++ (v.first ++ r.content);
      more = r.more;
      describe = (key, k.0, v.here, s2.0, a.0, v.first, r.content, (t.1, sym same, subst (λ (z : List ℕ). among z seen ≡ false) (sym same) new), v.describes, r.describe, k.1 ∙ ap (λ (xs : List TapeEntry). k.0 ∷ xs) v.parts, refl);
      count = ap (λ (x : ℕ). suc x) r.count;
      goes_on = r.goes_on;
      bytes =
          a.4 ∙ ap (λ (z : List ℕ). a.0 ++ z) (v.bytes ∙ ap (λ (z : List ℕ). v.first ++ z) r.bytes ∙ sym (append_assoc v.first r.content r.more))
          ∙ sym (append_assoc a.0 (v.first ++ r.content) r.more);
    }

-- ---- one value

scalar_span : (k : EntryKind) (e : TapeEntry) (n : ℕ) → IsScalar k → span_in (Some k) e ≡ Ok n → 1 ≡ n
scalar_span kind.Null e n s w = ok_same 1 n w
scalar_span kind.False e n s w = ok_same 1 n w
scalar_span kind.True e n s w = ok_same 1 n w
scalar_span kind.Unsigned e n s w = ok_same 1 n w
scalar_span kind.Negative e n s w = ok_same 1 n w
scalar_span kind.Float e n s w = ok_same 1 n w
scalar_span kind.Text e n s w = ok_same 1 n w
scalar_span kind.Bytes e n s w = ok_same 1 n w
scalar_span kind.Link e n s w = ok_same 1 n w
scalar_span kind.List e n s w = absurd s
scalar_span kind.Map e n s w = absurd s
scalar_span kind.Key e n s w = absurd s

-- what is known of the first of some entries
record First (over : List ℕ) (k : EntryKind) (e : TapeEntry) (es rest tail : List TapeEntry) (b more block : List ℕ) : Type 0 where
  whole : IsBytes over
  n : ℕ
  d : Unit {0}
  kind_is : e.kind ≡ number k
  span : span_in (Some k) e ≡ Ok n
  enough : n ≤ suc (length es)
  rest_is : drop n (e ∷ es) ≡ rest
  spans_is : spans over k e (es ++ tail) ≡ Ok d
  written : written_of over k e ≡ Ok b
  goes_on : all_encoded over (es ++ tail) ≡ Ok more
  bytes : block ≡ b ++ more

scalar_value : (over : List ℕ) (k : EntryKind) (e : TapeEntry) (es rest tail : List TapeEntry) (b more block : List ℕ) → IsScalar k → First over k e es rest tail b more block
    → Value over (e ∷ es) rest tail block
scalar_value over k e es rest tail b more block scalar f =
    let one = scalar_span k e f.n scalar f.span in
    let rest_is : es ≡ rest = subst (λ (m : ℕ). drop m (e ∷ es) ≡ rest) (sym one) f.rest_is in
    let s = scalar_sound over k e b f.whole f.kind_is scalar f.written in
    record {
      i = s.0;
      here = e ∷ [];
      first = b;
      more = more;
      describes = s.1;
      parts = ap (λ (xs : List TapeEntry). e ∷ xs) rest_is;
      goes_on = subst (λ (xs : List TapeEntry). all_encoded over (xs ++ tail) ≡ Ok more) rest_is f.goes_on;
      bytes = f.bytes;
    }

-- what a list or a map spans
record Inner (over : List ℕ) (e : TapeEntry) (es rest tail : List TapeEntry) (more : List ℕ) (m : ℕ) : Type 0 where
  few : m ≤ length es
  long : e.len ≡ suc (length (take m es))
  rest_is : drop m es ≡ rest
  parts : e ∷ es ≡ (e ∷ take m es) ++ rest
  same : take m (es ++ tail) ≡ take m es
  goes_on : all_encoded over (take m es ++ (drop m es ++ tail)) ≡ Ok more

inner_is : (over : List ℕ) (e : TapeEntry) (es rest tail : List TapeEntry) (more : List ℕ) (n m : ℕ) → spanned e ≡ Ok n → e.len ≡ suc m → n ≤ suc (length es)
    → drop n (e ∷ es) ≡ rest → all_encoded over (es ++ tail) ≡ Ok more → Inner over e es rest tail more m
inner_is over e es rest tail more n m span len enough there all =
    let t = else_ok (e.len == 0) (Ok e.len) wrong.Span n span in
    let is : n ≡ suc m = sym (ok_same e.len n t.1) ∙ len in
    let few : m ≤ length es = omega arith in
    let rest_is : drop m es ≡ rest = subst (λ (x : ℕ). drop x (e ∷ es) ≡ rest) is there in
    let whole = sym (take-append-drop m es) in
    record {
      few = few;
      long = len ∙ ap (λ (x : ℕ). suc x) (sym (length-take-le m es few));
      rest_is = rest_is;
      parts = ap (λ (xs : List TapeEntry). e ∷ xs) (whole ∙ ap (λ (xs : List TapeEntry). take m es ++ xs) rest_is);
      same = take-append-le m es tail few;
      goes_on =
          subst (λ (xs : List TapeEntry). all_encoded over xs ≡ Ok more) (ap (λ (xs : List TapeEntry). xs ++ tail) whole ∙ append_assoc (take m es) (drop m es) tail) all;
    }

list_value : (over : List ℕ) (n : ℕ) → Sound over n → (e : TapeEntry) (es rest tail : List TapeEntry) (b more block : List ℕ) → length es ≤ n
    → First over kind.List e es rest tail b more block → Value over (e ∷ es) rest tail block
unfolding spans written_of
list_value over n sound e es rest tail b more block few f =
    let c = within_sound e (es ++ tail) (values e.value) (inner_count e (length (es ++ tail))) f.d f.spans_is in
    let k = count_sound e (length (es ++ tail)) c.0 c.1 in
    let x = inner_is over e es rest tail more f.n c.0 f.span k.0 f.enough f.rest_is f.goes_on in
    let inner = take c.0 es in
    let less : length inner ≤ n = omega (arith, length-take-le c.0 es x.few, x.few) in
    let r = values_sound over n sound e.value inner (drop c.0 es ++ tail) more f.d less x.goes_on (subst (λ (xs : List TapeEntry). values e.value xs ≡ Ok f.d) x.same c.2) in
    let begins : b ≡ head major.List (part_count r.is) = sym (ok_same (head major.List e.value) b f.written) ∙ ap (head major.List) (sym r.count) in
    record {
      i = list_item r.is;
      here = e ∷ inner;
      first = b ++ r.content;
      more = r.more;
      describes = (
        inner,
        r.content,
        r.describe,
        ap (λ (z : TapeEntry). z ∷ inner) (entry_is e 9 (suc (length inner)) (part_count r.is) f.kind_is x.long (sym r.count)),
        ap (λ (z : List ℕ). z ++ r.content) begins,
      );
      parts = x.parts;
      goes_on = subst (λ (xs : List TapeEntry). all_encoded over (xs ++ tail) ≡ Ok r.more) x.rest_is r.goes_on;
      bytes = f.bytes ∙ ap (λ (z : List ℕ). b ++ z) r.bytes ∙ sym (append_assoc b r.content r.more);
    }

map_value : (over : List ℕ) (n : ℕ) → Sound over n → (e : TapeEntry) (es rest tail : List TapeEntry) (b more block : List ℕ) → length es ≤ n
    → First over kind.Map e es rest tail b more block → Value over (e ∷ es) rest tail block
unfolding spans written_of
map_value over n sound e es rest tail b more block few f =
    let c = within_sound e (es ++ tail) (pairs over e.value []) (inner_count e (length (es ++ tail))) f.d f.spans_is in
    let k = count_sound e (length (es ++ tail)) c.0 c.1 in
    let x = inner_is over e es rest tail more f.n c.0 f.span k.0 f.enough f.rest_is f.goes_on in
    let inner = take c.0 es in
    let less : length inner ≤ n = omega (arith, length-take-le c.0 es x.few, x.few) in
    let r = pairs_sound over n sound e.value [] inner (drop c.0 es ++ tail) more f.d less x.goes_on
    (subst (λ (xs : List TapeEntry). pairs over e.value [] xs ≡ Ok f.d) x.same c.2) in
    let begins : b ≡ head major.Map (pair_count r.ps) = sym (ok_same (head major.Map e.value) b f.written) ∙ ap (head major.Map) (sym r.count) in
    record {
      i = map_item r.ps;
      here = e ∷ inner;
      first = b ++ r.content;
      more = r.more;
      describes = (
        inner,
        r.content,
        r.describe,
        ap (λ (z : TapeEntry). z ∷ inner) (entry_is e 10 (suc (length inner)) (pair_count r.ps) f.kind_is x.long (sym r.count)),
        ap (λ (z : List ℕ). z ++ r.content) begins,
      );
      parts = x.parts;
      goes_on = subst (λ (xs : List TapeEntry). all_encoded over (xs ++ tail) ≡ Ok r.more) x.rest_is r.goes_on;
      bytes = f.bytes ∙ ap (λ (z : List ℕ). b ++ z) r.bytes ∙ sym (append_assoc b r.content r.more);
    }

value_by : (over : List ℕ) (n : ℕ) → Sound over n → (k : EntryKind) (e : TapeEntry) (es rest tail : List TapeEntry) (b more block : List ℕ) → length es ≤ n
    → First over k e es rest tail b more block → Value over (e ∷ es) rest tail block
value_by over n sound kind.Null e es rest tail b more block few f = scalar_value over kind.Null e es rest tail b more block tt f
value_by over n sound kind.False e es rest tail b more block few f = scalar_value over kind.False e es rest tail b more block tt f
value_by over n sound kind.True e es rest tail b more block few f = scalar_value over kind.True e es rest tail b more block tt f
value_by over n sound kind.Unsigned e es rest tail b more block few f = scalar_value over kind.Unsigned e es rest tail b more block tt f
value_by over n sound kind.Negative e es rest tail b more block few f = scalar_value over kind.Negative e es rest tail b more block tt f
value_by over n sound kind.Float e es rest tail b more block few f = scalar_value over kind.Float e es rest tail b more block tt f
value_by over n sound kind.Text e es rest tail b more block few f = scalar_value over kind.Text e es rest tail b more block tt f
value_by over n sound kind.Bytes e es rest tail b more block few f = scalar_value over kind.Bytes e es rest tail b more block tt f
value_by over n sound kind.Link e es rest tail b more block few f = scalar_value over kind.Link e es rest tail b more block tt f
value_by over n sound kind.List e es rest tail b more block few f = list_value over n sound e es rest tail b more block few f
value_by over n sound kind.Map e es rest tail b more block few f = map_value over n sound e es rest tail b more block few f
value_by over n sound kind.Key e es rest tail b more block few f = let none = f.span in absurd cc

none_after : (rest : List TapeEntry) → after_value [] ≡ Ok rest → ⊥
unfolding after_value
none_after rest e = cc

sound_at : (over : List ℕ) → IsBytes over → (n : ℕ) → Sound over n
sound_at over whole zero [] rest tail block few all after = absurd (none_after rest after)
sound_at over whole zero (e ∷ es) rest tail block few all after = absurd (omega arith)
sound_at over whole (suc n) [] rest tail block few all after = absurd (none_after rest after)
sound_at over whole (suc n) (e ∷ es) rest tail block few all after =
    let a = all_sound over e (es ++ tail) block all in
    let x = encoded_sound over e (es ++ tail) a.0 a.2 in
    let s = after_sound e es rest after in
    value_by over n (sound_at over whole n) x.0 e es rest tail a.0 a.1 block (omega arith) (record {
      whole = whole;
      n = s.0;
      d = x.1;
      kind_is = kind_number e.kind x.0 x.2;
      span = subst (λ (o : Option EntryKind). span_in o e ≡ Ok s.0) x.2 s.1;
      enough = s.2;
      rest_is = s.3;
      spans_is = x.3;
      written = x.4;
      goes_on = a.3;
      bytes = a.4;
    })

-- ---- a whole tape

in_tape_ok : {A : Type 0} (len : ℕ) (r : Result A Fault) (x : A) → in_tape len r ≡ Ok x → r ≡ Ok x
in_tape_ok len (Ok y) x e = ap (λ (z : _). Ok z) (ok_same y x e)
in_tape_ok len (Err f) x e = absurd cc

pub block_sound : (over : List ℕ) (es : List TapeEntry) (block : List ℕ) → IsBytes over → block_of over es ≡ Ok block → (i : Item 64) × Describes over i es block
unfolding block_of
block_sound over es block whole w =
    let s = bind_ok (values 1 es) (λ done. all_encoded over es) block (in_tape_ok (length es) (values 1 es >>= λ done. all_encoded over es) block w) in
    let t = bind_ok (after_value es) (values 0) s.0 s.1 in
    let none : t.0 ≡ [] = ends_sound t.0 s.0 t.2 in
    let all : all_encoded over (es ++ []) ≡ Ok block = subst (λ (xs : List TapeEntry). all_encoded over xs ≡ Ok block) (sym (append-nil es)) s.2 in
    let v = sound_at over whole (length es) es t.0 [] block (omega arith) all t.1 in
    let here : v.here ≡ es = sym (v.parts ∙ ap (λ (xs : List TapeEntry). v.here ++ xs) none ∙ append-nil v.here) in
    let ended : all_encoded over [] ≡ Ok v.more = subst (λ (xs : List TapeEntry). all_encoded over (xs ++ []) ≡ Ok v.more) none v.goes_on in
    let nothing : [] ≡ v.more = ok_same [] v.more ended in
    let first : v.first ≡ block = sym (v.bytes ∙ ap (λ (x : List ℕ). v.first ++ x) (sym nothing) ∙ append-nil v.first) in
    (v.i, subst (λ (xs : List TapeEntry). Describes over v.i xs block) here (subst (λ (x : List ℕ). Describes over v.i v.here x) first v.describes))
