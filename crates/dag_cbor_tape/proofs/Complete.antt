-- What entries describe is written.
use Rattle.std.proofs.Common.{◌≡◌, ℕ, suc, ◌-◌, ◌≤◌, pos, negsuc, true, false, List, [], ◌∷◌, ◌++◌, length, drop, Option, Some, Result, Ok, inl, inr, refl, sym, ap, subst, ◌∙◌, arith, append_assoc, length-append}
use Rattle.std.specs.Prelude.{◌==◌, nat_lt}
use Rattle.std.specs.Str.{is_utf8}
use Rattle.std.proofs.lemmas.Str.{is_utf8-from_IsUtf8}
use Rattle.std.proofs.lemmas.Bool.{le-ltb, ne_eqb, eq-eqb}
use Rattle.std.proofs.lemmas.List.{take_at, drop_at, append-nil}
use Rattle.ipld_cid.specs.Bytes.{IsCid}
use Rattle.ipld_cid.proofs.Encodings.{encoded_is_read}
use Rattle.ipld_tokens.specs.Token.{Atom, none, unit, unit_struct, boolean, integer, unsigned, character, text, unit_variant}
use Rattle.ipld_tokens.specs.Item.{Item, atom_item, bytes_item, some_item, variant_item, list_item, map_item, link_item, Parts, no_parts, part, Pairs, no_pairs, pair}
use Rattle.dag_cbor_format.specs.declared.major.Major.TheVariants as major
use Rattle.dag_cbor_format.specs.Head.{head}
use Rattle.dag_cbor_format.specs.Encoding.{part_count, pair_count}
use Rattle.dag_cbor_format.specs.Floats.{is_finite}
use Rattle.dag_cbor_format.specs.Reading.{among, and_key}
use Rattle.dag_cbor_blocks.specs.Tape.{entry}
use Rattle.dag_cbor_blocks.specs.declared.tape.TapeEntry.{TapeEntry}
use Rattle.dag_cbor_tape.specs.declared.entry.EntryKind.{EntryKind}
use Rattle.dag_cbor_tape.specs.declared.entry.EntryKind.TheVariants as kind
use Rattle.dag_cbor_tape.specs.declared.error.EncodeErrorKind.{EncodeErrorKind}
use Rattle.dag_cbor_tape.specs.declared.error.Fault.{Fault}
use Rattle.dag_cbor_tape.specs.Errors.{◌>>=◌, at, before}
use Rattle.dag_cbor_tape.specs.Entry.{kind_of, content_of, text_of, float_of, link_of, cid_of, bytes_of, written_of}
use Rattle.dag_cbor_tape.specs.Structure.{spanned, span_in, behind, after_value, ends, values, within_data, key_in, after_key, is_new, pairs, inner_count, within, spans}
use Rattle.dag_cbor_tape.specs.Encoding.{encoded_as, encoded, all_encoded, in_tape, block_of}
use Rattle.dag_cbor_tape.specs.Describes.{Refers, DescribesText, DescribesFloat, DescribesAtom, DescribesKey, Describes, DescribeParts, DescribePairs}
use Rattle.dag_cbor_tape.proofs.Entries.{number, kind_is, IsScalar}

-- ---- one entry

pub kind_from : (e : TapeEntry) (k : EntryKind) → e.kind ≡ number k → kind_of e.kind ≡ Some k
kind_from e k is = ap kind_of is ∙ kind_is k

encoded_is : (over : List ℕ) (k : EntryKind) (e : TapeEntry) (es : List TapeEntry) (b : List ℕ) → kind_of e.kind ≡ Some k → spans over k e es ≡ Ok tt
    → written_of over k e ≡ Ok b → encoded over e es ≡ Ok b
unfolding encoded
encoded_is over k e es b is s w =
    ap (λ (o : Option EntryKind). encoded_as over o e es) is
    ∙ ap (λ (r : Result (Unit {0}) Fault). r >>= λ done. at (suc (length es)) (written_of over k e)) s
    ∙ ap (at (suc (length es))) w

all_is : (over : List ℕ) (e : TapeEntry) (es : List TapeEntry) (b more : List ℕ) → encoded over e es ≡ Ok b → all_encoded over es ≡ Ok more
    → all_encoded over (e ∷ es) ≡ Ok (b ++ more)
all_is over e es b more here there =
    ap (λ (r : Result (List ℕ) Fault). r >>= λ x. all_encoded over es >>= λ y. Ok (x ++ y)) here
    ∙ ap (λ (r : Result (List ℕ) Fault). r >>= λ y. Ok (b ++ y)) there

behind_is : (es tail : List TapeEntry) (e : TapeEntry) → behind (suc (length es)) (e ∷ (es ++ tail)) ≡ Ok tail
behind_is es tail e =
    let enough : nat_lt (suc (length (es ++ tail))) (suc (length es)) ≡ false = le-ltb (suc (length (es ++ tail))) (suc (length es)) (omega (arith, length-append es tail)) in
    let rest : drop (length es) (es ++ tail) ≡ tail = drop_at es tail (length es) refl in rw (enough, rest) refl

pub after_is : (e : TapeEntry) (es tail : List TapeEntry) (k : EntryKind) → kind_of e.kind ≡ Some k → span_in (Some k) e ≡ Ok (suc (length es))
    → after_value (e ∷ (es ++ tail)) ≡ Ok tail
unfolding after_value
after_is e es tail k is span =
    ap (λ (o : Option EntryKind). at (suc (length (es ++ tail))) (span_in o e) >>= λ n. behind n (e ∷ (es ++ tail))) is
    ∙ ap (λ (r : Result ℕ EncodeErrorKind). at (suc (length (es ++ tail))) r >>= λ n. behind n (e ∷ (es ++ tail))) span
    ∙ behind_is es tail e

-- ---- a value, whatever follows it

record Whole (over : List ℕ) (es : List TapeEntry) (bytes : List ℕ) : Type 0 where
  after : (tail : List TapeEntry) → after_value (es ++ tail) ≡ Ok tail
  written : (tail : List TapeEntry) (more : List ℕ) → all_encoded over tail ≡ Ok more → all_encoded over (es ++ tail) ≡ Ok (bytes ++ more)

-- an entry with those that it spans
whole_at : (over : List ℕ) (k : EntryKind) (e : TapeEntry) (inner : List TapeEntry) (b content : List ℕ) → kind_of e.kind ≡ Some k → span_in (Some k) e ≡ Ok (suc (length inner))
    → ((tail : List TapeEntry) → spans over k e (inner ++ tail) ≡ Ok tt) → written_of over k e ≡ Ok b
    → ((tail : List TapeEntry) (more : List ℕ) → all_encoded over tail ≡ Ok more → all_encoded over (inner ++ tail) ≡ Ok (content ++ more))
    → Whole over (e ∷ inner) (b ++ content)
whole_at over k e inner b content is span fits w all = record {
  after = λ tail. after_is e inner tail k is span;
  written = λ tail more t.
      all_is over e (inner ++ tail) b (content ++ more) (encoded_is over k e (inner ++ tail) b is (fits tail) w) (all tail more t)
      ∙ ap (λ (x : List ℕ). Ok x) (sym (append_assoc b content more));
}

pub scalar_span : (k : EntryKind) (e : TapeEntry) → IsScalar k → span_in (Some k) e ≡ Ok 1
scalar_span kind.Null e s = refl
scalar_span kind.False e s = refl
scalar_span kind.True e s = refl
scalar_span kind.Unsigned e s = refl
scalar_span kind.Negative e s = refl
scalar_span kind.Float e s = refl
scalar_span kind.Text e s = refl
scalar_span kind.Bytes e s = refl
scalar_span kind.Link e s = refl
scalar_span kind.List e s = absurd s
scalar_span kind.Map e s = absurd s
scalar_span kind.Key e s = absurd s

scalar_spans : (over : List ℕ) (k : EntryKind) (e : TapeEntry) (es : List TapeEntry) → IsScalar k → spans over k e es ≡ Ok tt
unfolding spans
scalar_spans over kind.Null e es s = refl
scalar_spans over kind.False e es s = refl
scalar_spans over kind.True e es s = refl
scalar_spans over kind.Unsigned e es s = refl
scalar_spans over kind.Negative e es s = refl
scalar_spans over kind.Float e es s = refl
scalar_spans over kind.Text e es s = refl
scalar_spans over kind.Bytes e es s = refl
scalar_spans over kind.Link e es s = refl
scalar_spans over kind.List e es s = absurd s
scalar_spans over kind.Map e es s = absurd s
scalar_spans over kind.Key e es s = absurd s

scalar_whole : (over : List ℕ) (k : EntryKind) (e : TapeEntry) (es : List TapeEntry) (b bytes : List ℕ) → es ≡ e ∷ [] → bytes ≡ b → e.kind ≡ number k → IsScalar k
    → written_of over k e ≡ Ok b → Whole over es bytes
scalar_whole over k e es b bytes one is kind scalar w =
    let here : Whole over (e ∷ []) (b ++ []) = whole_at over k e [] b [] (kind_from e k kind) (scalar_span k e scalar) (λ tail. scalar_spans over k e tail scalar) w (λ tail more t. t) in
    subst (λ (x : List ℕ). Whole over es x) (append-nil b ∙ sym is) (subst (λ (xs : List TapeEntry). Whole over xs (b ++ [])) (sym one) here)

-- the same of an entry that is known
known_whole : (over : List ℕ) (k : EntryKind) (e known : TapeEntry) (es : List TapeEntry) (b bytes : List ℕ) → e ≡ known → es ≡ e ∷ [] → bytes ≡ b → known.kind ≡ number k → IsScalar k
    → written_of over k known ≡ Ok b → Whole over es bytes
known_whole over k e known es b bytes same one is kind scalar w =
    scalar_whole over k known es b bytes (one ∙ ap (λ (x : TapeEntry). x ∷ []) same) is kind scalar w

pub text_written : (over : List ℕ) (n : ℕ) (s : List ℕ) (e : TapeEntry) (bytes : List ℕ) → DescribesText over n s e bytes
    → text_of (content_of over e) ≡ Ok (head major.Text (length s) ++ s)
text_written over n s e bytes d =
    let test : is_utf8 s ≡ true = is_utf8-from_IsUtf8 s d.utf8 in
    ap text_of d.refers.content_is ∙ rw test refl

float_whole : (over : List ℕ) (e : TapeEntry) (es : List TapeEntry) (bytes : List ℕ) → DescribesFloat over e bytes → es ≡ e ∷ [] → Whole over es bytes
unfolding written_of
float_whole over e es bytes d one =
    let c = d.content in
    let parts : 251 ∷ d.float.content ≡ 251 ∷ c = sym d.float.is ∙ d.is in
    let same : d.float.content ≡ c = cc in
    let finite : is_finite c ≡ true = subst (λ (x : List ℕ). is_finite x ≡ true) same d.float.finite in
    let wide : (e.len == 8) ≡ true = eq-eqb e.len 8 d.wide in
    let float : float_of (Some c) ≡ Ok (251 ∷ c) = rw finite refl in
    let content = d.refers.content_is in
    scalar_whole over kind.Float e es (251 ∷ c) bytes one d.is d.refers.kind_is tt (rw wide (ap float_of content ∙ float))

atom_whole : (over : List ℕ) (a : Atom) (e : TapeEntry) (es : List TapeEntry) (bytes : List ℕ) → DescribesAtom over a e bytes → es ≡ e ∷ [] → Whole over es bytes
unfolding written_of
atom_whole over none e es bytes (inl d) one = known_whole over kind.Null e (entry 0 0 0) es (head major.Simple 22) bytes d.0 one d.1 refl tt refl
atom_whole over none e es bytes (inr d) one = float_whole over e es bytes d one
atom_whole over (boolean false) e es bytes d one = known_whole over kind.False e (entry 1 0 0) es (head major.Simple 20) bytes d.0 one d.1 refl tt refl
atom_whole over (boolean true) e es bytes d one = known_whole over kind.True e (entry 2 0 0) es (head major.Simple 21) bytes d.0 one d.1 refl tt refl
atom_whole over (integer (pos n)) e es bytes d one = known_whole over kind.Unsigned e (entry 3 0 n) es (head major.Unsigned n) bytes d.0 one d.1 refl tt refl
atom_whole over (integer (negsuc n)) e es bytes d one = known_whole over kind.Negative e (entry 4 0 n) es (head major.Negative n) bytes d.0 one d.1 refl tt refl
atom_whole over (text s) e es bytes d one =
    scalar_whole over kind.Text e es (head major.Text (length s) ++ s) bytes one d.is d.refers.kind_is tt (text_written over 6 s e bytes d)
atom_whole over unit e es bytes d one = absurd d
atom_whole over unit_struct e es bytes d one = absurd d
atom_whole over (unsigned n) e es bytes d one = absurd d
atom_whole over (character n) e es bytes d one = absurd d
atom_whole over (unit_variant s) e es bytes d one = absurd d

bytes_whole : (over : List ℕ) (b : List ℕ) (e : TapeEntry) (es : List TapeEntry) (bytes : List ℕ) → Refers over 7 e b → bytes ≡ head major.Bytes (length b) ++ b → es ≡ e ∷ []
    → Whole over es bytes
unfolding written_of
bytes_whole over b e es bytes d is one =
    scalar_whole over kind.Bytes e es (head major.Bytes (length b) ++ b) bytes one is d.kind_is tt (ap bytes_of d.content_is)

link_whole : (over : List ℕ) (b : List ℕ) (cid : _) (e : TapeEntry) (es : List TapeEntry) (bytes : List ℕ) → IsCid 64 b cid → Refers over 8 e b
    → bytes ≡ head major.Tag 42 ++ (head major.Bytes (suc (length b)) ++ 0 ∷ b) → es ≡ e ∷ [] → Whole over es bytes
unfolding written_of
link_whole over b cid e es bytes valid d is one =
    scalar_whole over kind.Link e es (head major.Tag 42 ++ (head major.Bytes (suc (length b)) ++ 0 ∷ b)) bytes one is d.kind_is tt
    (ap link_of d.content_is ∙ ap (cid_of b) (encoded_is_read 64 b cid valid))

-- ---- lists and maps

pub count_is : (e : TapeEntry) (n m : ℕ) → e.len ≡ suc m → m ≤ n → inner_count e n ≡ Some m
count_is e n m is few =
    let some : (e.len == 0) ≡ false = ne_eqb e.len 0 (λ z. omega arith) in
    let enough : nat_lt n (e.len - 1) ≡ false = le-ltb n (e.len - 1) (omega arith) in
    let less : e.len - 1 ≡ m = omega arith in rw (some, enough, less) refl

within_is : (e : TapeEntry) (inner tail : List TapeEntry) (f : List TapeEntry → Result (Unit {0}) Fault) → e.len ≡ suc (length inner) → f inner ≡ Ok tt
    → within e (inner ++ tail) f (inner_count e (length (inner ++ tail))) ≡ Ok tt
within_is e inner tail f is fits =
    ap (within e (inner ++ tail) f) (count_is e (length (inner ++ tail)) (length inner) is (omega (arith, length-append inner tail)))
    ∙ ap (λ (xs : List TapeEntry). before (length (inner ++ tail) - length inner) (f xs)) (take_at inner tail (length inner) refl)
    ∙ ap (before (length (inner ++ tail) - length inner)) fits

pub spanned_is : (e : TapeEntry) (m : ℕ) → e.len ≡ suc m → spanned e ≡ Ok (suc m)
spanned_is e m is = let some : (e.len == 0) ≡ false = ne_eqb e.len 0 (λ z. omega arith) in rw (some, is) refl

-- what follows one another
abbrev Follow : List ℕ → List TapeEntry → List ℕ → Type 0
Follow over es bytes = (tail : List TapeEntry) (more : List ℕ) → all_encoded over tail ≡ Ok more → all_encoded over (es ++ tail) ≡ Ok (bytes ++ more)

nothing_follows : (over : List ℕ) (es : List TapeEntry) (bytes : List ℕ) → es ≡ [] → bytes ≡ [] → Follow over es bytes
nothing_follows over es bytes e b = subst (λ (xs : List TapeEntry). Follow over xs bytes) (sym e) (subst (λ (x : List ℕ). Follow over [] x) (sym b) (λ tail more t. t))

list_whole : (over : List ℕ) (c : ℕ) (inner es : List TapeEntry) (content bytes : List ℕ) → values c inner ≡ Ok tt → Follow over inner content
    → es ≡ entry 9 (suc (length inner)) c ∷ inner → bytes ≡ head major.List c ++ content → Whole over es bytes
unfolding spans written_of
list_whole over c inner es content bytes v f es_is bytes_is =
    let e = entry 9 (suc (length inner)) c in
    let here = whole_at over kind.List e inner (head major.List c) content (kind_from e kind.List refl) (spanned_is e (length inner) refl)
    (λ tail. within_is e inner tail (values c) refl v) refl f in
    subst (λ (x : List ℕ). Whole over es x) (sym bytes_is) (subst (λ (xs : List TapeEntry). Whole over xs (head major.List c ++ content)) (sym es_is) here)

map_whole : (over : List ℕ) (c : ℕ) (inner es : List TapeEntry) (content bytes : List ℕ) → pairs over c [] inner ≡ Ok tt → Follow over inner content
    → es ≡ entry 10 (suc (length inner)) c ∷ inner → bytes ≡ head major.Map c ++ content → Whole over es bytes
unfolding spans written_of
map_whole over c inner es content bytes v f es_is bytes_is =
    let e = entry 10 (suc (length inner)) c in
    let here = whole_at over kind.Map e inner (head major.Map c) content (kind_from e kind.Map refl) (spanned_is e (length inner) refl)
    (λ tail. within_is e inner tail (pairs over c []) refl v) refl f in
    subst (λ (x : List ℕ). Whole over es x) (sym bytes_is) (subst (λ (xs : List TapeEntry). Whole over xs (head major.Map c ++ content)) (sym es_is) here)

-- a value before others
one_more : (over : List ℕ) (here others es : List TapeEntry) (first more bytes : List ℕ) → Whole over here first → Follow over others more → es ≡ here ++ others → bytes ≡ first ++ more
    → Follow over es bytes
one_more over here others es first more bytes w f es_is bytes_is tail rest t =
    ap (λ (xs : List TapeEntry). all_encoded over (xs ++ tail)) es_is ∙ ap (all_encoded over) (append_assoc here others tail)
    ∙ w.written (others ++ tail) (more ++ rest) (f tail rest t)
    ∙ ap (λ (x : List ℕ). Ok x) (sym (append_assoc first more rest) ∙ ap (λ (x : List ℕ). x ++ rest) (sym bytes_is))

values_more : (c : ℕ) (over : List ℕ) (here others es : List TapeEntry) (first : List ℕ) → Whole over here first → values c others ≡ Ok tt → es ≡ here ++ others → values (suc c) es ≡ Ok tt
values_more c over here others es first w v es_is =
    ap (λ (xs : List TapeEntry). after_value xs >>= values c) es_is ∙ ap (λ (r : Result (List TapeEntry) Fault). r >>= values c) (w.after others) ∙ v

-- a key
key_text_is : (over : List ℕ) (seen : List (List ℕ)) (k : Item 64) (key : List ℕ) (e : TapeEntry) (name : List ℕ) → DescribesKey over seen k key e name
    → (s : List ℕ) × DescribesText over 11 s e name × (key ≡ s) × (among s seen ≡ false)
key_text_is over seen (atom_item (text s)) key e name d = (s, d.0, d.1, d.2)
key_text_is over seen _ key e name d = absurd d

after_key_is : (over s : List ℕ) (e : TapeEntry) (es : List TapeEntry) (name : List ℕ) → DescribesText over 11 s e name → after_key over (e ∷ es) ≡ Ok (s, es)
unfolding after_key
after_key_is over s e es name d =
    ap (λ (o : Option EntryKind). at (suc (length es)) (key_in over o e) >>= λ k. Ok (k, es)) (kind_from e kind.Key d.refers.kind_is)
    ∙ ap (λ (r : Result (List ℕ) EncodeErrorKind). at (suc (length es)) r >>= λ k. Ok (k, es)) (ap within_data d.refers.content_is)

key_follows : (over : List ℕ) (s : List ℕ) (e : TapeEntry) (others es : List TapeEntry) (name more bytes : List ℕ) → DescribesText over 11 s e name → Follow over others more
    → es ≡ e ∷ others → bytes ≡ name ++ more → Follow over es bytes
unfolding spans written_of
key_follows over s e others es name more bytes d f es_is bytes_is tail rest t =
    ap (λ (xs : List TapeEntry). all_encoded over (xs ++ tail)) es_is
    ∙ all_is over e (others ++ tail) (head major.Text (length s) ++ s) (more ++ rest)
    (encoded_is over kind.Key e (others ++ tail) (head major.Text (length s) ++ s) (kind_from e kind.Key d.refers.kind_is) refl (text_written over 11 s e name d)) (f tail rest t)
    ∙ ap (λ (x : List ℕ). Ok x)
    (ap (λ (x : List ℕ). x ++ (more ++ rest)) (sym d.is) ∙ sym (append_assoc name more rest) ∙ ap (λ (x : List ℕ). x ++ rest) (sym bytes_is))

pairs_more : (c : ℕ) (over : List ℕ) (seen : List (List ℕ)) (s : List ℕ) (e : TapeEntry) (here others es : List TapeEntry) (name first : List ℕ) → DescribesText over 11 s e name
    → among s seen ≡ false → Whole over here first → pairs over c (and_key s seen) others ≡ Ok tt → es ≡ e ∷ (here ++ others) → pairs over (suc c) seen es ≡ Ok tt
pairs_more c over seen s e here others es name first d new w v es_is =
    let left = suc (length (here ++ others)) in
    let is : is_new seen s left ≡ Ok tt = rw new refl in
    ap (pairs over (suc c) seen) es_is
    ∙ ap (λ (r : Result (List ℕ × List TapeEntry) Fault). r >>= λ k. is_new seen k.0 left >>= λ done. after_value k.1 >>= λ rest. pairs over c (and_key k.0 seen) rest)
    (after_key_is over s e (here ++ others) name d)
    ∙ ap (λ (r : Result (Unit {0}) Fault). r >>= λ done. after_value (here ++ others) >>= λ rest. pairs over c (and_key s seen) rest) is
    ∙ ap (λ (r : Result (List TapeEntry) Fault). r >>= λ rest. pairs over c (and_key s seen) rest) (w.after others)
    ∙ v

-- ---- all items

mutual
  item_whole : (over : List ℕ) (i : Item 64) (es : List TapeEntry) (bytes : List ℕ) → Describes over i es bytes → Whole over es bytes
  item_whole over (atom_item a) es bytes d = atom_whole over a d.0 es bytes d.1 d.2
  item_whole over (bytes_item b) es bytes d = bytes_whole over b d.0 es bytes d.1 d.2 d.3
  item_whole over (some_item i) es bytes d = absurd d
  item_whole over (variant_item name i) es bytes d = absurd d
  item_whole over (list_item is) es bytes d =
      let p = parts_whole over is d.0 d.1 d.2 in list_whole over (part_count is) d.0 es d.1 bytes p.0 p.1 d.3 d.4
  item_whole over (map_item ps) es bytes d =
      let p = pairs_whole over [] ps d.0 d.1 d.2 in map_whole over (pair_count ps) d.0 es d.1 bytes p.0 p.1 d.3 d.4
  item_whole over (link_item encoded cid is) es bytes d = link_whole over encoded cid d.0 es bytes is d.1 d.2 d.3

  parts_whole : (over : List ℕ) (is : Parts 64) (es : List TapeEntry) (bytes : List ℕ) → DescribeParts over is es bytes → (values (part_count is) es ≡ Ok tt) × Follow over es bytes
  parts_whole over no_parts es bytes d = (ap ends d.0, nothing_follows over es bytes d.0 d.1)
  parts_whole over (part i is) es bytes d =
      let w = item_whole over i d.0 d.2 d.4 in
      let p = parts_whole over is d.1 d.3 d.5 in
      (values_more (part_count is) over d.0 d.1 es d.2 w p.0 d.6, one_more over d.0 d.1 es d.2 d.3 bytes w p.1 d.6 d.7)

  pairs_whole : (over : List ℕ) (seen : List (List ℕ)) (ps : Pairs 64) (es : List TapeEntry) (bytes : List ℕ) → DescribePairs over seen ps es bytes
      → (pairs over (pair_count ps) seen es ≡ Ok tt) × Follow over es bytes
  pairs_whole over seen no_pairs es bytes d = (ap ends d.0, nothing_follows over es bytes d.0 d.1)
  pairs_whole over seen (pair k v ps) es bytes d =
      let key = key_text_is over seen k d.0 d.1 d.4 d.7 in
      let w = item_whole over v d.2 d.5 d.8 in
      let p = pairs_whole over (and_key d.0 seen) ps d.3 d.6 d.9 in
      let rest = one_more over d.2 d.3 (d.2 ++ d.3) d.5 d.6 (d.5 ++ d.6) w p.1 refl refl in (
        pairs_more (pair_count ps) over seen key.0 d.1 d.2 d.3 es d.4 d.5 key.1 key.3 w
            (subst (λ (x : List ℕ). pairs over (pair_count ps) (and_key x seen) d.3 ≡ Ok tt) key.2 p.0) d.10,
        key_follows over key.0 d.1 (d.2 ++ d.3) es d.4 (d.5 ++ d.6) bytes key.1 rest d.10 d.11,
      )

-- ---- a whole tape

pub block_complete : (over : List ℕ) (i : Item 64) (es : List TapeEntry) (block : List ℕ) → Describes over i es block → block_of over es ≡ Ok block
unfolding block_of
block_complete over i es block d =
    let w = item_whole over i es block d in
    let one : values 1 es ≡ Ok tt = ap (λ (xs : List TapeEntry). after_value xs >>= values 0) (sym (append-nil es)) ∙ ap (λ (r : Result (List TapeEntry) Fault). r >>= values 0) (w.after []) in
    let all : all_encoded over es ≡ Ok block = ap (all_encoded over) (sym (append-nil es)) ∙ w.written [] [] refl ∙ ap (λ (x : List ℕ). Ok x) (append-nil block) in
    ap (λ (r : Result (Unit {0}) Fault). in_tape (length es) (r >>= λ done. all_encoded over es)) one ∙ ap (in_tape (length es)) all
