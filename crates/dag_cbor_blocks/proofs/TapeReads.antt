-- What a writer of a tape comes to over a block are the entries of its item.
use Rattle.std.proofs.Common.{◌≡◌, inl, inr, ℕ, suc, pos, negsuc, ◌+◌, ◌-◌, ◌^◌, ◌<◌, Bool, true, false, List, [], ◌∷◌, ◌++◌, length, Some, refl, sym, ap, subst, ◌∙◌, append_assoc, arith}
use Rattle.std.specs.Prelude.{◌*◌, ◌/◌, ◌%◌, ◌&&◌, ◌==◌, nat_lt, if◌then◌else◌, slice_get, slice_set}
use Rattle.std.proofs.Math.Nat.{div-add-mod}
use Rattle.std.proofs.Math.Seq.{set-append_seam}
use Rattle.std.proofs.lemmas.Bool.{lt-ltb}
use Rattle.std.proofs.lemmas.List.{append-nil, length-append}
use Rattle.ipld_tree.specs.Tree.{Tree, Items, Members}
use Rattle.ipld_tree.specs.Put.{put}
use Rattle.ipld_tokens.specs.Token.{TokenModel, atom, seq_end, map_end, none, unit, unit_struct, boolean, integer, unsigned, character, text, unit_variant}
use Rattle.ipld_tokens.specs.Token as token
use Rattle.ipld_tokens.specs.Item.{Item, atom_item, bytes_item, some_item, variant_item, list_item, map_item, link_item, Parts, no_parts, part, Pairs, no_pairs, pair}
use Rattle.ipld_tokens.specs.ItemTree.{tree_of_item, items_of_parts, members_of_pairs}
use Rattle.dag_cbor_format.specs.declared.error.CborError.{CborError}
use Rattle.dag_cbor_format.specs.declared.major.Major.TheVariants.{Unsigned, Negative, Bytes, Text, List as Array, Map, Tag, Simple}
use Rattle.dag_cbor_format.specs.Head.{head}
use Rattle.dag_cbor_format.specs.Encoding.{part_count, pair_count}
use Rattle.dag_cbor_format.specs.ItemHeader.{Beginning, scalar, item_header_at}
use Rattle.dag_cbor_format.specs.Errors.{key_error, link_error}
use Rattle.dag_cbor_format.specs.Floats.{IsFloat, beginning_at, beginning_error}
use Rattle.dag_cbor_format.specs.Reading.{Frame, one, many, pairs, value, mark, begin, begun as begun_at_head, item_step_in, among, and_key, after_key, after_link}
use Rattle.dag_cbor_format.specs.Trace.{Event, Trace, led, after_a_key, traced, trace_ahead, trace_of}
use Rattle.dag_cbor_format.proofs.Complete.{list_is, map_is, part_is}
use Rattle.dag_cbor_format.proofs.FloatLaws.{plain_beginning, float_beginning}
use Rattle.dag_cbor_format.proofs.ItemHeaderLaws.{CidLaws}
use Rattle.dag_cbor_format.proofs.ItemHeaders.{item_header_at-head, item_header_at-bytes, item_header_at-text, key_at-text, link_at-bytes}
use Rattle.dag_cbor_format.proofs.Keys.{AreFresh, put_new_is, unseen, fresh_after}
use Rattle.dag_cbor_format.proofs.Running.{trace_unwound}
use Rattle.dag_cbor_blocks.specs.Tape.{entry, DescribesText, DescribesKey, Describes, DescribeParts, DescribePairs, IsTapeOf, all_short}
use Rattle.dag_cbor_blocks.specs.TapeWriter.{Tape, Reading, reading, stopped, container, kept, outside, empty_tape, written, counted, content_after, number_after, null_after, begun, ended_as, ended, event_after, read_on}
use Rattle.dag_cbor_blocks.specs.declared.tape.OpenEntry.{OpenEntry}
use Rattle.dag_cbor_blocks.specs.declared.tape.TapeEntry.{TapeEntry}

-- ---- tapes

abbrev made : Tape → ℕ → ℕ → List TapeEntry → Tape
made t left count es = record { size = t.size; left = left; innermost = container t.innermost.entry count; entries = es }

-- so many values more, with these entries
abbrev pub with_values : Tape → List TapeEntry → ℕ → ℕ → Tape
with_values t es n left = made t left (t.innermost.count + n) (t.entries ++ es)

-- where each entry is short
abbrev pub if_short : List TapeEntry → Tape → Reading
if_short es t = if all_short es then reading t else stopped

-- so many bytes have come, and these follow
record Stands (t : Tape) (at : ℕ) (bytes : List ℕ) : Type 0 where
  behind : t.left ≡ length bytes
  all : t.size ≡ at + length bytes

stopped_on : (es : List Event) → read_on stopped es ≡ stopped
stopped_on [] = refl
stopped_on (e ∷ es) = stopped_on es

and-assoc : (x y z : Bool) → (x && (y && z)) ≡ ((x && y) && z)
and-assoc true y z = refl
and-assoc false y z = refl

pub all_short-append : (a b : List TapeEntry) → all_short (a ++ b) ≡ (all_short a && all_short b)
all_short-append [] b = refl
all_short-append (e ∷ a) b = ap (λ x. nat_lt e.len (2 ^ 32) && x) (all_short-append a b) ∙ and-assoc (nat_lt e.len (2 ^ 32)) (all_short a) (all_short b)

one_short : (b : Bool) (x : Reading) → (if b then x else stopped) ≡ (if b && true then x else stopped)
one_short true x = refl
one_short false x = refl

never_short : (b : Bool) (x : Reading) → stopped ≡ (if b && false then x else stopped)
never_short true x = refl
never_short false x = refl

content_is : (kind len left off : ℕ) (t : Tape) → t.size - left - len ≡ off → content_after kind len left t ≡ if_short (entry kind len off ∷ []) (written (entry kind len off) left t)
content_is kind len left off t e =
    ap (λ (n : ℕ). if nat_lt len (2 ^ 32) then reading (written (entry kind len n) left t) else stopped) e
    ∙ one_short (nat_lt len (2 ^ 32)) (reading (written (entry kind len off) left t))

number_is : (kind n left : ℕ) (t : Tape) → n < 2 ^ 64 → number_after kind n left t ≡ reading (written (entry kind 0 n) left (counted t))
number_is kind n left t lt = ap (λ b. if b then reading (written (entry kind 0 n) left (counted t)) else stopped) (lt-ltb n (2 ^ 64) lt)

nothing_more : (t : Tape) (left : ℕ) → t.left ≡ left → t ≡ with_values t [] 0 left
nothing_more t left e =
    ap (λ (c : ℕ). made t t.left c t.entries) (let same : t.innermost.count ≡ t.innermost.count + 0 = omega arith in same)
    ∙ ap (made t t.left (t.innermost.count + 0)) (sym (append-nil t.entries))
    ∙ ap (λ (l : ℕ). made t l (t.innermost.count + 0) (t.entries ++ [])) e

values_more : (t : Tape) (a b : List TapeEntry) (n l0 l : ℕ) → with_values (with_values t a 1 l0) b n l ≡ with_values t (a ++ b) (suc n) l
values_more t a b n l0 l =
    ap (λ (c : ℕ). made t l c ((t.entries ++ a) ++ b)) (let same : t.innermost.count + 1 + n ≡ t.innermost.count + suc n = omega arith in same)
    ∙ ap (made t l (t.innermost.count + suc n)) (append_assoc t.entries a b)

chained : (t : Tape) (a b : List TapeEntry) (n l0 l : ℕ) → all_short a ≡ true → if_short b (with_values (with_values t a 1 l0) b n l) ≡ if_short (a ++ b) (with_values t (a ++ b) (suc n) l)
chained t a b n l0 l short =
    ap (λ x. if all_short b then reading x else stopped) (values_more t a b n l0 l)
    ∙ ap (λ c. if c then reading (with_values t (a ++ b) (suc n) l) else stopped) (sym (all_short-append a b ∙ ap (λ c. c && all_short b) short))

cut_short : (a b : List TapeEntry) (t : Tape) → all_short a ≡ false → stopped ≡ if_short (a ++ b) t
cut_short a b t long = ap (λ c. if c then reading t else stopped) (sym (all_short-append a b ∙ ap (λ c. c && all_short b) long))

-- behind a value the others follow, where it is short
continued : (t : Tape) (a b : List TapeEntry) (n l0 l : ℕ) (xs es : List Event)
    → read_on (reading (with_values t a 1 l0)) xs ≡ read_on (if_short b (with_values (with_values t a 1 l0) b n l)) es
    → read_on (if_short a (with_values t a 1 l0)) xs ≡ read_on (if_short (a ++ b) (with_values t (a ++ b) (suc n) l)) es
continued t a b n l0 l xs es h =
    elim (all_short a) as (λ c. all_short a ≡ c → read_on (if c then reading (with_values t a 1 l0) else stopped) xs ≡ read_on (if_short (a ++ b) (with_values t (a ++ b) (suc n) l)) es) [
      | true ↦ λ short. h ∙ ap (λ r. read_on r es) (chained t a b n l0 l short)
      | false ↦ λ long. stopped_on xs ∙ sym (stopped_on es) ∙ ap (λ r. read_on r es) (cut_short a b (with_values t (a ++ b) (suc n) l) long)
    ] refl

-- behind a key its value follows
keyed : (t : Tape) (k : TapeEntry) (here : List TapeEntry) (l0 l : ℕ) (xs es : List Event)
    → read_on (reading (written k l0 t)) xs ≡ read_on (if_short here (with_values (written k l0 t) here 1 l)) es
    → read_on (if_short (k ∷ []) (written k l0 t)) xs ≡ read_on (if_short (k ∷ here) (with_values t (k ∷ here) 1 l)) es
keyed t k here l0 l xs es h =
    elim (nat_lt k.len (2 ^ 32)) as (λ c. read_on (if c && true then reading (written k l0 t) else stopped) xs ≡ read_on (if c && all_short here then reading (with_values t (k ∷ here) 1 l) else stopped) es) [
      | true ↦ h ∙ ap (λ x. read_on (if all_short here then reading (made t l (t.innermost.count + 1) x) else stopped) es) (append_assoc t.entries (k ∷ []) here)
      | false ↦ stopped_on xs ∙ sym (stopped_on es)
    ]

-- an entry keeps what is outside
kept_outside : (o : OpenEntry) → outside (kept o) ≡ o
kept_outside o = ap (λ (c : ℕ). container o.entry c) (let same : o.count / 2 ^ 32 * 2 ^ 32 + o.count % 2 ^ 32 ≡ o.count = omega (arith, div-add-mod o.count (2 ^ 32)) in same)

get_seam : (xs : List TapeEntry) (y : TapeEntry) (ys : List TapeEntry) → slice_get (xs ++ y ∷ ys) (length xs) ≡ Some y
get_seam [] y ys = refl
get_seam (x ∷ xs) y ys = get_seam xs y ys

-- what begins ends
closed : (kind n l0 l : ℕ) (t : Tape) (inner : List TapeEntry) (step : Reading → Reading) → ((x : Tape) → step (reading x) ≡ ended kind l x) → step stopped ≡ stopped
    → step (if_short inner (with_values (begun l0 t) inner n l)) ≡ if_short (entry kind (suc (length inner)) n ∷ inner) (with_values t (entry kind (suc (length inner)) n ∷ inner) 1 l)
closed kind n l0 l t inner step on_reading on_stopped =
    let x = with_values (begun l0 t) inner n l in
    let whole = with_values t (entry kind (suc (length inner)) n ∷ inner) 1 l in
    let o = container t.innermost.entry (t.innermost.count + 1) in
    let flat : x.entries ≡ t.entries ++ kept o ∷ inner = append_assoc t.entries (kept o ∷ []) inner in
    let span : length x.entries - length t.entries ≡ suc (length inner) = omega (arith, ap length flat, length-append t.entries (kept o ∷ inner)) in
    let none : 0 + n ≡ n = omega arith in
    let here : slice_get x.entries (length t.entries) ≡ Some (kept o) = ap (λ es. slice_get es (length t.entries)) flat ∙ get_seam t.entries (kept o) inner in
    let after : OpenEntry → ℕ → ℕ → Tape = λ c s m. record { size = t.size; left = l; innermost = c; entries = slice_set x.entries (length t.entries) (entry kind s m) } in
    let ends : ended kind l x ≡ (if nat_lt (suc (length inner)) (2 ^ 32) then reading whole else stopped) =
    ap (λ (s : ℕ). if nat_lt s (2 ^ 32) then reading (ended_as kind s l x (slice_get x.entries (length t.entries))) else stopped) span
    ∙ ap (λ e. if nat_lt (suc (length inner)) (2 ^ 32) then reading (ended_as kind (suc (length inner)) l x e) else stopped) here
    ∙ ap (λ c. if nat_lt (suc (length inner)) (2 ^ 32) then reading (after c (suc (length inner)) (0 + n)) else stopped) (kept_outside o)
    ∙ ap (λ (m : ℕ). if nat_lt (suc (length inner)) (2 ^ 32) then reading (after o (suc (length inner)) m) else stopped) none
    ∙ ap (λ es. if nat_lt (suc (length inner)) (2 ^ 32) then reading (made t l (t.innermost.count + 1) es) else stopped)
    (ap (λ es. slice_set es (length t.entries) (entry kind (suc (length inner)) n)) flat ∙ set-append_seam t.entries (kept o) inner (entry kind (suc (length inner)) n)) in
    elim (all_short inner) as (λ c. step (if c then reading x else stopped) ≡ (if nat_lt (suc (length inner)) (2 ^ 32) && c then reading whole else stopped)) [
      | true ↦ on_reading x ∙ ends ∙ one_short (nat_lt (suc (length inner)) (2 ^ 32)) (reading whole)
      | false ↦ on_stopped ∙ never_short (nat_lt (suc (length inner)) (2 ^ 32)) (reading whole)
    ]

-- ---- offsets

moved : (t u : Tape) (at : ℕ) (first rest : List ℕ) → Stands t at (first ++ rest) → u.size ≡ t.size → u.left ≡ length rest → Stands u (at + length first) rest
moved t u at first rest st same left = record { behind = left; all = omega (arith, same, st.all, length-append first rest) }

offset_is : (t : Tape) (at : ℕ) (h s bs first : List ℕ) → Stands t at (first ++ bs) → first ≡ h ++ s → t.size - length bs - length s ≡ at + length h
offset_is t at h s bs first st e =
    let sizes : length (first ++ bs) ≡ length (h ++ s) + length bs = ap (λ xs. length (xs ++ bs)) e ∙ length-append (h ++ s) bs in
    omega (arith, st.all, sizes, length-append h s)

-- how many bytes were read
taken_is : (t : Tape) (at n : ℕ) (first bs : List ℕ) → Stands t at (first ++ bs) → length first ≡ n → t.left - length bs ≡ n
taken_is t at n first bs st e = omega (arith, st.behind, length-append first bs, e)

null_head : length (head Simple 22) ≡ 1
unfolding head
null_head = refl

-- ---- keys

record KeyIs (k : Item 64) (at : ℕ) (name : List ℕ) (e : TapeEntry) : Type 0 where
  bytes : List ℕ
  is : k ≡ atom_item (text bytes)
  describes : DescribesText 11 bytes at name e

key_is : (k : Item 64) (at : ℕ) (name : List ℕ) (e : TapeEntry) → DescribesKey k at name e → KeyIs k at name e
key_is (atom_item none) at name e h = absurd h
key_is (atom_item unit) at name e h = absurd h
key_is (atom_item unit_struct) at name e h = absurd h
key_is (atom_item (boolean b)) at name e h = absurd h
key_is (atom_item (integer n)) at name e h = absurd h
key_is (atom_item (unsigned n)) at name e h = absurd h
key_is (atom_item (character c)) at name e h = absurd h
key_is (atom_item (text s)) at name e h = record { bytes = s; is = refl; describes = h }
key_is (atom_item (unit_variant s)) at name e h = absurd h
key_is (bytes_item b) at name e h = absurd h
key_is (some_item i) at name e h = absurd h
key_is (variant_item name' i) at name e h = absurd h
key_is (list_item is) at name e h = absurd h
key_is (map_item ps) at name e h = absurd h
key_is (link_item encoded cid is) at name e h = absurd h

-- ---- steps

-- over these events a tape gets these entries, which are so many values, where each of them is short
abbrev Gets : Tape → List TapeEntry → ℕ → ℕ → List Event → List Event → Type 0
Gets t es n left events after = read_on (reading t) events ≡ read_on (if_short es (with_values t es n left)) after

module _ (laws : CidLaws) where
  scalar_led : (left : ℕ) (fs : List Frame) (bs rest : List ℕ) (k : TokenModel) → beginning_at true bs ≡ Some (scalar k, rest) → after_a_key fs ≡ false
      → traced left (trace_ahead true) (item_step_in true fs bs) ≡ led (k, length rest, false) (trace_ahead true fs rest)
  scalar_led left fs bs rest k e plain =
      ap (λ x. traced left (trace_ahead true) (begun_at_head fs (beginning_error true bs) x)) e ∙ ap (λ b. led (k, length rest, b) (trace_ahead true fs rest)) plain

  plain_led : (left : ℕ) (fs : List Frame) (first bs first' : List ℕ) (k : TokenModel) → first ≡ first' → item_header_at (first' ++ bs) ≡ Some (scalar k, bs) → after_a_key fs ≡ false
      → traced left (trace_ahead true) (item_step_in true fs (first ++ bs)) ≡ led (k, length bs, false) (trace_ahead true fs bs)
  plain_led left fs first bs first' k same e plain =
      scalar_led left fs (first ++ bs) bs k (ap (λ xs. beginning_at true (xs ++ bs)) same ∙ plain_beginning true (first' ++ bs) (scalar k) bs e) plain

  begun_led : (left : ℕ) (fs : List Frame) (bs : List ℕ) (b : Beginning) (rest : List ℕ) → item_header_at bs ≡ Some (b, rest)
      → traced left (trace_ahead true) (item_step_in true fs bs) ≡ traced left (trace_ahead true) (begin fs b rest)
  begun_led left fs bs b rest e = ap (λ x. traced left (trace_ahead true) (begun_at_head fs (beginning_error true bs) x)) (plain_beginning true bs b rest e)

  new_key : (left n : ℕ) (s : List ℕ) (seen : List (List ℕ)) (fs : List Frame) (x : CborError) (rest : List ℕ) → among s seen ≡ false
      → traced left (trace_ahead true) (after_key n seen fs x (Some (s, rest))) ≡ led (atom (text s), length rest, true) (trace_ahead true (value n (and_key s seen) ∷ fs) rest)
  new_key left n s seen fs x rest e = rw e

  link_led : (fs : List Frame) (b rest : List ℕ) (cid : Rattle.ipld_cid.specs.Cid.Link) → Rattle.ipld_cid.specs.Bytes.IsCid 64 b cid → suc (length b) < 2 ^ 64 → after_a_key fs ≡ false
      → trace_ahead true (mark ∷ fs) ((head Bytes (suc (length b)) ++ 0 ∷ b) ++ rest) ≡ led (token.bytes b, length rest, false) (trace_ahead true fs rest)
  link_led fs b rest cid is lt plain =
      let bs = (head Bytes (suc (length b)) ++ 0 ∷ b) ++ rest in
      trace_unwound true laws (mark ∷ fs) bs
      ∙ ap (λ o. traced (length bs) (trace_ahead true) (after_link fs (link_error bs) o)) (link_at-bytes laws b rest cid is lt)
      ∙ ap (λ k. led (token.bytes b, length rest, k) (trace_ahead true fs rest)) plain

  -- a value of one token
  one_token : (t : Tape) (e : TapeEntry) (es : List TapeEntry) (left : ℕ) (tr after : Trace) (k : TokenModel) → tr ≡ led (k, left, false) after → es ≡ e ∷ []
      → event_after (reading t) (k, left, false) ≡ if_short (e ∷ []) (with_values t (e ∷ []) 1 left) → Gets t es 1 left tr.events after.events
  one_token t e es left tr after k is same h =
      ap (λ (x : Trace). read_on (reading t) x.events) is ∙ ap (λ r. read_on r after.events) h
      ∙ ap (λ xs. read_on (if_short xs (with_values t xs 1 left)) after.events) (sym same)

  null_read : (t : Tape) (at : ℕ) (first bs : List ℕ) → Stands t at (first ++ bs) → first ≡ head Simple 22
      → null_after (length bs) t ≡ reading (with_values t (entry 0 0 0 ∷ []) 1 (length bs))
  null_read t at first bs st e =
      ap (λ (n : ℕ). reading (written (if n == 9 then entry 5 8 (t.size - length bs - 8) else entry 0 0 0) (length bs) (counted t))) (taken_is t at 1 first bs st (ap length e ∙ null_head))

  float_read : (t : Tape) (at : ℕ) (first bs : List ℕ) → Stands t at (first ++ bs) → IsFloat first
      → null_after (length bs) t ≡ reading (with_values t (entry 5 8 (at + 1) ∷ []) 1 (length bs))
  float_read t at first bs st f =
      let wide : length first ≡ 9 = ap length f.is ∙ ap suc f.wide in
      let off : t.size - length bs - 8 ≡ at + 1 = omega (arith, st.all, length-append first bs, wide) in
      ap (λ (n : ℕ). reading (written (if n == 9 then entry 5 8 (t.size - length bs - 8) else entry 0 0 0) (length bs) (counted t))) (taken_is t at 9 first bs st wide)
      ∙ ap (λ (n : ℕ). reading (written (entry 5 8 n) (length bs) (counted t))) off

  mutual
    read_item : (i : Item 64) (v : Tree) (t : Tape) (at left : ℕ) (fs : List Frame) (first bs : List ℕ) (es : List TapeEntry) → Describes i at first es → tree_of_item i ≡ Some v → after_a_key fs ≡ false
        → Stands t at (first ++ bs) → Gets t es 1 (length bs) (traced left (trace_ahead true) (item_step_in true fs (first ++ bs))).events (trace_ahead true fs bs).events
    read_item (atom_item none) v t at left fs first bs es (e, inl h, same) is plain st =
        one_token t e es (length bs) (traced left (trace_ahead true) (item_step_in true fs (first ++ bs))) (trace_ahead true fs bs) (atom none)
        (plain_led left fs first bs (head Simple 22) (atom none) h.0 (item_header_at-head Simple 22 bs (omega arith)) plain) same
        (null_read t at first bs st h.0 ∙ ap (λ (x : TapeEntry). if_short (x ∷ []) (with_values t (x ∷ []) 1 (length bs))) (sym h.1))
    read_item (atom_item none) v t at left fs first bs es (e, inr h, same) is plain st =
        one_token t e es (length bs) (traced left (trace_ahead true) (item_step_in true fs (first ++ bs))) (trace_ahead true fs bs) (atom none)
        (scalar_led left fs (first ++ bs) bs (atom none) (float_beginning first bs h.0) plain) same
        (float_read t at first bs st h.0 ∙ ap (λ (x : TapeEntry). if_short (x ∷ []) (with_values t (x ∷ []) 1 (length bs))) (sym h.1))
    read_item (atom_item unit) v t at left fs first bs es h is plain st = absurd h.1
    read_item (atom_item unit_struct) v t at left fs first bs es h is plain st = absurd h.1
    read_item (atom_item (boolean true)) v t at left fs first bs es (e, h, same) is plain st =
        one_token t e es (length bs) (traced left (trace_ahead true) (item_step_in true fs (first ++ bs))) (trace_ahead true fs bs) (atom (boolean true))
        (plain_led left fs first bs (head Simple 21) (atom (boolean true)) h.0 (item_header_at-head Simple 21 bs (omega arith)) plain) same
        (ap (λ (x : TapeEntry). if_short (x ∷ []) (with_values t (x ∷ []) 1 (length bs))) (sym h.1))
    read_item (atom_item (boolean false)) v t at left fs first bs es (e, h, same) is plain st =
        one_token t e es (length bs) (traced left (trace_ahead true) (item_step_in true fs (first ++ bs))) (trace_ahead true fs bs) (atom (boolean false))
        (plain_led left fs first bs (head Simple 20) (atom (boolean false)) h.0 (item_header_at-head Simple 20 bs (omega arith)) plain) same
        (ap (λ (x : TapeEntry). if_short (x ∷ []) (with_values t (x ∷ []) 1 (length bs))) (sym h.1))
    read_item (atom_item (integer (pos n))) v t at left fs first bs es (e, h, same) is plain st =
        one_token t e es (length bs) (traced left (trace_ahead true) (item_step_in true fs (first ++ bs))) (trace_ahead true fs bs) (atom (integer (pos n)))
        (plain_led left fs first bs (head Unsigned n) (atom (integer (pos n))) h.1 (item_header_at-head Unsigned n bs h.0) plain) same
        (number_is 3 n (length bs) t h.0 ∙ ap (λ (x : TapeEntry). if_short (x ∷ []) (with_values t (x ∷ []) 1 (length bs))) (sym h.2))
    read_item (atom_item (integer (negsuc n))) v t at left fs first bs es (e, h, same) is plain st =
        one_token t e es (length bs) (traced left (trace_ahead true) (item_step_in true fs (first ++ bs))) (trace_ahead true fs bs) (atom (integer (negsuc n)))
        (plain_led left fs first bs (head Negative n) (atom (integer (negsuc n))) h.1 (item_header_at-head Negative n bs h.0) plain) same
        (number_is 4 n (length bs) t h.0 ∙ ap (λ (x : TapeEntry). if_short (x ∷ []) (with_values t (x ∷ []) 1 (length bs))) (sym h.2))
    read_item (atom_item (unsigned n)) v t at left fs first bs es h is plain st = absurd h.1
    read_item (atom_item (character c)) v t at left fs first bs es h is plain st = absurd h.1
    read_item (atom_item (text s)) v t at left fs first bs es (e, h, same) is plain st =
        let d : DescribesText 6 s at first e = h in
        one_token t e es (length bs) (traced left (trace_ahead true) (item_step_in true fs (first ++ bs))) (trace_ahead true fs bs) (atom (text s))
        (plain_led left fs first bs (head Text (length s) ++ s) (atom (text s)) d.is (item_header_at-text s bs d.utf8 d.fits) plain) same
        (content_is 6 (length s) (length bs) _ (counted t) (offset_is t at (head Text (length s)) s bs first st d.is)
        ∙ ap (λ (x : TapeEntry). if_short (x ∷ []) (with_values t (x ∷ []) 1 (length bs))) (sym d.entry_is))
    read_item (atom_item (unit_variant s)) v t at left fs first bs es h is plain st = absurd h.1
    read_item (bytes_item b) v t at left fs first bs es h is plain st =
        one_token t _ es (length bs) (traced left (trace_ahead true) (item_step_in true fs (first ++ bs))) (trace_ahead true fs bs) (token.bytes b)
        (plain_led left fs first bs (head Bytes (length b) ++ b) (token.bytes b) h.1 (item_header_at-bytes b bs h.0) plain) h.2
        (content_is 7 (length b) (length bs) _ (counted t) (offset_is t at (head Bytes (length b)) b bs first st h.1))
    read_item (some_item i) v t at left fs first bs es h is plain st = absurd h
    read_item (variant_item name i) v t at left fs first bs es h is plain st = absurd h
    read_item (list_item is) v t at left fs first bs es h tree plain st =
        let ts = list_is (items_of_parts is) v tree in
        let n = part_count is in
        let content = h.1 in
        let inner = h.2 in
        let l0 = length (content ++ bs) in
        let same : first ++ bs ≡ head Array n ++ (content ++ bs) = ap (λ xs. xs ++ bs) h.4 ∙ append_assoc (head Array n) content bs in
        let stands = moved t (begun l0 t) at (head Array n) (content ++ bs) (subst (Stands t at) same st) refl refl in
        ap (λ xs. read_on (reading t) (traced left (trace_ahead true) (item_step_in true fs xs)).events) same
        ∙ ap (λ (x : Trace). read_on (reading t) x.events) (begun_led left fs (head Array n ++ (content ++ bs)) _ _ (item_header_at-head Array n (content ++ bs) h.0))
        ∙ read_parts is ts.0 (begun l0 t) (at + length (head Array n)) fs content bs inner h.3 ts.1 plain stands
        ∙ ap (λ r. read_on r (trace_ahead true fs bs).events) (closed 9 n l0 (length bs) t inner (λ r. event_after r (seq_end, length bs, false)) (λ x. refl) refl)
        ∙ ap (λ xs. read_on (if_short xs (with_values t xs 1 (length bs))) (trace_ahead true fs bs).events) (sym h.5)
    read_item (map_item ps) v t at left fs first bs es h tree plain st =
        let ms = map_is (members_of_pairs ps) v tree in
        let n = pair_count ps in
        let content = h.1 in
        let inner = h.2 in
        let l0 = length (content ++ bs) in
        let same : first ++ bs ≡ head Map n ++ (content ++ bs) = ap (λ xs. xs ++ bs) h.4 ∙ append_assoc (head Map n) content bs in
        let stands = moved t (begun l0 t) at (head Map n) (content ++ bs) (subst (Stands t at) same st) refl refl in
        ap (λ xs. read_on (reading t) (traced left (trace_ahead true) (item_step_in true fs xs)).events) same
        ∙ ap (λ (x : Trace). read_on (reading t) x.events) (begun_led left fs (head Map n ++ (content ++ bs)) _ _ (item_header_at-head Map n (content ++ bs) h.0))
        ∙ read_pairs ps ms.0 [] (begun l0 t) (at + length (head Map n)) fs content bs inner h.3 ms.1 (λ q is. absurd (cc is)) plain stands
        ∙ ap (λ r. read_on r (trace_ahead true fs bs).events) (closed 10 n l0 (length bs) t inner (λ r. event_after r (map_end, length bs, false)) (λ x. refl) refl)
        ∙ ap (λ xs. read_on (if_short xs (with_values t xs 1 (length bs))) (trace_ahead true fs bs).events) (sym h.5)
    read_item (link_item b cid is) v t at left fs first bs es h tree plain st =
        let lead = head Bytes (suc (length b)) in
        let content = (lead ++ 0 ∷ b) ++ bs in
        let front = head Tag 42 ++ (lead ++ 0 ∷ []) in
        let cut : first ≡ front ++ b =
        h.1 ∙ ap (λ xs. head Tag 42 ++ xs) (sym (append_assoc lead (0 ∷ []) b)) ∙ sym (append_assoc (head Tag 42) (lead ++ 0 ∷ []) b) in
        let off : t.size - length bs - length b ≡ at + length (head Tag 42) + length lead + 1 =
        omega (arith, offset_is t at front b bs first st cut, length-append (head Tag 42) (lead ++ 0 ∷ []), length-append lead (0 ∷ [])) in
        ap (λ xs. read_on (reading t) (traced left (trace_ahead true) (item_step_in true fs (xs ++ bs))).events) h.1
        ∙ ap (λ xs. read_on (reading t) (traced left (trace_ahead true) (item_step_in true fs xs)).events) (append_assoc (head Tag 42) (lead ++ 0 ∷ b) bs)
        ∙ ap (λ (x : Trace). read_on (reading t) x.events) (begun_led left fs (head Tag 42 ++ content) _ _ (item_header_at-head Tag 42 content (omega arith)))
        ∙ ap (λ (x : Trace). read_on (event_after (reading t) (token.link, length content, false)) x.events) (link_led fs b bs cid is h.0 plain)
        ∙ ap (λ r. read_on r (trace_ahead true fs bs).events) (content_is 8 (length b) (length bs) _ (counted t) off)
        ∙ ap (λ xs. read_on (if_short xs (with_values t xs 1 (length bs))) (trace_ahead true fs bs).events) (sym h.2)

    read_parts : (is : Parts 64) (vs : Items) (t : Tape) (at : ℕ) (fs : List Frame) (content bs : List ℕ) (es : List TapeEntry) → DescribeParts is at content es → items_of_parts is ≡ Some vs → after_a_key fs ≡ false
        → Stands t at (content ++ bs) → Gets t es (part_count is) (length bs) (trace_ahead true (many (part_count is) ∷ fs) (content ++ bs)).events ((seq_end, length bs, false) ∷ (trace_ahead true fs bs).events)
    read_parts no_parts vs t at fs content bs es h tree plain st =
        let after = (seq_end, length bs, false) ∷ (trace_ahead true fs bs).events in
        let ends = ap (λ xs. trace_ahead true (many 0 ∷ fs) (xs ++ bs)) h.0 ∙ trace_unwound true laws (many 0 ∷ fs) bs ∙ ap (λ k. led (seq_end, length bs, k) (trace_ahead true fs bs)) plain in
        let left : t.left ≡ length bs = st.behind ∙ ap (λ xs. length (xs ++ bs)) h.0 in
        ap (λ (x : Trace). read_on (reading t) x.events) ends ∙ ap (λ x. read_on (reading x) after) (nothing_more t (length bs) left)
        ∙ ap (λ xs. read_on (if_short xs (with_values t xs 0 (length bs))) after) (sym h.1)
    read_parts (part i is) vs t at fs content bs es h tree plain st =
        let p = part_is (tree_of_item i) (items_of_parts is) vs tree in
        let n = part_count is in
        let first = h.0 in
        let more = h.1 in
        let here = h.2 in
        let others = h.3 in
        let all = first ++ (more ++ bs) in
        let after = (seq_end, length bs, false) ∷ (trace_ahead true fs bs).events in
        let l0 = length (more ++ bs) in
        let same : content ++ bs ≡ all = ap (λ xs. xs ++ bs) h.6 ∙ append_assoc first more bs in
        let stands = subst (Stands t at) same st in
        let u = with_values t here 1 l0 in
        ap (λ (x : Trace). read_on (reading t) x.events) (ap (trace_ahead true (many (suc n) ∷ fs)) same ∙ trace_unwound true laws (many (suc n) ∷ fs) all)
        ∙ read_item i p.0 t at (length all) (many n ∷ fs) first (more ++ bs) here h.4 p.2 refl stands
        ∙ continued t here others n l0 (length bs) (trace_ahead true (many n ∷ fs) (more ++ bs)).events after
        (read_parts is p.1 u (at + length first) fs more bs others h.5 p.3 plain (moved t u at first (more ++ bs) stands refl refl))
        ∙ ap (λ xs. read_on (if_short xs (with_values t xs (suc n) (length bs))) after) (sym h.7)

    read_pairs : (ps : Pairs 64) (ms : Members) (seen : List (List ℕ)) (t : Tape) (at : ℕ) (fs : List Frame) (content bs : List ℕ) (es : List TapeEntry) → DescribePairs ps at content es → members_of_pairs ps ≡ Some ms
        → AreFresh seen ms → after_a_key fs ≡ false → Stands t at (content ++ bs)
        → Gets t es (pair_count ps) (length bs) (trace_ahead true (pairs (pair_count ps) seen ∷ fs) (content ++ bs)).events ((map_end, length bs, false) ∷ (trace_ahead true fs bs).events)
    read_pairs no_pairs ms seen t at fs content bs es h tree fresh plain st =
        let after = (map_end, length bs, false) ∷ (trace_ahead true fs bs).events in
        let ends = ap (λ xs. trace_ahead true (pairs 0 seen ∷ fs) (xs ++ bs)) h.0 ∙ trace_unwound true laws (pairs 0 seen ∷ fs) bs ∙ ap (λ k. led (map_end, length bs, k) (trace_ahead true fs bs)) plain in
        let left : t.left ≡ length bs = st.behind ∙ ap (λ xs. length (xs ++ bs)) h.0 in
        ap (λ (x : Trace). read_on (reading t) x.events) ends ∙ ap (λ x. read_on (reading x) after) (nothing_more t (length bs) left)
        ∙ ap (λ xs. read_on (if_short xs (with_values t xs 0 (length bs))) after) (sym h.1)
    read_pairs (pair k v ps) ms seen t at fs content bs es h tree fresh plain st =
        let name = h.0 in
        let first = h.1 in
        let more = h.2 in
        let here = h.4 in
        let others = h.5 in
        let key = key_is k at name h.3 h.6 in
        let s = key.bytes in
        let d = key.describes in
        let n = pair_count ps in
        let e = entry 11 (length s) (at + length (head Text (length s))) in
        let put_is = put_new_is s (tree_of_item v) (members_of_pairs ps) ms (subst (λ (x : Item 64). members_of_pairs (pair x v ps) ≡ Some ms) key.is tree) in
        let fresh_of : AreFresh seen (put s put_is.0 put_is.1) = subst (AreFresh seen) put_is.5 fresh in
        let behind = first ++ (more ++ bs) in
        let whole = name ++ behind in
        let spelled = (head Text (length s) ++ s) ++ behind in
        let after = (map_end, length bs, false) ∷ (trace_ahead true fs bs).events in
        let l0 = length behind in
        let l1 = length (more ++ bs) in
        let inner = pairs n (and_key s seen) ∷ fs in
        let same : content ++ bs ≡ whole = ap (λ xs. xs ++ bs) h.9 ∙ append_assoc name (first ++ more) bs ∙ ap (λ xs. name ++ xs) (append_assoc first more bs) in
        let stands = subst (Stands t at) same st in
        let w = written e l0 t in
        let stands_first : Stands w (at + length name) behind = moved t w at name behind stands refl refl in
        let u = with_values t (e ∷ here) 1 l1 in
        let stands_more : Stands u (at + length name + length first) (more ++ bs) = moved w u (at + length name) first (more ++ bs) stands_first refl refl in
        let led_by : trace_ahead true (pairs (suc n) seen ∷ fs) (content ++ bs) ≡ led (atom (text s), l0, true) (trace_ahead true (value n (and_key s seen) ∷ fs) behind) =
        ap (trace_ahead true (pairs (suc n) seen ∷ fs)) (same ∙ ap (λ xs. xs ++ behind) d.is)
        ∙ trace_unwound true laws (pairs (suc n) seen ∷ fs) spelled
        ∙ ap (λ o. traced (length spelled) (trace_ahead true) (after_key n seen fs (key_error spelled) o)) (key_at-text s behind d.utf8 d.fits)
        ∙ new_key (length spelled) n s seen fs (key_error spelled) behind (unseen s put_is.0 seen put_is.1 fresh_of) in
        let value_read =
        ap (λ (x : Trace). read_on (reading w) x.events) (trace_unwound true laws (value n (and_key s seen) ∷ fs) behind)
        ∙ read_item v put_is.0 w (at + length name) (length behind) inner first (more ++ bs) here h.7 put_is.2 refl stands_first in
        ap (λ (x : Trace). read_on (reading t) x.events) led_by
        ∙ ap (λ r. read_on r (trace_ahead true (value n (and_key s seen) ∷ fs) behind).events) (content_is 11 (length s) l0 _ t (offset_is t at (head Text (length s)) s behind name stands d.is))
        ∙ keyed t e here l0 l1 (trace_ahead true (value n (and_key s seen) ∷ fs) behind).events (trace_ahead true inner (more ++ bs)).events value_read
        ∙ continued t (e ∷ here) others n l1 (length bs) (trace_ahead true inner (more ++ bs)).events after
        (read_pairs ps put_is.1 (and_key s seen) u (at + length name + length first) fs more bs others h.8 put_is.3 (fresh_after s put_is.0 seen put_is.1 put_is.4 fresh_of) plain stands_more)
        ∙ ap (λ xs. read_on (if_short xs (with_values t xs (suc n) (length bs))) after) (sym (h.10 ∙ ap (λ (x : TapeEntry). x ∷ (here ++ others)) d.entry_is))

  -- of a whole block
  pub tape_read : (block : List ℕ) (es : List TapeEntry) → IsTapeOf es block
      → read_on (reading (empty_tape (length block))) (trace_of true block).events ≡ if_short es (with_values (empty_tape (length block)) es 1 0)
  tape_read block es (i, v, tree, describes) =
      let t = empty_tape (length block) in
      let whole : block ++ [] ≡ block = append-nil block in
      let stands : Stands t 0 (block ++ []) = record { behind = sym (ap length whole); all = omega (arith, ap length whole) } in
      ap (λ (x : Trace). read_on (reading t) x.events) (ap (λ xs. trace_ahead true (one ∷ []) xs) (sym whole) ∙ trace_unwound true laws (one ∷ []) (block ++ []))
      ∙ read_item i v t 0 (length (block ++ [])) [] block [] es describes tree refl stands
      ∙ ap (λ (x : Trace). read_on (if_short es (with_values t es 1 0)) x.events) (trace_unwound true laws [] [])
