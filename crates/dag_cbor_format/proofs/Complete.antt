-- What is encoded is read.
use Rattle.std.proofs.Common.{◌≡◌, inl, inr, ℕ, suc, pos, negsuc, ◌^◌, ◌<◌, Bool, true, false, List, [], ◌∷◌, ◌++◌, length, Option, Some, None, option_map, refl, sym, ap, subst, ◌∙◌, append_assoc, arith}
use Rattle.std.specs.Str.{IsUtf8}
use Rattle.std.proofs.lemmas.List.{append-nil}
use Rattle.ipld_tree.specs.Tree.{Tree, Items, no_items, item, Members}
use Rattle.ipld_tree.specs.Tree as tree
use Rattle.ipld_tree.specs.Put.{put}
use Rattle.ipld_tokens.specs.Token.{TokenModel, atom, seq, seq_end, map_end, none, unit, unit_struct, boolean, integer, unsigned, character, text, unit_variant}
use Rattle.ipld_tokens.specs.Token as token
use Rattle.ipld_tokens.specs.Item.{Item, atom_item, bytes_item, some_item, variant_item, list_item, map_item, link_item, Parts, no_parts, part, Pairs, no_pairs, pair, tokens_of}
use Rattle.ipld_tokens.specs.ItemTree.{tree_of_item, items_of_parts, members_of_pairs, item_before}
use Rattle.dag_cbor_format.specs.declared.major.Major.TheVariants.{Unsigned, Negative, Bytes, Text, List as Array, Map, Tag, Simple}
use Rattle.dag_cbor_format.specs.Head.{head}
use Rattle.dag_cbor_format.specs.Encoding.{part_count, pair_count, encoding, IsKey, EncodesItem}
use Rattle.dag_cbor_format.specs.declared.error.CborError.{CborError}
use Rattle.dag_cbor_format.specs.ItemHeader.{Beginning, scalar, item_header_at}
use Rattle.dag_cbor_format.specs.Errors.{key_error, link_error}
use Rattle.dag_cbor_format.specs.Floats.{beginning_at, beginning_error}
use Rattle.dag_cbor_format.specs.WithFloats.{EncodesIn, EncodeParts, EncodePairs}
use Rattle.dag_cbor_format.specs.Reading.{Frame, one, many, pairs, value, mark, begin, begun, item_step_in, among, and_key, after_key, after_link, Ran, of_block}
use Rattle.dag_cbor_format.specs.Trace.{Event, tokens_in, Trace, halted, led, after_a_key, traced, trace_ahead, trace_of}
use Rattle.dag_cbor_format.proofs.ItemHeaderLaws.{CidLaws}
use Rattle.dag_cbor_format.proofs.ItemHeaders.{item_header_at-head, item_header_at-bytes, item_header_at-text, key_at-text, link_at-bytes}
use Rattle.dag_cbor_format.proofs.FloatLaws.{plain_item, plain_beginning, float_beginning}
use Rattle.dag_cbor_format.proofs.EventsOf.{EventsOf, PartsEvents, PairsEvents, events_tokens}
use Rattle.dag_cbor_format.proofs.Running.{ran_of, trace_unwound, erased_block}
use Rattle.dag_cbor_format.proofs.Keys.{AreFresh, put_new_is, unseen, fresh_after}

-- ---- parts of trees

pub list_is : (o : Option Items) (t : Tree) → option_map tree.list o ≡ Some t → (ts : Items) × (o ≡ Some ts)
list_is None t e = absurd (cc e)
list_is (Some ts) t e = (ts, refl)

pub map_is : (o : Option Members) (t : Tree) → option_map tree.entries o ≡ Some t → (ms : Members) × (o ≡ Some ms)
map_is None t e = absurd (cc e)
map_is (Some ms) t e = (ms, refl)

pub part_is : (o : Option Tree) (p : Option Items) (ts : Items) → item_before o p ≡ Some ts → (t : Tree) × (us : Items) × (o ≡ Some t) × (p ≡ Some us)
part_is None p ts e = absurd (cc e)
part_is (Some t) None ts e = absurd (cc e)
part_is (Some t) (Some us) ts e = (t, us, refl, refl)

-- a key's string
pub record KeyIs (key : Item 64) : Type 0 where
  pub bytes : List ℕ
  pub is : key ≡ atom_item (text bytes)
  pub utf8 : IsUtf8 bytes
  pub fits : length bytes < 2 ^ 64

pub key_text_is : (key : Item 64) → IsKey key → KeyIs key
key_text_is (atom_item none) h = absurd h
key_text_is (atom_item unit) h = absurd h
key_text_is (atom_item unit_struct) h = absurd h
key_text_is (atom_item (boolean b)) h = absurd h
key_text_is (atom_item (integer n)) h = absurd h
key_text_is (atom_item (unsigned n)) h = absurd h
key_text_is (atom_item (character c)) h = absurd h
key_text_is (atom_item (text s)) h = record { bytes = s; is = refl; utf8 = h.0; fits = h.1 }
key_text_is (atom_item (unit_variant s)) h = absurd h
key_text_is (bytes_item b) h = absurd h
key_text_is (some_item i) h = absurd h
key_text_is (variant_item name i) h = absurd h
key_text_is (list_item is) h = absurd h
key_text_is (map_item ps) h = absurd h
key_text_is (link_item encoded cid is) h = absurd h

-- ---- steps

abbrev before : List Event → Trace → Trace
before es t = record { events = es ++ t.events; error = t.error; left = t.left }

before-append : (a b : List Event) (t : Trace) → before a (before b t) ≡ before (a ++ b) t
before-append a b t = ap (λ es. let x : Trace = record { events = es; error = t.error; left = t.left } in x) (sym (append_assoc a b t.events))

-- what is ahead are the events of an item, and then what is ahead
pub record Over (P : List Event → Type 0) (tr after : Trace) : Type 0 where
  pub events : List Event
  pub of : P events
  pub is : tr ≡ before events after

module _ (laws : CidLaws) (floats : Bool) where
  -- what an item begins with was read
  begun_at : (left : ℕ) (fs : List Frame) (bs : List ℕ) (l : Beginning) (rest : List ℕ) → item_header_at bs ≡ Some (l, rest)
      → traced left (trace_ahead floats) (item_step_in floats fs bs) ≡ traced left (trace_ahead floats) (begin fs l rest)
  begun_at left fs bs l rest e = ap (λ x. traced left (trace_ahead floats) (begun fs (beginning_error floats bs) x)) (plain_beginning floats bs l rest e)

  new_key : (left n : ℕ) (s : List ℕ) (seen : List (List ℕ)) (fs : List Frame) (x : CborError) (rest : List ℕ) → among s seen ≡ false
      → traced left (trace_ahead floats) (after_key n seen fs x (Some (s, rest))) ≡ led (atom (text s), length rest, true) (trace_ahead floats (value n (and_key s seen) ∷ fs) rest)
  new_key left n s seen fs x rest e = rw e

  link_read : (fs : List Frame) (b rest : List ℕ) (cid : Rattle.ipld_cid.specs.Cid.Link) → Rattle.ipld_cid.specs.Bytes.IsCid 64 b cid → suc (length b) < 2 ^ 64 → after_a_key fs ≡ false
      → trace_ahead floats (mark ∷ fs) ((head Bytes (suc (length b)) ++ 0 ∷ b) ++ rest) ≡ led (token.bytes b, length rest, false) (trace_ahead floats fs rest)
  link_read fs b rest cid is lt plain =
      let bs = (head Bytes (suc (length b)) ++ 0 ∷ b) ++ rest in
      trace_unwound floats laws (mark ∷ fs) bs
      ∙ ap (λ o. traced (length bs) (trace_ahead floats) (after_link fs (link_error bs) o)) (link_at-bytes laws b rest cid is lt)
      ∙ ap (λ k. led (token.bytes b, length rest, k) (trace_ahead floats fs rest)) plain

  -- a scalar
  scalar_over : (P : List Event → Type 0) (left : ℕ) (fs : List Frame) (bs rest : List ℕ) (t : TokenModel) → beginning_at floats bs ≡ Some (scalar t, rest) → after_a_key fs ≡ false
      → P ((t, length rest, false) ∷ []) → Over P (traced left (trace_ahead floats) (item_step_in floats fs bs)) (trace_ahead floats fs rest)
  scalar_over P left fs bs rest t e plain of = record {
    events = (t, length rest, false) ∷ [];
    of = of;
    is = ap (λ x. traced left (trace_ahead floats) (begun fs (beginning_error floats bs) x)) e ∙ ap (λ k. led (t, length rest, k) (trace_ahead floats fs rest)) plain;
  }

  plain_over : (P : List Event → Type 0) (left : ℕ) (fs : List Frame) (first bs first' : List ℕ) (t : TokenModel) → first ≡ first' → item_header_at (first' ++ bs) ≡ Some (scalar t, bs) → after_a_key fs ≡ false
      → P ((t, length bs, false) ∷ []) → Over P (traced left (trace_ahead floats) (item_step_in floats fs (first ++ bs))) (trace_ahead floats fs bs)
  plain_over P left fs first bs first' t same e plain of =
      scalar_over P left fs (first ++ bs) bs t (ap (λ xs. beginning_at floats (xs ++ bs)) same ∙ plain_beginning floats (first' ++ bs) (scalar t) bs e) plain of

  null_over : (P : List Event → Type 0) (left : ℕ) (fs : List Frame) (first bs : List ℕ) → EncodesIn floats (atom_item none) first → after_a_key fs ≡ false
      → P ((atom none, length bs, false) ∷ []) → Over P (traced left (trace_ahead floats) (item_step_in floats fs (first ++ bs))) (trace_ahead floats fs bs)
  null_over P left fs first bs (inl e) plain of = plain_over P left fs first bs (head Simple 22) (atom none) e (item_header_at-head Simple 22 bs (omega arith)) plain of
  null_over P left fs first bs (inr (on, float)) plain of =
      scalar_over P left fs (first ++ bs) bs (atom none) (ap (λ f. beginning_at f (first ++ bs)) on ∙ float_beginning first bs float) plain of

  mutual
    pub over_item : (i : Item 64) (t : Tree) (left : ℕ) (fs : List Frame) (first bs : List ℕ) → EncodesIn floats i first → tree_of_item i ≡ Some t → after_a_key fs ≡ false
        → Over (EventsOf i) (traced left (trace_ahead floats) (item_step_in floats fs (first ++ bs))) (trace_ahead floats fs bs)
    over_item (atom_item none) t left fs first bs h e plain = null_over _ left fs first bs h plain (length bs, refl)
    over_item (atom_item unit) t left fs first bs h e plain = absurd h.0
    over_item (atom_item unit_struct) t left fs first bs h e plain = absurd h.0
    over_item (atom_item (boolean true)) t left fs first bs h e plain = plain_over _ left fs first bs _ _ h.1 (item_header_at-head Simple 21 bs (omega arith)) plain (length bs, refl)
    over_item (atom_item (boolean false)) t left fs first bs h e plain = plain_over _ left fs first bs _ _ h.1 (item_header_at-head Simple 20 bs (omega arith)) plain (length bs, refl)
    over_item (atom_item (integer (pos n))) t left fs first bs h e plain = plain_over _ left fs first bs _ _ h.1 (item_header_at-head Unsigned n bs h.0) plain (length bs, refl)
    over_item (atom_item (integer (negsuc n))) t left fs first bs h e plain = plain_over _ left fs first bs _ _ h.1 (item_header_at-head Negative n bs h.0) plain (length bs, refl)
    over_item (atom_item (unsigned n)) t left fs first bs h e plain = absurd h.0
    over_item (atom_item (character c)) t left fs first bs h e plain = absurd h.0
    over_item (atom_item (text s)) t left fs first bs h e plain = plain_over _ left fs first bs _ _ h.1 (item_header_at-text s bs h.0.0 h.0.1) plain (length bs, refl)
    over_item (atom_item (unit_variant s)) t left fs first bs h e plain = absurd h.0
    over_item (bytes_item b) t left fs first bs h e plain = plain_over _ left fs first bs _ _ h.1 (item_header_at-bytes b bs h.0) plain (length bs, refl)
    over_item (some_item i) t left fs first bs h e plain = absurd h
    over_item (variant_item name i) t left fs first bs h e plain = absurd h
    over_item (list_item is) t left fs first bs h e plain =
        let ts = list_is (items_of_parts is) t e in
        let more = over_parts is ts.0 fs h.1 bs h.2 ts.1 plain in
        record {
          events = (seq, length (h.1 ++ bs), false) ∷ more.events;
          of = (length (h.1 ++ bs), length bs, more.of.0, more.of.1, ap (λ es. (seq, length (h.1 ++ bs), false) ∷ es) more.of.2);
          is = ap (λ xs. traced left (trace_ahead floats) (item_step_in floats fs (xs ++ bs))) h.3
              ∙ ap (λ xs. traced left (trace_ahead floats) (item_step_in floats fs xs)) (append_assoc (head Array (part_count is)) h.1 bs)
              ∙ begun_at left fs _ _ _ (item_header_at-head Array (part_count is) (h.1 ++ bs) h.0)
              ∙ ap (led (seq, length (h.1 ++ bs), false)) more.is;
        }
    over_item (map_item ps) t left fs first bs h e plain =
        let ms = map_is (members_of_pairs ps) t e in
        let more = over_pairs ps ms.0 [] fs h.1 bs h.2 ms.1 (λ q is. absurd (cc is)) plain in
        record {
          events = (token.map, length (h.1 ++ bs), false) ∷ more.events;
          of = (length (h.1 ++ bs), length bs, more.of.0, more.of.1, ap (λ es. (token.map, length (h.1 ++ bs), false) ∷ es) more.of.2);
          is = ap (λ xs. traced left (trace_ahead floats) (item_step_in floats fs (xs ++ bs))) h.3
              ∙ ap (λ xs. traced left (trace_ahead floats) (item_step_in floats fs xs)) (append_assoc (head Map (pair_count ps)) h.1 bs)
              ∙ begun_at left fs _ _ _ (item_header_at-head Map (pair_count ps) (h.1 ++ bs) h.0)
              ∙ ap (led (token.map, length (h.1 ++ bs), false)) more.is;
        }
    over_item (link_item b cid is) t left fs first bs h e plain =
        let content = (head Bytes (suc (length b)) ++ 0 ∷ b) ++ bs in
        record {
          events = (token.link, length content, false) ∷ (token.bytes b, length bs, false) ∷ [];
          of = (length content, length bs, refl);
          is = ap (λ xs. traced left (trace_ahead floats) (item_step_in floats fs (xs ++ bs))) h.1
              ∙ ap (λ xs. traced left (trace_ahead floats) (item_step_in floats fs xs)) (append_assoc (head Tag 42) (head Bytes (suc (length b)) ++ 0 ∷ b) bs)
              ∙ begun_at left fs _ _ _ (item_header_at-head Tag 42 content (omega arith))
              ∙ ap (led (token.link, length content, false)) (link_read fs b bs cid is h.0 plain);
        }

    over_parts : (is : Parts 64) (ts : Items) (fs : List Frame) (first bs : List ℕ) → EncodeParts floats is first → items_of_parts is ≡ Some ts → after_a_key fs ≡ false
        → Over (λ es. (inner : List Event) × PartsEvents is inner × (es ≡ inner ++ (seq_end, length bs, false) ∷ [])) (trace_ahead floats (many (part_count is) ∷ fs) (first ++ bs)) (trace_ahead floats fs bs)
    over_parts no_parts ts fs first bs h e plain = record {
      events = (seq_end, length bs, false) ∷ [];
      of = ([], refl, refl);
      is = ap (λ xs. trace_ahead floats (many 0 ∷ fs) (xs ++ bs)) h ∙ trace_unwound floats laws (many 0 ∷ fs) bs ∙ ap (λ k. led (seq_end, length bs, k) (trace_ahead floats fs bs)) plain;
    }
    over_parts (part i is) ts fs first bs h e plain =
        let p = part_is (tree_of_item i) (items_of_parts is) ts e in
        let all = h.0 ++ (h.1 ++ bs) in
        let here = over_item i p.0 (length all) (many (part_count is) ∷ fs) h.0 (h.1 ++ bs) h.2 p.2 refl in
        let more = over_parts is p.1 fs h.1 bs h.3 p.3 plain in
        record {
          events = here.events ++ more.events;
          of = (
            here.events ++ more.of.0,
            (here.events, more.of.0, here.of, more.of.1, refl),
            ap (λ es. here.events ++ es) more.of.2 ∙ sym (append_assoc here.events more.of.0 ((seq_end, length bs, false) ∷ [])),
          );
          is = ap (λ xs. trace_ahead floats (many (suc (part_count is)) ∷ fs) (xs ++ bs)) h.4
              ∙ ap (trace_ahead floats (many (suc (part_count is)) ∷ fs)) (append_assoc h.0 h.1 bs)
              ∙ trace_unwound floats laws (many (suc (part_count is)) ∷ fs) all
              ∙ here.is ∙ ap (before here.events) more.is ∙ before-append here.events more.events (trace_ahead floats fs bs);
        }

    over_pairs : (ps : Pairs 64) (ms : Members) (seen : List (List ℕ)) (fs : List Frame) (first bs : List ℕ) → EncodePairs floats ps first → members_of_pairs ps ≡ Some ms → AreFresh seen ms → after_a_key fs ≡ false
        → Over (λ es. (inner : List Event) × PairsEvents ps inner × (es ≡ inner ++ (map_end, length bs, false) ∷ [])) (trace_ahead floats (pairs (pair_count ps) seen ∷ fs) (first ++ bs)) (trace_ahead floats fs bs)
    over_pairs no_pairs ms seen fs first bs h e fresh plain = record {
      events = (map_end, length bs, false) ∷ [];
      of = ([], refl, refl);
      is = ap (λ xs. trace_ahead floats (pairs 0 seen ∷ fs) (xs ++ bs)) h ∙ trace_unwound floats laws (pairs 0 seen ∷ fs) bs ∙ ap (λ k. led (map_end, length bs, k) (trace_ahead floats fs bs)) plain;
    }
    over_pairs (pair key v ps) ms seen fs first bs h e fresh plain =
        let k = key_text_is key h.2 in
        let s = k.bytes in
        let n = pair_count ps in
        let put_is = put_new_is s (tree_of_item v) (members_of_pairs ps) ms (subst (λ (x : Item 64). members_of_pairs (pair x v ps) ≡ Some ms) k.is e) in
        let fresh_of : AreFresh seen (put s put_is.0 put_is.1) = subst (AreFresh seen) put_is.5 fresh in
        let more = h.1 ++ bs in
        let behind = h.0 ++ more in
        let whole = (head Text (length s) ++ s) ++ behind in
        let here = over_item v put_is.0 (length behind) (pairs n (and_key s seen) ∷ fs) h.0 more h.3 put_is.2 refl in
        let rest = over_pairs ps put_is.1 (and_key s seen) fs h.1 bs h.4 put_is.3 (fresh_after s put_is.0 seen put_is.1 put_is.4 fresh_of) plain in
        let event : Event = (atom (text s), length behind, true) in
        let same : first ++ bs ≡ whole =
        ap (λ xs. xs ++ bs) h.5 ∙ ap (λ (x : Item 64). (encoding x ++ (h.0 ++ h.1)) ++ bs) k.is ∙ append_assoc (head Text (length s) ++ s) (h.0 ++ h.1) bs
        ∙ ap (λ xs. (head Text (length s) ++ s) ++ xs) (append_assoc h.0 h.1 bs) in
        record {
          events = event ∷ (here.events ++ rest.events);
          of = (
            event ∷ (here.events ++ rest.of.0),
            (s, length behind, here.events, rest.of.0, k.is, here.of, rest.of.1, refl),
            ap (λ es. event ∷ es) (ap (λ es. here.events ++ es) rest.of.2 ∙ sym (append_assoc here.events rest.of.0 ((map_end, length bs, false) ∷ []))),
          );
          is = ap (trace_ahead floats (pairs (suc n) seen ∷ fs)) same
              ∙ trace_unwound floats laws (pairs (suc n) seen ∷ fs) whole
              ∙ ap (λ o. traced (length whole) (trace_ahead floats) (after_key n seen fs (key_error whole) o)) (key_at-text s behind k.utf8 k.fits)
              ∙ new_key (length whole) n s seen fs (key_error whole) behind (unseen s put_is.0 seen put_is.1 fresh_of)
              ∙ ap (led event) (trace_unwound floats laws (value n (and_key s seen) ∷ fs) behind ∙ here.is ∙ ap (before here.events) rest.is ∙ before-append here.events rest.events (trace_ahead floats fs bs));
        }

  -- all of a block
  pub over_block_in : (i : Item 64) (t : Tree) (bs : List ℕ) → EncodesIn floats i bs → tree_of_item i ≡ Some t → Over (EventsOf i) (trace_of floats bs) (halted None 0)
  over_block_in i t bs h e =
      let o = over_item i t (length (bs ++ [])) [] bs [] h e refl in
      record {
        events = o.events;
        of = o.of;
        is = ap (λ xs. trace_ahead floats (one ∷ []) xs) (sym (append-nil bs)) ∙ trace_unwound floats laws (one ∷ []) (bs ++ []) ∙ o.is
            ∙ ap (before o.events) (trace_unwound floats laws [] []);
      }

-- without floats
module _ (laws : CidLaws) where
  pub over_block : (i : Item 64) (t : Tree) (bs : List ℕ) → EncodesItem i bs → tree_of_item i ≡ Some t
      → (of_block bs).tokens ≡ tokens_of i × (of_block bs).error ≡ None
  over_block i t bs h e =
      let o = over_block_in laws false i t bs (subst (EncodesIn false i) (sym h.1) (plain_item false i h.0)) e in
      let run = sym (erased_block bs) ∙ ap ran_of o.is in
      (ap (λ (r : Ran). r.tokens) run ∙ ap tokens_in (append-nil o.events) ∙ events_tokens i o.events o.of, ap (λ (r : Ran). r.error) run)
