-- Lines written one after the other, and what is left after some of them.
use Rattle.std.proofs.Common.{◌≡◌, inl, inr, ℕ, zero, suc, ◌==◌, ◌<◌, Bool, true, false, not, eqb, List, [], ◌∷◌, ◌++◌, length, reverse, Option, Some, None, option_map, Bor, codes, refl, sym, ap, subst, ◌∙◌, append_assoc, append-nil, arith}
use Rattle.std.specs.Prelude.{if◌then◌else◌}
use Rattle.std.proofs.lemmas.Bool.{cases_Bool, eqb-true}
use Rattle.std.proofs.lemmas.List.{reverse-append, length-reverse}
use Rattle.std.specs.Io.KnownBytes.{Appends}
use Rattle.std.proofs.KnownBytes.{Appends-trans, Appends-nil}
use Rattle.ipld_cid.proofs.Encodings.{one_meaning}
use Rattle.ipld_block.specs.Texts.{usual_text}
use Rattle.dag_cbor_format.specs.ItemHeads.{BeginsWithKey}
use Rattle.dag_cbor_format.specs.declared.item.ItemHead.{ItemHead}
use Rattle.dag_cbor_format.specs.declared.item.ItemHead.TheVariants as begin
use Rattle.ipld_show.specs.DataItem.{DataItem, null, boolean, integer, float, text_string, byte_string, link, list, map, DataItems, no_items, item, DataEntries, no_entries, entry, item_count, entry_count, string_encoding, encoding, items_encoding, entries_encoding, IsDataItem, AreDataItems, AreDataEntries, BeginsWithItem}
use Rattle.ipld_show.specs.Heads.{IsHeadOf}
use Rattle.ipld_show.specs.TreeText.{Line, begins, ends, inner_lines, items_lines, entries_lines, lines_of, spaces, indent, key_text, end_text, IsFirstText, IsLineText, AreTextOf}
use Rattle.ipld_show.specs.TreeLevels.{HasCid, IsHeadText, level, opens, with_level, Holds, Open, OpenNext, Ended, Leaves, ComesTo}
use Rattle.ipld_show.specs.declared.tree_text.Level.{Level}
use Rattle.ipld_show.proofs.Items.{key_is}

-- ---- texts

pub text_append : (ls ms : List Line) (t u : List ℕ) → AreTextOf ls t → AreTextOf ms u → AreTextOf (ls ++ ms) (t ++ u)
text_append [] ms t u h g = subst (λ xs. AreTextOf ms (xs ++ u)) (sym h) g
text_append (l ∷ ls) ms t u h g =
    (h.0, h.1 ++ u, h.2, text_append ls ms h.1 u h.3 g, ap (λ xs. xs ++ u) h.4 ∙ append_assoc h.0 h.1 u)

text_one : (l : Line) (t : List ℕ) → IsLineText l t → AreTextOf (l ∷ []) t
text_one l t h = (t, [], h, refl, sym (append-nil t))

pub ended_none : (lines : List Line) (old : Option (List ℕ)) → Ended lines lines old old
ended_none lines old = record { ended = []; text = []; is_text = refl; written = Appends-nil old; all = refl }

-- one more line of those left was written
pub ended_more : (lines todo more : List Line) (l : Line) (t : List ℕ) (old mid new : Option (List ℕ)) → Ended lines todo old mid → todo ≡ l ∷ more → IsLineText l t → Appends mid new t → Ended lines more old new
ended_more lines todo more l t old mid new e same is w = record {
  ended = e.ended ++ l ∷ [];
  text = e.text ++ t;
  is_text = text_append e.ended (l ∷ []) e.text t e.is_text (text_one l t is);
  written = Appends-trans old mid new e.text t e.written w;
  all = e.all ∙ ap (λ ls. e.ended ++ ls) same ∙ sym (append_assoc e.ended (l ∷ []) more);
}

-- so were those that another call wrote
pub ended_both : (lines todo more : List Line) (old mid new : Option (List ℕ)) → Ended lines todo old mid → Ended todo more mid new → Ended lines more old new
ended_both lines todo more old mid new e f = record {
  ended = e.ended ++ f.ended;
  text = e.text ++ f.text;
  is_text = text_append e.ended f.ended e.text f.text e.is_text f.is_text;
  written = Appends-trans old mid new e.text f.text e.written f.written;
  all = e.all ∙ ap (λ ls. e.ended ++ ls) f.all ∙ sym (append_assoc e.ended f.ended more);
}

pub ended_all : (lines : List Line) (old new : Option (List ℕ)) → Ended lines [] old new → (t : List ℕ) × AreTextOf lines t × Appends old new t
ended_all lines old new e = (e.text, subst (λ ls. AreTextOf ls e.text) (sym (e.all ∙ append-nil e.ended)) e.is_text, e.written)

-- ---- the first line

pub has_cid : (h : ItemHead) (d : DataItem) (rest behind : List ℕ) → IsHeadOf h d rest behind → IsDataItem d → HasCid h
has_cid begin.Null d rest behind i g = tt
has_cid (begin.Bool b) d rest behind i g = tt
has_cid (begin.Integer n) d rest behind i g = tt
has_cid (begin.Float bits) d rest behind i g = tt
has_cid (begin.Str s) d rest behind i g = tt
has_cid (begin.Bytes b) d rest behind i g = tt
has_cid (begin.Link b) d rest behind i g = let h : IsDataItem (link b.now i.0) = subst IsDataItem i.1 g in (i.0, h.1)
has_cid (begin.List n) d rest behind i g = tt
has_cid (begin.Map n) d rest behind i g = tt

abbrev FirstOf : DataItem → List ℕ → Type 0
FirstOf d t = IsFirstText d t

first_boolean : (b : Bool) (t : List ℕ) → IsHeadText (begin.Bool b) t → IsFirstText (boolean b) t
first_boolean false t x = x
first_boolean true t x = x

not_zero : (k : ℕ) → (suc k == 0) ≡ false
not_zero k = elim (cases_Bool (eqb (suc k) 0)) [
  | inl t ↦ absurd (let e : suc k ≡ 0 = eqb-true (suc k) 0 t in omega arith)
  | inr f ↦ f
]

pub is_list : (b : Bool) → not b ≡ true → b ≡ false
is_list true e = absurd cc
is_list false e = refl

pub is_map : (b : Bool) → not b ≡ false → b ≡ true
is_map true e = refl
is_map false e = absurd cc

first_list : (n : ℕ) (ds : DataItems) (t : List ℕ) → n ≡ item_count ds → IsHeadText (begin.List n) t → IsFirstText (list ds) t
first_list n no_items t e x = subst (λ (k : ℕ). IsHeadText (begin.List k) t) e x
first_list n (item d ds) t e x =
    let read : IsHeadText (begin.List (suc (item_count ds))) t = subst (λ (k : ℕ). IsHeadText (begin.List k) t) e x in
    read ∙ ap (λ (b : Bool). if b then codes "[]" else codes "[") (not_zero (item_count ds))

first_map : (n : ℕ) (es : DataEntries) (t : List ℕ) → n ≡ entry_count es → IsHeadText (begin.Map n) t → IsFirstText (map es) t
first_map n no_entries t e x = subst (λ (k : ℕ). IsHeadText (begin.Map k) t) e x
first_map n (entry k d es) t e x =
    let read : IsHeadText (begin.Map (suc (entry_count es))) t = subst (λ (j : ℕ). IsHeadText (begin.Map j) t) e x in
    read ∙ ap (λ (b : Bool). if b then codes "{}" else codes "{") (not_zero (entry_count es))

pub first_text : (h : ItemHead) (d : DataItem) (rest behind t : List ℕ) → IsHeadOf h d rest behind → IsDataItem d → IsHeadText h t → IsFirstText d t
first_text begin.Null d rest behind t i g x = subst (λ e. IsFirstText e t) (sym i.0) x
first_text (begin.Bool b) d rest behind t i g x = subst (λ e. IsFirstText e t) (sym i.0) (first_boolean b t x)
first_text (begin.Integer n) d rest behind t i g x = subst (λ e. IsFirstText e t) (sym i.0) x
first_text (begin.Float bits) d rest behind t i g x = subst (λ e. IsFirstText e t) (sym i.1) (subst (λ (b : ℕ). IsHeadText (begin.Float b) t) i.2 x)
first_text (begin.Str s) d rest behind t i g x = subst (λ e. IsFirstText e t) (sym i.0) x
first_text (begin.Bytes b) d rest behind t i g x = subst (λ e. IsFirstText e t) (sym i.0) x
first_text (begin.Link b) d rest behind t i g x =
    let h : IsDataItem (link b.now i.0) = subst IsDataItem i.1 g in
    subst (λ e. IsFirstText e t) (sym i.1) (x.2 ∙ ap usual_text (one_meaning 64 b.now x.0 i.0 x.1 h.1))
first_text (begin.List n) d rest behind t i g x = subst (λ e. IsFirstText e t) (sym i.1) (first_list n i.0 t i.2 x)
first_text (begin.Map n) d rest behind t i g x = subst (λ e. IsFirstText e t) (sym i.1) (first_map n i.0 t i.2 x)

-- ---- what opens

open_same : (ls : List Level) (after more : List ℕ) (left inner lines : List Line) → after ≡ more → inner ≡ [] → lines ≡ inner ++ left → Open ls more left → Open ls after lines
open_same ls after more left inner lines a none e o =
    let same : left ≡ lines = sym (e ∙ ap (λ xs. xs ++ left) none) in
    subst (λ xs. Open ls xs lines) (sym a) (subst (Open ls more) same o)

open_list : (ds : DataItems) (n : ℕ) (ls : List Level) (after more : List ℕ) (left lines : List Line) → AreDataItems ds → n ≡ item_count ds → after ≡ items_encoding ds ++ more
    → lines ≡ inner_lines (length ls) (list ds) ++ left → Open ls more left → Open (with_level (opens (begin.List n)) ls) after lines
open_list no_items n ls after more left lines g c a e o =
    subst (λ (k : ℕ). Open (with_level (opens (begin.List k)) ls) after lines) (sym c) (open_same ls after more left [] lines a refl e o)
open_list (item d ds) n ls after more left lines g c a e o =
    subst (λ (k : ℕ). Open (with_level (opens (begin.List k)) ls) after lines) (sym c)
    (subst (λ (x : Option Level). Open (with_level x ls) after lines) (sym (ap (λ (b : Bool). if b then None else Some (level false (suc (item_count ds)))) (not_zero (item_count ds))))
    (inner_lines (length ls) (list (item d ds)), left, more, (item d ds, g, refl, a, refl), o, e))

open_map : (es : DataEntries) (n : ℕ) (ls : List Level) (after more : List ℕ) (left lines : List Line) → AreDataEntries es → n ≡ entry_count es → after ≡ entries_encoding es ++ more
    → lines ≡ inner_lines (length ls) (map es) ++ left → Open ls more left → Open (with_level (opens (begin.Map n)) ls) after lines
open_map no_entries n ls after more left lines g c a e o =
    subst (λ (k : ℕ). Open (with_level (opens (begin.Map k)) ls) after lines) (sym c) (open_same ls after more left [] lines a refl e o)
open_map (entry j d es) n ls after more left lines g c a e o =
    subst (λ (k : ℕ). Open (with_level (opens (begin.Map k)) ls) after lines) (sym c)
    (subst (λ (x : Option Level). Open (with_level x ls) after lines) (sym (ap (λ (b : Bool). if b then None else Some (level true (suc (entry_count es)))) (not_zero (entry_count es))))
    (inner_lines (length ls) (map (entry j d es)), left, more, (entry j d es, g, refl, a, refl), o, e))

module _ (ls : List Level) (after more : List ℕ) (left lines : List Line) (d : DataItem) (g : IsDataItem d) (e : lines ≡ inner_lines (length ls) d ++ left) (o : Open ls more left) where
  flat_opens : (x : DataItem) → d ≡ x → inner_lines (length ls) x ≡ [] → after ≡ more → Open ls after lines
  flat_opens x s none a = open_same ls after more left (inner_lines (length ls) d) lines a (ap (inner_lines (length ls)) s ∙ none) e o

  -- behind the first line of an item
  pub open_item : (h : ItemHead) → IsHeadOf h d after more → Open (with_level (opens h) ls) after lines
  open_item begin.Null i = flat_opens null i.0 refl i.1
  open_item (begin.Bool b) i = flat_opens (boolean b) i.0 refl i.1
  open_item (begin.Integer n) i = flat_opens (integer n) i.0 refl i.1
  open_item (begin.Float bits) i = flat_opens (float i.0) i.1 refl i.3
  open_item (begin.Str s) i = flat_opens (text_string s.now) i.0 refl i.1
  open_item (begin.Bytes b) i = flat_opens (byte_string b.now) i.0 refl i.1
  open_item (begin.Link b) i = flat_opens (link b.now i.0) i.1 refl i.2
  open_item (begin.List n) i =
      let h : IsDataItem (list i.0) = subst IsDataItem i.1 g in
      open_list i.0 n ls after more left lines h.1 i.2 i.3 (e ∙ ap (λ x. inner_lines (length ls) x ++ left) i.1) o
  open_item (begin.Map n) i =
      let h : IsDataItem (map i.0) = subst IsDataItem i.1 g in
      open_map i.0 n ls after more left lines h.1 i.2 i.3 (e ∙ ap (λ x. inner_lines (length ls) x ++ left) i.1) o

-- ---- what ends

-- nothing is to come: the line of the end, and then what is outside
record Ends (is_map : Bool) (n : ℕ) (bytes mid : List ℕ) (own : List Line) : Type 0 where
  same : bytes ≡ mid
  line : own ≡ ends is_map n ∷ []

ends_now : (is_map : Bool) (n left : ℕ) (bytes mid : List ℕ) (own : List Line) → Holds is_map n left bytes own mid → left ≡ 0 → Ends is_map n bytes mid own
ends_now false n left bytes mid own (no_items, g, c, a, o) none = record { same = a; line = o }
ends_now false n left bytes mid own (item d ds, g, c, a, o) none = absurd (omega arith)
ends_now true n left bytes mid own (no_entries, g, c, a, o) none = record { same = a; line = o }
ends_now true n left bytes mid own (entry k d es, g, c, a, o) none = absurd (omega arith)

-- the innermost has ended
pub left_one : (l : Level) (ls : List Level) (bytes : List ℕ) (todo : List Line) → Open (l ∷ ls) bytes todo → l.left ≡ 0
    → (outer : List Line) × Open ls bytes outer × (todo ≡ ends l.is_map (length ls) ∷ outer)
left_one l ls bytes todo o none =
    let e = ends_now l.is_map (length ls) l.left bytes o.2 o.0 o.3 none in
    (o.1, subst (λ xs. Open ls xs o.1) (sym e.same) o.4, o.5 ∙ ap (λ xs. xs ++ o.1) e.line)

-- it goes on
pub goes_on : (l : Level) (ls : List Level) (bytes : List ℕ) (todo : List Line) (k : Level) → Open (l ∷ ls) bytes todo → 0 < l.left → k.is_map ≡ l.is_map → suc k.left ≡ l.left → OpenNext k ls bytes todo
goes_on l ls bytes todo k o some same less =
    (o.0, o.1, o.2, subst (λ b. Holds b (length ls) (suc k.left) bytes o.0 o.2) (sym same) (subst (λ (n : ℕ). Holds l.is_map (length ls) n bytes o.0 o.2) (sym less) o.3), o.4, o.5)

pub reverse_pop : {X : Type 0} (xs ys : List X) (l : X) → xs ≡ ys ++ l ∷ [] → reverse xs ≡ l ∷ reverse ys
reverse_pop xs ys l e = ap reverse e ∙ reverse-append ys (l ∷ [])

module _ (xs ys : List Level) (l : Level) (bytes : List ℕ) (lines todo : List Line) (popped : xs ≡ ys ++ l ∷ []) (o : Open (reverse xs) bytes todo) where
  -- the line of an end was written
  pub passes_end : (n : ℕ) (old mid new : Option (List ℕ)) → n ≡ length ys → l.left ≡ 0 → Ended lines todo old mid → Appends mid new (indent n ++ end_text l.is_map)
      → (more : List Line) × Open (reverse ys) bytes more × Ended lines more old new
  passes_end n old mid new count none e w =
      let p = left_one l (reverse ys) bytes todo (subst (λ ls. Open ls bytes todo) (reverse_pop xs ys l popped) o) none in
      let size : n ≡ length (reverse ys) = count ∙ sym (length-reverse ys) in
      (p.0, p.1, ended_more lines todo p.0 (ends l.is_map (length (reverse ys))) (indent n ++ end_text l.is_map) old mid new e p.2 (ap (λ k. indent k ++ end_text l.is_map) size) w)

  -- an item is to come in the innermost
  pub goes_into : (zs : List Level) (k : Level) (old new : Option (List ℕ)) → zs ≡ ys ++ k ∷ [] → 0 < l.left → k.is_map ≡ l.is_map → suc k.left ≡ l.left → Ended lines todo old new
      → Leaves bytes lines zs (Some k) old new
  goes_into zs k old new pushed some same less e =
      (reverse ys, todo, reverse_pop zs ys k pushed, goes_on l (reverse ys) bytes todo k (subst (λ ls. Open ls bytes todo) (reverse_pop xs ys l popped) o) some same less, e)

-- ---- what comes next

next_item : (n left : ℕ) (bytes mid : List ℕ) (own : List Line) → Holds false n (suc left) bytes own mid
    → (d : DataItem) × (more : List ℕ) × (others : List Line) × BeginsWithItem d bytes more × Holds false n left more others mid × (own ≡ lines_of (suc n) None d ++ others)
next_item n left bytes mid own (no_items, g, c, a, o) = absurd (omega arith)
next_item n left bytes mid own (item d ds, g, c, a, o) = (
  d,
  items_encoding ds ++ mid,
  items_lines (suc n) ds ++ ends false n ∷ [],
  record { is_item = g.0; encoded = a ∙ append_assoc (encoding d) (items_encoding ds) mid },
  (ds, g.1, omega arith, refl, refl),
  o ∙ append_assoc (lines_of (suc n) None d) (items_lines (suc n) ds) (ends false n ∷ []),
)

pub item_next : (l : Level) (n : ℕ) (own : List Line) (bytes : Bor (List ℕ)) (mid : List ℕ) → l.is_map ≡ false → Holds l.is_map n (suc l.left) bytes.now own mid → ComesTo n l own mid (None, bytes)
item_next l n own bytes mid e h =
    let i = next_item n l.left bytes.now mid own (subst (λ b. Holds b n (suc l.left) bytes.now own mid) e h) in
    (i.0, i.1, i.2, i.3, subst (λ b. Holds b n l.left i.1 i.2 mid) (sym e) i.4, i.5)

pub record NextEntry (n left : ℕ) (bytes mid : List ℕ) (own : List Line) : Type 0 where
  pub key : List ℕ
  pub value : DataItem
  pub others : DataEntries
  pub is_key : Rattle.ipld_show.specs.DataItem.IsString key
  pub is_value : IsDataItem value
  pub are_others : AreDataEntries others
  pub count : left ≡ entry_count others
  pub encoded : bytes ≡ string_encoding key ++ (encoding value ++ (entries_encoding others ++ mid))
  pub lines : own ≡ lines_of (suc n) (Some key) value ++ (entries_lines (suc n) others ++ ends true n ∷ [])

next_entry : (n left : ℕ) (bytes mid : List ℕ) (own : List Line) → Holds true n (suc left) bytes own mid → NextEntry n left bytes mid own
next_entry n left bytes mid own (no_entries, g, c, a, o) = absurd (omega arith)
next_entry n left bytes mid own (entry k d es, g, c, a, o) = record {
  key = k;
  value = d;
  others = es;
  is_key = g.0;
  is_value = g.1;
  are_others = g.2;
  count = omega arith;
  encoded = a ∙ append_assoc (string_encoding k) (encoding d ++ entries_encoding es) mid ∙ ap (λ xs. string_encoding k ++ xs) (append_assoc (encoding d) (entries_encoding es) mid);
  lines = o ∙ append_assoc (lines_of (suc n) (Some k) d) (entries_lines (suc n) es) (ends true n ∷ []);
}

module _ (l : Level) (n : ℕ) (own : List Line) (bytes mid : List ℕ) (e : l.is_map ≡ true) (h : Holds l.is_map n (suc l.left) bytes own mid) where
  pub entry_next : NextEntry n l.left bytes mid own
  entry_next = next_entry n l.left bytes mid own (subst (λ b. Holds b n (suc l.left) bytes own mid) e h)

  pub value_next : (key value : Bor (List ℕ)) → BeginsWithKey key.now bytes value.now → ComesTo n l own mid (Some key, value)
  unfolding entry_next
  value_next key value r =
      let t = entry_next in
      let p = key_is t.key bytes (encoding t.value ++ (entries_encoding t.others ++ mid)) t.is_key t.encoded key.now value.now r in
      let lines = entries_lines (suc n) t.others ++ ends true n ∷ [] in (
        t.value,
        entries_encoding t.others ++ mid,
        lines,
        record { is_item = t.is_value; encoded = p.1 },
        subst (λ b. Holds b n l.left (entries_encoding t.others ++ mid) lines mid) (sym e) (t.others, t.are_others, t.count, refl, refl),
        t.lines ∙ ap (λ k. lines_of (suc n) (Some k) t.value ++ lines) (sym p.0),
      )

-- ---- the loop

-- an item comes next, behind its key if it has one, and then the rest of what is open; the lines before it were written
pub record Going (d : DataItem) (rest : List ℕ) (key : Option (List ℕ)) (ls : List Level) (old new : Option (List ℕ)) : Type 0 where
  pub next : DataItem
  pub more : List ℕ
  pub begins : BeginsWithItem next rest more
  pub left : List Line
  pub is_open : Open ls more left
  pub ended : Ended (lines_of 0 None d) (lines_of (length ls) key next ++ left) old new

module _ (d : DataItem) (rest : List ℕ) (key : Option (List ℕ)) (ls : List Level) (old new : Option (List ℕ)) (g : Going d rest key ls old new) where
  -- its first line was written
  pub line_written : (n : ℕ) (h : ItemHead) (after t : List ℕ) (newer : Option (List ℕ)) → n ≡ length ls → IsHeadOf h g.next after g.more → IsHeadText h t
      → Appends new newer (indent n ++ (key_text key ++ (t ++ codes "\n"))) → Ended (lines_of 0 None d) (inner_lines (length ls) g.next ++ g.left) old newer
  line_written n h after t newer size i x w =
      ended_more (lines_of 0 None d) (lines_of (length ls) key g.next ++ g.left) (inner_lines (length ls) g.next ++ g.left) (begins (length ls) key g.next)
      (indent (length ls) ++ (key_text key ++ (t ++ codes "\n"))) old new newer g.ended refl (t, first_text h g.next after g.more t i g.begins.is_item x, refl)
      (subst (λ (k : ℕ). Appends new newer (indent k ++ (key_text key ++ (t ++ codes "\n")))) size w)

  pub opened_item : (h : ItemHead) (after : List ℕ) → IsHeadOf h g.next after g.more → Open (with_level (opens h) ls) after (inner_lines (length ls) g.next ++ g.left)
  opened_item h after i = open_item ls after g.more g.left (inner_lines (length ls) g.next ++ g.left) g.next g.begins.is_item refl g.is_open h i

-- the next item in what is open
pub going_next : (d : DataItem) (lines todo : List Line) (l : Level) (outer : List Level) (after : List ℕ) (place : Option (Bor (List ℕ)) × Bor (List ℕ)) (old mid new : Option (List ℕ))
    → Ended (lines_of 0 None d) lines old mid → Ended lines todo mid new → (n : OpenNext l outer after todo) → ComesTo (length outer) l n.0 n.2 place
    → Going d place.1.now (option_map (λ k. k.now) place.0) (l ∷ outer) old new
going_next d lines todo l outer after place old mid new e f n c =
    let key = option_map (λ k. k.now) place.0 in
    let first = lines_of (suc (length outer)) key c.0 in
    let same : todo ≡ first ++ (c.2 ++ n.1) = n.5 ∙ ap (λ xs. xs ++ n.1) c.5 ∙ append_assoc first c.2 n.1 in
    record {
      next = c.0;
      more = c.1;
      begins = c.3;
      left = c.2 ++ n.1;
      is_open = (c.2, n.1, n.2, c.4, n.4, refl);
      ended = subst (λ xs. Ended (lines_of 0 None d) xs old new) same (ended_both (lines_of 0 None d) lines todo old mid new e f);
    }

pub spaces_more : (n : ℕ) → spaces n ++ 32 ∷ 32 ∷ [] ≡ spaces (suc n)
spaces_more zero = refl
spaces_more (suc n) = ap (λ xs. 32 ∷ 32 ∷ xs) (spaces_more n)
