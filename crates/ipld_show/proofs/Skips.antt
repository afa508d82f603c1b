-- Items that are passed, and segments.
use Rattle.std.proofs.Common.{◌≡◌, inl, inr, ℕ, zero, suc, pos, negsuc, ◌+◌, ◌*◌, ◌-◌, ◌^◌, ◌<◌, ◌≤◌, ◌==◌, nat_lt, ltb, Bool, true, false, cond, List, [], ◌∷◌, ◌++◌, length, take, drop, Option, Some, None, Result, Ok, Err, refl, sym, ap, subst, ◌∙◌, append_assoc, bytes_eq, arith}
use Rattle.std.specs.Prelude.{min}
use Rattle.std.proofs.lemmas.Bool.{cases_Bool}
use Rattle.std.proofs.lemmas.List.{length-append, length-take, length-drop, take_rest, drop_at}
use Rattle.std.specs.List.{position_or_len, before_first, after_first}
use Rattle.std.specs.Borrow.{Bor}
use Rattle.ipld_tree.specs.Index.{number_of}
use Rattle.ipld_tree.specs.Path.{parts_of, segments}
use Rattle.ipld_show.specs.declared.error.ShowError.TheVariants.{NotAContainer}
use Rattle.ipld_tree.proofs.Paths.{cut_at, not_cut}
use Rattle.dag_cbor_format.proofs.HeadLaws.{head_some}
use Rattle.dag_cbor_format.specs.declared.major.Major.TheVariants.{Unsigned, Negative, Bytes, Text, List as Array, Map, Tag, Simple}
use Rattle.dag_cbor_format.specs.Head.{head}
use Rattle.dag_cbor_format.specs.ItemHeads.{BeginsWith, BeginsWithKey}
use Rattle.dag_cbor_format.specs.declared.item.ItemHead.{ItemHead}
use Rattle.dag_cbor_format.specs.declared.item.ItemHead.TheVariants as begin
use Rattle.ipld_show.specs.declared.error.ShowError.{ShowError}
use Rattle.ipld_show.specs.DataItem.{DataItem, null, boolean, integer, float, text_string, byte_string, link, list, map, DataItems, no_items, item, DataEntries, no_entries, entry, item_count, entry_count, string_encoding, encoding, items_encoding, entries_encoding, IsString, IsDataItem, AreDataItems, AreDataEntries, BeginsWithItem}
use Rattle.ipld_show.specs.AfterPath.{after_item, after_numbered, after_value, after_segment}
use Rattle.ipld_show.specs.AtPath.{AtPath, found, no_segment, not_a_container, item_at, item_numbered, value_under, if_found, at_segment, then_at, at_segments, LeadsTo}
use Rattle.ipld_show.specs.Extents.{extents, extent_before, items_extents, entries_extents}
use Rattle.ipld_show.specs.ExtentsToCome.{encodings, all_extents, AllItems}
use Rattle.ipld_show.specs.Skipping.{items_within, parts_in, Finds, LeadsBefore, LeadsBehind}
use Rattle.ipld_show.specs.Heads.{IsHeadOf}
use Rattle.ipld_show.proofs.Items.{head_is, key_is}

-- ---- items to come

-- so many items are to come, and then this
pub record ToCome (rest behind : List ℕ) (left : ℕ) : Type 0 where
  pub items : List DataItem
  pub are_items : AllItems items
  pub count : length items ≡ left
  pub encoded : rest ≡ encodings items ++ behind

pub some_bytes : (d : DataItem) → 0 < length (encoding d)
some_bytes null = head_some Simple 22
some_bytes (boolean false) = head_some Simple 20
some_bytes (boolean true) = head_some Simple 21
some_bytes (integer (pos n)) = head_some Unsigned n
some_bytes (integer (negsuc n)) = head_some Negative n
some_bytes (float content) = omega arith
some_bytes (text_string s) = omega (arith, length-append (head Text (length s)) s, head_some Text (length s))
some_bytes (byte_string b) = omega (arith, length-append (head Bytes (length b)) b, head_some Bytes (length b))
some_bytes (link encoded cid) = omega (arith, length-append (head Tag 42) (head Bytes (suc (length encoded)) ++ 0 ∷ encoded), head_some Tag 42)
some_bytes (list ds) = omega (arith, length-append (head Array (item_count ds)) (items_encoding ds), head_some Array (item_count ds))
some_bytes (map es) = omega (arith, length-append (head Map (entry_count es)) (entries_encoding es), head_some Map (entry_count es))

pub long : (ds : List DataItem) → length ds ≤ length (encodings ds)
long [] = omega arith
long (d ∷ ds) = omega (arith, length-append (encoding d) (encodings ds), some_bytes d, long ds)

fits : (rest behind : List ℕ) (left : ℕ) → ToCome rest behind left → left ≤ length rest
fits rest behind left t = omega (arith, ap length t.encoded, length-append (encodings t.items) behind, long t.items, t.count)

pub one_to_come : (d : DataItem) (bytes behind : List ℕ) → BeginsWithItem d bytes behind → ToCome bytes behind 1
one_to_come d bytes behind b = record {
  items = d ∷ [];
  are_items = (b.is_item, tt);
  count = refl;
  encoded = b.encoded ∙ ap (λ xs. xs ++ behind) (sym (Rattle.std.proofs.Common.append-nil (encoding d)));
}

none_in : (items : List DataItem) (rest behind : List ℕ) → length items ≡ 0 → rest ≡ encodings items ++ behind → rest ≡ behind
none_in [] rest behind none e = e
none_in (d ∷ ds) rest behind none e = absurd (omega arith)

pub none_to_come : (rest behind : List ℕ) (left : ℕ) → ToCome rest behind left → left ≡ 0 → rest ≡ behind
none_to_come rest behind left t none = none_in t.items rest behind (t.count ∙ none) t.encoded

-- ---- what is in an item

encodings-append : (xs bs : List DataItem) → encodings (xs ++ bs) ≡ encodings xs ++ encodings bs
encodings-append [] bs = refl
encodings-append (a ∷ xs) bs = ap (λ xs. encoding a ++ xs) (encodings-append xs bs) ∙ sym (append_assoc (encoding a) (encodings xs) (encodings bs))

all-append : (xs bs : List DataItem) → AllItems xs → AllItems bs → AllItems (xs ++ bs)
all-append [] bs h g = g
all-append (a ∷ xs) bs h g = (h.0, all-append xs bs h.1 g)

abbrev items_in : DataItems → List DataItem
items_in no_items = []
items_in (item d ds) = d ∷ items_in ds

abbrev entries_in : DataEntries → List DataItem
entries_in no_entries = []
entries_in (entry k d es) = text_string k ∷ d ∷ entries_in es

items_encoded : (ds : DataItems) → items_encoding ds ≡ encodings (items_in ds)
items_encoded no_items = refl
items_encoded (item d ds) = ap (λ xs. encoding d ++ xs) (items_encoded ds)

entries_encoded : (es : DataEntries) → entries_encoding es ≡ encodings (entries_in es)
entries_encoded no_entries = refl
entries_encoded (entry k d es) = ap (λ xs. string_encoding k ++ (encoding d ++ xs)) (entries_encoded es)

items_counted : (ds : DataItems) → length (items_in ds) ≡ item_count ds
items_counted no_items = refl
items_counted (item d ds) = ap suc (items_counted ds)

entries_counted : (es : DataEntries) → length (entries_in es) ≡ entry_count es * 2
entries_counted no_entries = refl
entries_counted (entry k d es) = omega (arith, entries_counted es)

all_in_items : (ds : DataItems) → AreDataItems ds → AllItems (items_in ds)
all_in_items no_items h = tt
all_in_items (item d ds) h = (h.0, all_in_items ds h.1)

all_in_entries : (es : DataEntries) → AreDataEntries es → AllItems (entries_in es)
all_in_entries no_entries h = tt
all_in_entries (entry k d es) h = (h.0, (h.1, all_in_entries es h.2))

items_listed : (ds : DataItems) → items_extents ds ≡ all_extents (items_in ds)
items_listed no_items = refl
items_listed (item d ds) = ap (λ xs. extents d ++ xs) (items_listed ds)

entries_listed : (es : DataEntries) → entries_extents es ≡ all_extents (entries_in es)
entries_listed no_entries = refl
entries_listed (entry k d es) = ap (λ xs. extents d ++ xs) (entries_listed es)

-- the head of a list or a map
abbrev pub Opens : ItemHead → Type 0
Opens (begin.List n) = Unit {0}
Opens (begin.Map n) = Unit {0}
Opens _ = ⊥

-- the items in one that begins with this head, and then more
pub record Inside (h : ItemHead) (d : DataItem) (after more : List ℕ) : Type 0 where
  pub items : List DataItem
  pub are_items : AllItems items
  pub encoded : after ≡ encodings items ++ more
  pub count : length items < 2 ^ 64 → items_within h ≡ length items
  pub listed : Opens h → extents d ≡ extent_before (length (encoding d)) (all_extents items)

nothing_inside : (h : ItemHead) (d : DataItem) (after more : List ℕ) → items_within h ≡ 0 → (Opens h → ⊥) → after ≡ more → Inside h d after more
nothing_inside h d after more none shut e = record { items = []; are_items = tt; encoded = e; count = λ few. none; listed = λ o. absurd (shut o) }

pub inside : (h : ItemHead) (d : DataItem) (after more : List ℕ) → IsHeadOf h d after more → IsDataItem d → Inside h d after more
inside begin.Null d after more i g = nothing_inside begin.Null d after more refl (λ o. o) i.1
inside (begin.Bool b) d after more i g = nothing_inside (begin.Bool b) d after more refl (λ o. o) i.1
inside (begin.Integer n) d after more i g = nothing_inside (begin.Integer n) d after more refl (λ o. o) i.1
inside (begin.Float bits) d after more i g = nothing_inside (begin.Float bits) d after more refl (λ o. o) i.3
inside (begin.Str s) d after more i g = nothing_inside (begin.Str s) d after more refl (λ o. o) i.1
inside (begin.Bytes b) d after more i g = nothing_inside (begin.Bytes b) d after more refl (λ o. o) i.1
inside (begin.Link b) d after more i g = nothing_inside (begin.Link b) d after more refl (λ o. o) i.2
inside (begin.List n) d after more i g =
    let ds = i.0 in
    let h : IsDataItem (list ds) = subst IsDataItem i.1 g in
    record {
      items = items_in ds;
      are_items = all_in_items ds h.1;
      encoded = i.3 ∙ ap (λ xs. xs ++ more) (items_encoded ds);
      count = λ few. i.2 ∙ sym (items_counted ds);
      listed = λ o. ap extents i.1 ∙ ap (λ xs. extent_before (length (encoding (list ds))) xs) (items_listed ds)
          ∙ ap (λ x. extent_before (length (encoding x)) (all_extents (items_in ds))) (sym i.1);
    }
inside (begin.Map n) d after more i g =
    let es = i.0 in
    let h : IsDataItem (map es) = subst IsDataItem i.1 g in
    record {
      items = entries_in es;
      are_items = all_in_entries es h.1;
      encoded = i.3 ∙ ap (λ xs. xs ++ more) (entries_encoded es);
      count = λ few. omega (arith, few, entries_counted es, i.2);
      listed = λ o. ap extents i.1 ∙ ap (λ xs. extent_before (length (encoding (map es))) xs) (entries_listed es)
          ∙ ap (λ x. extent_before (length (encoding x)) (all_extents (entries_in es))) (sym i.1);
    }

-- ---- one item is passed

module _ (h : ItemHead) (rest after behind : List ℕ) (left next : ℕ) (r : BeginsWith h rest after) (small : length after < 2 ^ 64) where
  passed_in : (items : List DataItem) → AllItems items → length items ≡ left → rest ≡ encodings items ++ behind → 0 < left → next ≡ min (left - 1 + items_within h) (2 ^ 64 - 1) → ToCome after behind next
  passed_in [] g count e some n = absurd (omega arith)
  passed_in (d ∷ ds) g count e some n =
      let more = encodings ds ++ behind in
      let b : BeginsWithItem d rest more = record { is_item = g.0; encoded = e ∙ append_assoc (encoding d) (encodings ds) behind } in
      let i = inside h d after more (head_is d rest more b h after r) g.0 in
      let all = i.items ++ ds in
      let encoded : after ≡ encodings all ++ behind =
      i.encoded ∙ sym (append_assoc (encodings i.items) (encodings ds) behind) ∙ ap (λ xs. xs ++ behind) (sym (encodings-append i.items ds)) in
      let enough = long all in
      let size = ap length encoded ∙ length-append (encodings all) behind in
      let both = length-append i.items ds in
      let within : items_within h ≡ length i.items = i.count (omega arith) in
      record { items = all; are_items = all-append i.items ds i.are_items g.1; count = omega arith; encoded = encoded }

  pub next_to_come : ToCome rest behind left → 0 < left → next ≡ min (left - 1 + items_within h) (2 ^ 64 - 1) → ToCome after behind next
  next_to_come t some n = passed_in t.items t.are_items t.count t.encoded some n

-- what follows an item of this size
pub skipped : (d : DataItem) (value behind : List ℕ) (size : ℕ) → BeginsWithItem d value behind → size ≡ length (encoding d) → take (length value - size) (drop size value) ≡ behind
skipped d value behind size b s = take_rest value size ∙ ap (drop size) b.encoded ∙ drop_at (encoding d) behind size (sym s)

-- the item that comes next
pub record NextOf (rest behind : List ℕ) : Type 0 where
  pub next : DataItem
  pub more : List ℕ
  pub begins : BeginsWithItem next rest more

next_in : (items : List DataItem) (rest behind : List ℕ) → AllItems items → 0 < length items → rest ≡ encodings items ++ behind → NextOf rest behind
next_in [] rest behind g some e = absurd (omega arith)
next_in (d ∷ ds) rest behind g some e =
    record { next = d; more = encodings ds ++ behind; begins = record { is_item = g.0; encoded = e ∙ append_assoc (encoding d) (encodings ds) behind } }

pub next_of : (rest behind : List ℕ) (left : ℕ) → ToCome rest behind left → 0 < left → NextOf rest behind
next_of rest behind left t some = next_in t.items rest behind t.are_items (omega (arith, t.count)) t.encoded

-- ---- entries and items of a list, passed one after another

-- so many entries are to come, and this is what stands under the key, and what follows that
pub record EntriesToCome (key rest behind : List ℕ) (left : ℕ) (sought : Option DataItem) (after : List ℕ) : Type 0 where
  pub entries : DataEntries
  pub are_entries : AreDataEntries entries
  pub count : left ≡ entry_count entries
  pub encoded : rest ≡ entries_encoding entries ++ behind
  pub same : sought ≡ value_under key entries
  pub follows : after ≡ after_value key entries ++ behind

-- the next of them
pub record EntryToCome (key rest behind : List ℕ) (left : ℕ) (sought : Option DataItem) (after : List ℕ) : Type 0 where
  pub name : List ℕ
  pub value : DataItem
  pub others : DataEntries
  pub is_name : IsString name
  pub is_value : IsDataItem value
  pub are_others : AreDataEntries others
  pub count : left ≡ suc (entry_count others)
  pub encoded : rest ≡ string_encoding name ++ (encoding value ++ (entries_encoding others ++ behind))
  pub same : sought ≡ value_under key (entry name value others)
  pub follows : after ≡ after_value key (entry name value others) ++ behind

module _ (key rest behind : List ℕ) (left : ℕ) (sought : Option DataItem) (after : List ℕ) where
  entry_in : (es : DataEntries) → AreDataEntries es → left ≡ entry_count es → rest ≡ entries_encoding es ++ behind → sought ≡ value_under key es → after ≡ after_value key es ++ behind → 0 < left
      → EntryToCome key rest behind left sought after
  entry_in no_entries g count e same follows some = absurd (omega arith)
  entry_in (entry k d es) g count e same follows some = record {
    name = k;
    value = d;
    others = es;
    is_name = g.0;
    is_value = g.1;
    are_others = g.2;
    count = count;
    encoded = e ∙ append_assoc (string_encoding k) (encoding d ++ entries_encoding es) behind ∙ ap (λ xs. string_encoding k ++ xs) (append_assoc (encoding d) (entries_encoding es) behind);
    same = same;
    follows = follows;
  }

  pub entry_to_come : EntriesToCome key rest behind left sought after → 0 < left → EntryToCome key rest behind left sought after
  entry_to_come t some = entry_in t.entries t.are_entries t.count t.encoded t.same t.follows some

  no_entry_in : (es : DataEntries) → left ≡ entry_count es → sought ≡ value_under key es → left ≡ 0 → sought ≡ None
  no_entry_in no_entries count same none = same
  no_entry_in (entry k d es) count same none = absurd (omega arith)

  pub no_entry : EntriesToCome key rest behind left sought after → left ≡ 0 → sought ≡ None
  no_entry t none = no_entry_in t.entries t.count t.same none

  module _ (t : EntryToCome key rest behind left sought after) (k value : List ℕ) (r : BeginsWithKey k rest value) where
    found_name : (k ≡ t.name) × (value ≡ encoding t.value ++ (entries_encoding t.others ++ behind))
    found_name = key_is t.name rest (encoding t.value ++ (entries_encoding t.others ++ behind)) t.is_name t.encoded k value r

    pub value_begins : BeginsWithItem t.value value (entries_encoding t.others ++ behind)
    value_begins = record { is_item = t.is_value; encoded = found_name.1 }

    pub is_there : (b : Bool) → b ≡ bytes_eq key k → b ≡ true → sought ≡ Some t.value
    is_there b test e =
        t.same ∙ ap (λ c. cond c (Some t.value) (value_under key t.others)) (ap (bytes_eq key) (sym found_name.0) ∙ sym test ∙ e)

    pub is_followed : (b : Bool) → b ≡ bytes_eq key k → b ≡ true → after ≡ entries_encoding t.others ++ behind
    is_followed b test e =
        t.follows ∙ ap (λ c. cond c (entries_encoding t.others) (after_value key t.others) ++ behind) (ap (bytes_eq key) (sym found_name.0) ∙ sym test ∙ e)

    pub is_passed : (b : Bool) (passed : List ℕ) → b ≡ bytes_eq key k → b ≡ false → passed ≡ entries_encoding t.others ++ behind → EntriesToCome key passed behind (left - 1) sought after
    is_passed b passed test e f = record {
      entries = t.others;
      are_entries = t.are_others;
      count = omega (arith, t.count);
      encoded = f;
      same = t.same ∙ ap (λ c. cond c (Some t.value) (value_under key t.others)) (ap (bytes_eq key) (sym found_name.0) ∙ sym test ∙ e);
      follows = t.follows ∙ ap (λ c. cond c (entries_encoding t.others) (after_value key t.others) ++ behind) (ap (bytes_eq key) (sym found_name.0) ∙ sym test ∙ e);
    }

-- the items of a list, of which the one at an index is sought
pub record ItemsToCome (rest behind : List ℕ) (left : ℕ) (sought : Option DataItem) (after : List ℕ) : Type 0 where
  pub items : DataItems
  pub are_items : AreDataItems items
  pub enough : left < item_count items
  pub encoded : rest ≡ items_encoding items ++ behind
  pub same : sought ≡ item_at left items
  pub follows : after ≡ after_item left items ++ behind

-- the next of them
pub record ItemToCome (rest behind : List ℕ) (left : ℕ) (sought : Option DataItem) (after : List ℕ) : Type 0 where
  pub next : DataItem
  pub others : DataItems
  pub are_others : AreDataItems others
  pub enough : left < suc (item_count others)
  pub begins : BeginsWithItem next rest (items_encoding others ++ behind)
  pub same : sought ≡ item_at left (item next others)
  pub follows : after ≡ after_item left (item next others) ++ behind

module _ (rest behind : List ℕ) (left : ℕ) (sought : Option DataItem) (after : List ℕ) where
  item_in : (ds : DataItems) → AreDataItems ds → left < item_count ds → rest ≡ items_encoding ds ++ behind → sought ≡ item_at left ds → after ≡ after_item left ds ++ behind → ItemToCome rest behind left sought after
  item_in no_items g enough e same follows = absurd (omega arith)
  item_in (item d ds) g enough e same follows = record {
    next = d;
    others = ds;
    are_others = g.1;
    enough = enough;
    begins = record { is_item = g.0; encoded = e ∙ append_assoc (encoding d) (items_encoding ds) behind };
    same = same;
    follows = follows;
  }

  pub item_to_come : ItemsToCome rest behind left sought after → ItemToCome rest behind left sought after
  item_to_come t = item_in t.items t.are_items t.enough t.encoded t.same t.follows

item_behind : (left : ℕ) (d : DataItem) (ds : DataItems) → 0 < left → item_at left (item d ds) ≡ item_at (left - 1) ds
item_behind zero d ds some = absurd (omega arith)
item_behind (suc n) d ds some = ap (λ (k : ℕ). item_at k ds) (omega arith)

after_behind : (left : ℕ) (d : DataItem) (ds : DataItems) → 0 < left → after_item left (item d ds) ≡ after_item (left - 1) ds
after_behind zero d ds some = absurd (omega arith)
after_behind (suc n) d ds some = ap (λ (k : ℕ). after_item k ds) (omega arith)

pub item_passed : (rest behind passed : List ℕ) (left : ℕ) (sought : Option DataItem) (after : List ℕ) (t : ItemToCome rest behind left sought after) → 0 < left → passed ≡ items_encoding t.others ++ behind
    → ItemsToCome passed behind (left - 1) sought after
item_passed rest behind passed left sought after t some e = record {
  items = t.others;
  are_items = t.are_others;
  enough = omega (arith, t.enough);
  encoded = e;
  same = t.same ∙ item_behind left t.next t.others some;
  follows = t.follows ∙ ap (λ (xs : List ℕ). xs ++ behind) (after_behind left t.next t.others some);
}

pub item_here : (rest behind : List ℕ) (left : ℕ) (sought : Option DataItem) (after : List ℕ) → ItemsToCome rest behind left sought after → left ≡ 0
    → (d : DataItem) × (sought ≡ Some d) × BeginsWithItem d rest after
item_here rest behind left sought after t none =
    let i = item_to_come rest behind left sought after t in
    let follows : after ≡ items_encoding i.others ++ behind = i.follows ∙ ap (λ (k : ℕ). after_item k (item i.next i.others) ++ behind) none in
    (i.next, i.same ∙ ap (λ (k : ℕ). item_at k (item i.next i.others)) none, subst (λ (xs : List ℕ). BeginsWithItem i.next rest xs) (sym follows) i.begins)

past : (n : ℕ) (ds : DataItems) → item_count ds ≤ n → item_at n ds ≡ None
past n no_items h = refl
past zero (item d ds) h = absurd (omega arith)
past (suc n) (item d ds) h = past n ds (omega arith)

pub past_items : (o : Option ℕ) (n : ℕ) (ds : DataItems) → o ≡ Some n → item_count ds ≤ n → item_numbered o ds ≡ None
past_items o n ds e h = ap (λ p. item_numbered p ds) e ∙ past n ds h

-- ---- what is found

pub finds_value : (o : Option DataItem) (d : DataItem) (value : Bor (List ℕ)) (after more : List ℕ) → o ≡ Some d → after ≡ more → BeginsWithItem d value.now more → Finds o after (Ok (Some value))
finds_value o d value after more e f b = subst (λ p. Finds p after (Ok (Some value))) (sym e) (subst (λ (xs : List ℕ). BeginsWithItem d value.now xs) (sym f) b)

pub finds_none : (o : Option DataItem) (after : List ℕ) → o ≡ None → Finds o after (Ok None)
finds_none o after e = subst (λ p. Finds p after (Ok None)) (sym e) tt

module _ (d : DataItem) (value rest behind segment : List ℕ) (number : ℕ) (b : BeginsWithItem d value behind) where
  -- a segment is looked up in a map
  pub in_map : (n : ℕ) (outcome : Result (Option (Bor (List ℕ))) ShowError) (r : Result (Bor (List ℕ)) ShowError) → BeginsWith (begin.Map n) value rest
      → ((es : DataEntries) (more : List ℕ) → AreDataEntries es → n ≡ entry_count es → rest ≡ entries_encoding es ++ more → Finds (value_under segment es) (after_value segment es ++ more) outcome)
      → ((o : Option DataItem) (after : List ℕ) → Finds o after outcome → LeadsBefore (if_found number o) after r) → LeadsBefore (at_segment number segment d) (after_segment segment d ++ behind) r
  in_map n outcome r read finds leads =
      let i = head_is d value behind b (begin.Map n) rest read in
      let h : IsDataItem (map i.0) = subst IsDataItem i.1 b.is_item in
      subst (λ x. LeadsBefore (at_segment number segment x) (after_segment segment x ++ behind) r) (sym i.1) (leads (value_under segment i.0) (after_value segment i.0 ++ behind) (finds i.0 behind h.1 i.2 i.3))

  -- in a list
  pub in_list : (n : ℕ) (outcome : Result (Option (Bor (List ℕ))) ShowError) (r : Result (Bor (List ℕ)) ShowError) → BeginsWith (begin.List n) value rest
      → ((ds : DataItems) (more : List ℕ) → AreDataItems ds → n ≡ item_count ds → rest ≡ items_encoding ds ++ more
      → Finds (item_numbered (number_of segment) ds) (after_numbered (number_of segment) ds ++ more) outcome)
      → ((o : Option DataItem) (after : List ℕ) → Finds o after outcome → LeadsBefore (if_found number o) after r) → LeadsBefore (at_segment number segment d) (after_segment segment d ++ behind) r
  in_list n outcome r read finds leads =
      let i = head_is d value behind b (begin.List n) rest read in
      let h : IsDataItem (list i.0) = subst IsDataItem i.1 b.is_item in
      subst (λ x. LeadsBefore (at_segment number segment x) (after_segment segment x ++ behind) r) (sym i.1)
      (leads (item_numbered (number_of segment) i.0) (after_numbered (number_of segment) i.0 ++ behind) (finds i.0 behind h.1 i.2 i.3))

  no_container : (x : DataItem) → d ≡ x → LeadsBefore (at_segment number segment x) (after_segment segment x ++ behind) (Err (NotAContainer number))
      → LeadsBefore (at_segment number segment d) (after_segment segment d ++ behind) (Err (NotAContainer number))
  no_container x e h = subst (λ y. LeadsBefore (at_segment number segment y) (after_segment segment y ++ behind) (Err (NotAContainer number))) (sym e) h

  -- in something else
  pub in_neither : (h : ItemHead) → BeginsWith h value rest → ((n : ℕ) → h ≡ begin.Map n → ⊥) → ((n : ℕ) → h ≡ begin.List n → ⊥) → LeadsBefore (at_segment number segment d) (after_segment segment d ++ behind) (Err (NotAContainer number))
  in_neither begin.Null read m l = no_container null (head_is d value behind b begin.Null rest read).0 refl
  in_neither (begin.Bool x) read m l = no_container (boolean x) (head_is d value behind b (begin.Bool x) rest read).0 refl
  in_neither (begin.Integer n) read m l = no_container (integer n) (head_is d value behind b (begin.Integer n) rest read).0 refl
  in_neither (begin.Float bits) read m l = let i = head_is d value behind b (begin.Float bits) rest read in no_container (float i.0) i.1 refl
  in_neither (begin.Str s) read m l = no_container (text_string s.now) (head_is d value behind b (begin.Str s) rest read).0 refl
  in_neither (begin.Bytes c) read m l = no_container (byte_string c.now) (head_is d value behind b (begin.Bytes c) rest read).0 refl
  in_neither (begin.Link c) read m l = let i = head_is d value behind b (begin.Link c) rest read in no_container (link c.now i.0) i.1 refl
  in_neither (begin.List n) read m l = absurd (l n refl)
  in_neither (begin.Map n) read m l = absurd (m n refl)

-- ---- paths

then_one : (next : DataItem → AtPath) (a : AtPath) → then_at next a ≡ then_at next (then_at (λ d. found d) a)
then_one next (found d) = refl
then_one next (no_segment number) = refl
then_one next (not_a_container number) = refl

-- one part, and then the others
behind_part : (before : ℕ) (part : List ℕ) (parts : List (List ℕ)) (d : DataItem)
    → at_segments before (parts_in (part ∷ parts)) d ≡ then_at (at_segments (before + length (parts_in (part ∷ []))) (parts_in parts)) (at_segments before (parts_in (part ∷ [])) d)
behind_part before part parts d =
    elim (cases_Bool (ltb 0 (length part))) [
      | inl some ↦
          let one : suc before ≡ before + 1 = omega arith in
          rw some (ap (λ (n : ℕ). then_at (at_segments n (parts_in parts)) (at_segment (suc before) part d)) one ∙ then_one (at_segments (before + 1) (parts_in parts)) (at_segment (suc before) part d))
      | inr none ↦ let same : before ≡ before + 0 = omega arith in rw none (ap (λ (n : ℕ). at_segments n (parts_in parts) d) same)
    ]

-- the two parts of a path
pub parts_shorter : (rest front back : List ℕ) → (front ≡ before_first (λ b. b == 47) rest) × (back ≡ after_first (λ b. b == 47) rest) × (position_or_len (λ b. b == 47) rest < length rest)
    → length front + length back ≤ length rest
parts_shorter rest front back cut =
    let n = position_or_len (λ b. b == 47) rest in
    omega (arith, ap length cut.0, ap length cut.1, length-take n rest, length-drop (n + 1) rest)

-- from an item the path leads to another, before so many of its segments and this rest
pub record ReachedFrom (d : DataItem) (path value rest : List ℕ) (before : ℕ) : Type 0 where
  pub inner : DataItem
  pub more : List ℕ
  pub begins : BeginsWithItem inner value more
  pub same : at_segments 0 (segments path) d ≡ at_segments before (segments rest) inner

pub reached_first : (d : DataItem) (path block behind : List ℕ) → BeginsWithItem d block behind → ReachedFrom d path block path 0
reached_first d path block behind b = record { inner = d; more = behind; begins = b; same = refl }

entered_ok : (a : AtPath) (passed : ℕ) (after : List ℕ) (q : Bor (List ℕ) × ℕ) → LeadsBehind a passed after (Ok q) → (d : DataItem) × (a ≡ found d) × (q.1 ≡ passed) × BeginsWithItem d q.0.now after
entered_ok (found d) passed after q h = (d, refl, h.0, h.1)
entered_ok (no_segment number) passed after q h = absurd h
entered_ok (not_a_container number) passed after q h = absurd h

entered_err : (next : DataItem → AtPath) (a : AtPath) (passed : ℕ) (after : List ℕ) (error : ShowError) → LeadsBehind a passed after (Err error) → LeadsTo (then_at next a) (Err error)
entered_err next (found d) passed after error h = absurd h
entered_err next (no_segment number) passed after error h = h
entered_err next (not_a_container number) passed after error h = h

module _ (d : DataItem) (path value rest front back : List ℕ) (before : ℕ) (r : ReachedFrom d path value rest before)
    (cut : (front ≡ before_first (λ b. b == 47) rest) × (back ≡ after_first (λ b. b == 47) rest) × (position_or_len (λ b. b == 47) rest < length rest)) where
  part_in : AtPath
  part_in = at_segments before (parts_in (front ∷ [])) r.inner

  passed_then : ℕ
  passed_then = before + length (parts_in (front ∷ []))

  leads : at_segments 0 (segments path) d ≡ then_at (at_segments passed_then (segments back)) part_in
  unfolding part_in passed_then
  leads =
      let parts : parts_of rest ≡ front ∷ parts_of back = rw (cut.0, cut.1) (cut_at rest cut.2) in
      r.same ∙ ap (λ (ps : List (List ℕ)). at_segments before (parts_in ps) r.inner) parts ∙ behind_part before front (parts_of back) r.inner

  pub reached_same : (q : Bor (List ℕ) × ℕ) (e : DataItem) → at_segments before (parts_in (front ∷ [])) r.inner ≡ found e → q.1 ≡ before + length (parts_in (front ∷ []))
      → at_segments 0 (segments path) d ≡ at_segments q.1 (segments back) e
  unfolding part_in passed_then
  reached_same q e is passed = leads ∙ ap (then_at (at_segments passed_then (segments back))) is ∙ ap (λ (n : ℕ). at_segments n (segments back) e) (sym passed)

  pub reached_part : (after : List ℕ) (q : Bor (List ℕ) × ℕ) → LeadsBehind (at_segments before (parts_in (front ∷ [])) r.inner) (before + length (parts_in (front ∷ []))) after (Ok q)
      → ReachedFrom d path q.0.now back q.1
  reached_part after q h =
      let e = entered_ok (at_segments before (parts_in (front ∷ [])) r.inner) (before + length (parts_in (front ∷ []))) after q h in
      record { inner = e.0; more = after; begins = e.3; same = reached_same q e.0 e.1 e.2 }

  pub stopped_at_part : (after : List ℕ) (error : ShowError) → LeadsBehind (at_segments before (parts_in (front ∷ [])) r.inner) (before + length (parts_in (front ∷ []))) after (Err error)
      → LeadsTo (at_segments 0 (segments path) d) (Err error)
  unfolding part_in passed_then
  stopped_at_part after error h =
      subst (λ a. LeadsTo a (Err error)) (sym leads)
      (entered_err (at_segments passed_then (segments back)) (at_segments before (parts_in (front ∷ [])) r.inner) (before + length (parts_in (front ∷ []))) after error h)

module _ (d : DataItem) (path value rest : List ℕ) (before : ℕ) (r : ReachedFrom d path value rest before) (none : position_or_len (λ b. b == 47) rest ≡ length rest) where
  last_part : at_segments 0 (segments path) d ≡ at_segments before (parts_in (rest ∷ [])) r.inner
  last_part = r.same ∙ ap (λ (ps : List (List ℕ)). at_segments before (parts_in ps) r.inner) (not_cut rest none)

  ends_ok : (a : AtPath) (passed : ℕ) (after : List ℕ) (q : Bor (List ℕ) × ℕ) → LeadsBehind a passed after (Ok q) → LeadsTo a (Ok q.0)
  ends_ok (found e) passed after q h = (after, h.1)
  ends_ok (no_segment number) passed after q h = absurd h
  ends_ok (not_a_container number) passed after q h = absurd h

  ends_err : (a : AtPath) (passed : ℕ) (after : List ℕ) (error : ShowError) → LeadsBehind a passed after (Err error) → LeadsTo a (Err error)
  ends_err (found e) passed after error h = absurd h
  ends_err (no_segment number) passed after error h = h
  ends_err (not_a_container number) passed after error h = h

  pub reached_end : (passed : ℕ) (after : List ℕ) (q : Bor (List ℕ) × ℕ) → LeadsBehind (at_segments before (parts_in (rest ∷ [])) r.inner) passed after (Ok q) → LeadsTo (at_segments 0 (segments path) d) (Ok q.0)
  reached_end passed after q h = subst (λ a. LeadsTo a (Ok q.0)) (sym last_part) (ends_ok (at_segments before (parts_in (rest ∷ [])) r.inner) passed after q h)

  pub stopped_at_end : (passed : ℕ) (after : List ℕ) (error : ShowError) → LeadsBehind (at_segments before (parts_in (rest ∷ [])) r.inner) passed after (Err error) → LeadsTo (at_segments 0 (segments path) d) (Err error)
  stopped_at_end passed after error h = subst (λ a. LeadsTo a (Err error)) (sym last_part) (ends_err (at_segments before (parts_in (rest ∷ [])) r.inner) passed after error h)
