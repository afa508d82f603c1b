-- The values in a block, reached in any order.
use Rattle.std.proofs.Common.{◌≡◌, inl, inr, ℕ, suc, ◌+◌, ◌-◌, ◌<◌, ◌≤◌, Bool, true, false, List, [], ◌∷◌, ◌++◌, length, map, take, drop, get_or, Bor, nat_cmp, is_lt, Option, Some, None, Result, Ok, Err, refl, sym, ap, ap₂, subst, ◌∙◌, append_assoc, append-nil, length-append, bytes_eq, arith}
use Rattle.std.specs.Prelude.{◌&&◌, codes, MatchResult}
use Rattle.std.specs.Cmp.Lexicographic.{slice_cmp}
use Rattle.std.specs.List.Sorted.{IsPermutation, IsSortedBy}
use Rattle.std.proofs.lemmas.List.{length-map, map-append, get_or-map, drop_at, take_rest}
use Rattle.std.proofs.lemmas.List.Sorted.{IsPermutation-map}
use Rattle.dag_cbor_format.specs.Canonical.{is_before}
use Rattle.dag_cbor_format.proofs.Permuting.{lifted}
use Rattle.dag_cbor_format.specs.declared.major.Major.TheVariants.{Map}
use Rattle.dag_cbor_format.specs.Head.{head}
use Rattle.dag_cbor_format.specs.declared.item.ItemHead.{ItemHead}
use Rattle.dag_cbor_format.specs.declared.item.ItemHead.TheVariants as begin
use Rattle.ipld_show.specs.DataItem.{DataItem, list, map as of_entries, DataEntries, no_entries, entry, entry_count, string_encoding, encoding, entries_encoding, IsDataItem, BeginsWithItem}
use Rattle.ipld_show.specs.Extents.{extents, items_extents, entries_extents}
use Rattle.ipld_show.specs.Heads.{IsHeadOf}
use Rattle.ipld_show.specs.JsonText.{Member, members_of, AreInKeyOrder, is_text, begin_with_bytes, ReadsAsContent, AreReserved, StandsIn, in_map}
use Rattle.ipld_show.specs.Places.{IsContainer, HoldsItem, IsBehind, HoldsPart, HoldsEntries, KnownEntry, AreEntriesOf}
use Rattle.ipld_show.specs.declared.containers.Extent.{Extent}
use Rattle.ipld_show.specs.declared.places.Place.{Place}
use Rattle.ipld_show.specs.declared.places.Entry.{Entry}
use Rattle.ipld_show.specs.Scalars.{IsMemory}
use Rattle.ipld_show.specs.declared.error.ShowError.{ShowError}
use Rattle.ipld_show.proofs.Items.{apart}

-- ---- lists and maps

pub container_listed : (d : DataItem) (xs post : List Extent) → IsContainer d → xs ≡ extents d ++ post → (first : Extent) × (inner : List Extent) × (xs ≡ first ∷ (inner ++ post))
    × (first.size ≡ length (encoding d)) × (first.count ≡ suc (length inner))
container_listed (list ds) xs post c e = (record { size = length (encoding (list ds)); count = suc (length (items_extents ds)) }, items_extents ds, e, refl, refl)
container_listed (of_entries es) xs post c e = (record { size = length (encoding (of_entries es)); count = suc (length (entries_extents es)) }, entries_extents es, e, refl, refl)
container_listed _ xs post c e = absurd c

-- the extent that was read is that of the list or the map
pub record Ends (d : DataItem) (rest mid : List ℕ) (xs post : List Extent) (x : Extent) : Type 0 where
  pub size_in : x.size ≤ length rest
  pub count_in : x.count ≤ length xs
  pub bytes : take (length rest - x.size) (drop x.size rest) ≡ mid
  pub listed : take (length xs - x.count) (drop x.count xs) ≡ post

pub container_ends : (d : DataItem) (place : Place) (mid : List ℕ) (post : List Extent) (x : Extent) → HoldsItem d place mid post → IsContainer d → x ≡ get_or place.containers.now 0 x
    → Ends d place.rest.now mid place.containers.now post x
container_ends d place mid post x h c e =
    let l = container_listed d place.containers.now post c h.listed in
    let same : x ≡ l.0 = e ∙ ap (λ xs. get_or xs 0 x) l.2 in
    let size : x.size ≡ length (encoding d) = ap (λ (y : Extent). y.size) same ∙ l.3 in
    let count : x.count ≡ suc (length l.1) = ap (λ (y : Extent). y.count) same ∙ l.4 in
    let long = ap length h.begins.encoded ∙ length-append (encoding d) mid in
    let many = ap length l.2 ∙ ap suc (length-append l.1 post) in
    record {
      size_in = omega arith;
      count_in = omega arith;
      bytes = take_rest place.rest.now x.size ∙ ap (drop x.size) h.begins.encoded ∙ drop_at (encoding d) mid x.size (sym size);
      listed = take_rest place.containers.now x.count ∙ ap (drop x.count) l.2 ∙ drop_at (l.0 ∷ l.1) post x.count (sym count);
    }

pub is_container : (h : ItemHead) (d : DataItem) (rest behind : List ℕ) (n : ℕ) → h ≡ begin.List n → IsHeadOf h d rest behind → IsContainer d
is_container h d rest behind n e i =
    let l : IsHeadOf (begin.List n) d rest behind = subst (λ x. IsHeadOf x d rest behind) e i in
    subst IsContainer (sym l.1) tt

pub is_map_container : (h : ItemHead) (d : DataItem) (rest behind : List ℕ) (n : ℕ) → h ≡ begin.Map n → IsHeadOf h d rest behind → IsContainer d
is_map_container h d rest behind n e i =
    let l : IsHeadOf (begin.Map n) d rest behind = subst (λ x. IsHeadOf x d rest behind) e i in
    subst IsContainer (sym l.1) tt

-- what follows a scalar
pub behind_scalar : (h : ItemHead) (d : DataItem) (place next : Place) (mid : List ℕ) (post : List Extent) → HoldsItem d place mid post → ((n : ℕ) → h ≡ begin.List n → ⊥) → ((n : ℕ) → h ≡ begin.Map n → ⊥)
    → IsHeadOf h d next.rest.now mid → next.containers.now ≡ place.containers.now → IsBehind (Some next) mid post
behind_scalar begin.Null d place next mid post h l m i e = (i.1, e ∙ h.listed ∙ ap (λ x. extents x ++ post) i.0)
behind_scalar (begin.Bool b) d place next mid post h l m i e = (i.1, e ∙ h.listed ∙ ap (λ x. extents x ++ post) i.0)
behind_scalar (begin.Integer n) d place next mid post h l m i e = (i.1, e ∙ h.listed ∙ ap (λ x. extents x ++ post) i.0)
behind_scalar (begin.Float bits) d place next mid post h l m i e = (i.3, e ∙ h.listed ∙ ap (λ x. extents x ++ post) i.1)
behind_scalar (begin.Str s) d place next mid post h l m i e = (i.1, e ∙ h.listed ∙ ap (λ x. extents x ++ post) i.0)
behind_scalar (begin.Bytes b) d place next mid post h l m i e = (i.1, e ∙ h.listed ∙ ap (λ x. extents x ++ post) i.0)
behind_scalar (begin.Link b) d place next mid post h l m i e = (i.2, e ∙ h.listed ∙ ap (λ x. extents x ++ post) i.1)
behind_scalar (begin.List n) d place next mid post h l m i e = absurd (l n refl)
behind_scalar (begin.Map n) d place next mid post h l m i e = absurd (m n refl)

-- the entries of a map begin behind its head
pub entries_inside : (whole : DataItem) (total n : ℕ) (d : DataItem) (place first : Place) (rest : List ℕ) (p : HoldsPart whole total d place) (i : IsHeadOf (begin.Map n) d rest p.mid) → first.rest.now ≡ rest
    → ((x : Extent) (inner : List Extent) → place.containers.now ≡ x ∷ inner → first.containers.now ≡ inner) → HoldsEntries whole total i.0 first
entries_inside whole total n d place first rest p i here inner =
    let es : DataEntries = i.0 in
    let is : IsDataItem (of_entries es) = subst IsDataItem i.1 p.holds.begins.is_item in
    let encoded : place.rest.now ≡ encoding (of_entries es) ++ p.mid = p.holds.begins.encoded ∙ ap (λ x. encoding x ++ p.mid) i.1 in
    let long : length place.rest.now ≡ length (head Map (entry_count es)) + length first.rest.now =
    ap length (encoded ∙ append_assoc (head Map (entry_count es)) (entries_encoding es) p.mid) ∙ length-append (head Map (entry_count es)) (entries_encoding es ++ p.mid)
    ∙ ap (λ (xs : List ℕ). length (head Map (entry_count es)) + length xs) (sym (here ∙ i.3)) in
    let stands : StandsIn whole p.stands.at (of_entries es) = subst (StandsIn whole p.stands.at) i.1 p.stands.stands in
    let at = p.stands.is_at in
    record {
      mid = p.mid;
      post = p.post;
      are_entries = is.1;
      encoded = here ∙ i.3;
      listed = inner _ _ (p.holds.listed ∙ ap (λ x. extents x ++ p.post) i.1);
      stand = λ m left x v e. record {
        at = p.stands.at + (length (head Map (entry_count es)) + m);
        stands = in_map p.stands.at m es x stands v;
        is_at = omega arith;
      };
    }

-- ---- entries, one after another

-- some were reached, and others are to come
pub record Reaching (whole : DataItem) (total : ℕ) (es : DataEntries) (place : Place) (entries : List Entry) (left : ℕ) : Type 0 where
  pub known : List (KnownEntry whole total)
  pub others : DataEntries
  pub holds : HoldsEntries whole total others place
  pub are : entries ≡ map (λ k. k.entry) known
  pub same : members_of es ≡ map (λ k. k.member) known ++ members_of others
  pub count : entry_count others ≡ left

pub reaching_first : (whole : DataItem) (total : ℕ) (es : DataEntries) (place : Place) (entries : List Entry) (left : ℕ) → HoldsEntries whole total es place → entries ≡ [] → left ≡ entry_count es
    → Reaching whole total es place entries left
reaching_first whole total es place entries left h e n = record { known = []; others = es; holds = h; are = e; same = refl; count = sym n }

-- the next of them
pub record NextEntry (whole : DataItem) (total : ℕ) (es : DataEntries) (place : Place) (entries : List Entry) (left : ℕ) : Type 0 where
  pub known : List (KnownEntry whole total)
  pub key : List ℕ
  pub value : DataItem
  pub others : DataEntries
  pub holds : HoldsEntries whole total (entry key value others) place
  pub are : entries ≡ map (λ k. k.entry) known
  pub same : members_of es ≡ map (λ k. k.member) known ++ (key, value) ∷ members_of others
  pub count : suc (entry_count others) ≡ left

next_reached : (whole : DataItem) (total : ℕ) (es : DataEntries) (place : Place) (entries : List Entry) (left : ℕ) (known : List (KnownEntry whole total)) (others : DataEntries)
    → HoldsEntries whole total others place → entries ≡ map (λ k. k.entry) known → members_of es ≡ map (λ k. k.member) known ++ members_of others → entry_count others ≡ left → 0 < left
    → NextEntry whole total es place entries left
next_reached whole total es place entries left known no_entries h are same n some = absurd (omega arith)
next_reached whole total es place entries left known (entry k d others) h are same n some =
    record { known = known; key = k; value = d; others = others; holds = h; are = are; same = same; count = n }

module _ (whole : DataItem) (total : ℕ) (es : DataEntries) (place : Place) (entries : List Entry) (left : ℕ) (r : Reaching whole total es place entries left) where
  pub next_entry : 0 < left → NextEntry whole total es place entries left
  next_entry some = next_reached whole total es place entries left r.known r.others r.holds r.are r.same r.count some

module _ (whole : DataItem) (total : ℕ) (es : DataEntries) (place : Place) (entries : List Entry) (left : ℕ) (t : NextEntry whole total es place entries left) where
  -- the bytes behind the key
  pub behind_key : List ℕ
  behind_key = encoding t.value ++ (entries_encoding t.others ++ t.holds.mid)

  pub begins_with_key : place.rest.now ≡ string_encoding t.key ++ (encoding t.value ++ (entries_encoding t.others ++ t.holds.mid))
  begins_with_key = t.holds.encoded ∙ apart t.key t.value t.others t.holds.mid

  pub value_held : (value : Place) → value.rest.now ≡ encoding t.value ++ (entries_encoding t.others ++ t.holds.mid) → value.containers.now ≡ place.containers.now
      → HoldsItem t.value value (entries_encoding t.others ++ t.holds.mid) (entries_extents t.others ++ t.holds.post)
  value_held value e c = record {
    begins = record { is_item = t.holds.are_entries.1; encoded = e };
    listed = c ∙ t.holds.listed ∙ append_assoc (extents t.value) (entries_extents t.others) t.holds.post;
  }

  module _ (x : Entry) (next : Place) (entries2 : List Entry) (k : x.key.now ≡ t.key) (e : x.value.rest.now ≡ encoding t.value ++ (entries_encoding t.others ++ t.holds.mid))
      (c : x.value.containers.now ≡ place.containers.now) (pushed : entries2 ≡ entries ++ x ∷ []) (b : IsBehind (Some next) (entries_encoding t.others ++ t.holds.mid) (entries_extents t.others ++ t.holds.post)) where
    long : length place.rest.now ≡ length (string_encoding t.key) + length x.value.rest.now
    long = ap length begins_with_key ∙ length-append (string_encoding t.key) (encoding t.value ++ (entries_encoding t.others ++ t.holds.mid))
        ∙ ap (λ (xs : List ℕ). length (string_encoding t.key) + length xs) (sym e)

    long_value : length x.value.rest.now ≡ length (encoding t.value) + length next.rest.now
    long_value = ap length e ∙ length-append (encoding t.value) (entries_encoding t.others ++ t.holds.mid) ∙ ap (λ (xs : List ℕ). length (encoding t.value) + length xs) (sym b.0)

    known_entry : KnownEntry whole total
    known_entry = record {
      entry = x;
      member = (t.key, t.value);
      key = k;
      value = record {
        mid = entries_encoding t.others ++ t.holds.mid;
        post = entries_extents t.others ++ t.holds.post;
        holds = value_held x.value e c;
        stands = t.holds.stand (length (string_encoding t.key)) (length x.value.rest.now) t.value (inl (refl, refl)) (sym long);
      };
    }

    pub reaching_more : (less : ℕ) → suc less ≡ left → Reaching whole total es next entries2 less
    unfolding known_entry
    reaching_more less n = record {
      known = t.known ++ known_entry ∷ [];
      others = t.others;
      holds = record {
        mid = t.holds.mid;
        post = t.holds.post;
        are_entries = t.holds.are_entries.2;
        encoded = b.0;
        listed = b.1;
        stand = λ m rest d v s.
            t.holds.stand (length (string_encoding t.key) + (length (encoding t.value) + m)) rest d (inr (m, v, refl)) (omega (arith, s, long, long_value));
      };
      are = pushed ∙ ap (λ (xs : List Entry). xs ++ x ∷ []) t.are ∙ sym (map-append (λ (j : KnownEntry whole total). j.entry) t.known (known_entry ∷ []));
      same = t.same ∙ sym (append_assoc (map (λ (j : KnownEntry whole total). j.member) t.known) ((t.key, t.value) ∷ []) (members_of t.others))
          ∙ ap (λ (xs : List Member). xs ++ members_of t.others) (sym (map-append (λ (j : KnownEntry whole total). j.member) t.known (known_entry ∷ [])));
      count = omega (arith, t.count);
    }

-- ---- entries in order

-- the order by which entries are sorted is that of their keys
abbrev pub by_key : Entry → Entry → Bool
by_key x y = is_lt (slice_cmp nat_cmp x.key.now y.key.now)

module _ (whole : DataItem) (total : ℕ) where
  in_order : (ks : List (KnownEntry whole total)) → IsSortedBy by_key (map (λ k. k.entry) ks) → AreInKeyOrder (map (λ k. k.member) ks)
  in_order [] s k d a b = absurd (omega arith)
  in_order (x ∷ xs) s k d a b =
      let ks = x ∷ xs in
      let here : k + 1 < length ks = omega (arith, length-map ks (λ (j : KnownEntry whole total). j.member)) in
      let inside : k + 1 < length (map (λ (j : KnownEntry whole total). j.entry) ks) = omega (arith, length-map ks (λ (j : KnownEntry whole total). j.entry)) in
      let first = get_or ks k x in
      let second = get_or ks (k + 1) x in
      let at_entry : (i : ℕ) → i < length ks → get_or (map (λ (j : KnownEntry whole total). j.entry) ks) i x.entry ≡ (get_or ks i x).entry =
      λ i lt. get_or-map (λ (j : KnownEntry whole total). j.entry) ks i x x.entry lt in
      let at_member : (i : ℕ) → i < length ks → get_or (map (λ (j : KnownEntry whole total). j.member) ks) i d ≡ (get_or ks i x).member =
      λ i lt. get_or-map (λ (j : KnownEntry whole total). j.member) ks i x d lt in
      let sorted : by_key second.entry first.entry ≡ false =
      ap₂ by_key (sym (at_entry (k + 1) here)) (sym (at_entry k (omega arith))) ∙ s k x.entry a inside in
      ap₂ (λ (m n : Member). is_before m.0 n.0) (at_member (k + 1) here) (at_member k (omega arith))
      ∙ ap₂ is_before (sym second.key) (sym first.key) ∙ sorted

  all_reached : (es : DataEntries) (known : List (KnownEntry whole total)) (others : DataEntries) → members_of es ≡ map (λ k. k.member) known ++ members_of others → entry_count others ≡ 0
      → members_of es ≡ map (λ k. k.member) known
  all_reached es known no_entries same none = same ∙ append-nil (map (λ (j : KnownEntry whole total). j.member) known)
  all_reached es known (entry k d others) same none = absurd (omega arith)

  pub entries_sorted : (es : DataEntries) (place : Place) (entries sorted : List Entry) (left : ℕ) → Reaching whole total es place entries left → left ≡ 0 → IsPermutation entries sorted → IsSortedBy by_key sorted
      → AreEntriesOf whole total es sorted
  entries_sorted es place entries sorted left r none p s =
      let l = lifted (λ (j : KnownEntry whole total). j.entry) r.known sorted (subst (λ xs. IsPermutation xs sorted) r.are p) in
      let all = all_reached es r.known r.others r.same (r.count ∙ none) in
      record {
        known = l.list;
        are = l.is;
        in_order = record {
          same = subst (λ xs. IsPermutation xs (map (λ (j : KnownEntry whole total). j.member) l.list)) (sym all) (IsPermutation-map (λ (j : KnownEntry whole total). j.member) r.known l.list l.same);
          in_order = in_order l.list (subst (IsSortedBy by_key) l.is s);
        };
      }

-- ---- reserved maps

pub no_content : (h : ItemHead) (d : DataItem) (rest behind : List ℕ) → IsHeadOf h d rest behind → ((s : Bor (List ℕ)) → h ≡ begin.Str s → ⊥) → ((n : ℕ) → h ≡ begin.Map n → ⊥) → ReadsAsContent d false
no_content begin.Null d rest behind i s m = subst (λ x. ReadsAsContent x false) (sym i.0) refl
no_content (begin.Bool b) d rest behind i s m = subst (λ x. ReadsAsContent x false) (sym i.0) refl
no_content (begin.Integer n) d rest behind i s m = subst (λ x. ReadsAsContent x false) (sym i.0) refl
no_content (begin.Float bits) d rest behind i s m = subst (λ x. ReadsAsContent x false) (sym i.1) refl
no_content (begin.Str t) d rest behind i s m = absurd (s t refl)
no_content (begin.Bytes b) d rest behind i s m = subst (λ x. ReadsAsContent x false) (sym i.0) refl
no_content (begin.Link b) d rest behind i s m = subst (λ x. ReadsAsContent x false) (sym i.1) refl
no_content (begin.List n) d rest behind i s m = subst (λ x. ReadsAsContent x false) (sym i.1) refl
no_content (begin.Map n) d rest behind i s m = absurd (m n refl)

pub no_text : (h : ItemHead) (d : DataItem) (rest behind : List ℕ) → IsHeadOf h d rest behind → ((s : Bor (List ℕ)) → h ≡ begin.Str s → ⊥) → is_text d ≡ false
no_text begin.Null d rest behind i s = ap is_text i.0
no_text (begin.Bool b) d rest behind i s = ap is_text i.0
no_text (begin.Integer n) d rest behind i s = ap is_text i.0
no_text (begin.Float bits) d rest behind i s = ap is_text i.1
no_text (begin.Str t) d rest behind i s = absurd (s t refl)
no_text (begin.Bytes b) d rest behind i s = ap is_text i.0
no_text (begin.Link b) d rest behind i s = ap is_text i.1
no_text (begin.List n) d rest behind i s = ap is_text i.1
no_text (begin.Map n) d rest behind i s = ap is_text i.1

-- the first of the entries
pub record FirstEntry (whole : DataItem) (total : ℕ) (known : List (KnownEntry whole total)) (x : Entry) : Type 0 where
  pub member : Member
  pub others : List Member
  pub are : map (λ k. k.member) known ≡ member ∷ others
  pub key : x.key.now ≡ member.0
  pub value : HoldsPart whole total member.1 x.value

-- where there is none, an empty one
abbrev pub in_front : List Entry → Entry
in_front entries = get_or entries 0 (record { key = record { ref_ptr = (0, 0); now = [] }; value = record { rest = record { ref_ptr = (0, 0); now = [] }; containers = record { ref_ptr = (0, 0); now = [] } } })

pub first_entry : (whole : DataItem) (total : ℕ) (known : List (KnownEntry whole total)) (entries : List Entry) → entries ≡ map (λ k. k.entry) known → 0 < length entries
    → FirstEntry whole total known (in_front entries)
first_entry whole total [] entries e some = absurd (omega (arith, ap length e))
first_entry whole total (k ∷ ks) entries e some =
    let same : k.entry ≡ in_front entries = sym (ap in_front e) in
    record {
      member = k.member;
      others = map (λ (j : KnownEntry whole total). j.member) ks;
      are = refl;
      key = subst (λ (y : Entry). y.key.now ≡ k.member.0) same k.key;
      value = subst (λ (y : Entry). HoldsPart whole total k.member.1 y.value) same k.value;
    }

pub begins_so : (whole : DataItem) (total : ℕ) (known : List (KnownEntry whole total)) (x : Entry) (same text : Bool) → FirstEntry whole total known x → same ≡ bytes_eq x.key.now (codes "bytes")
    → ((d : DataItem) (behind : List ℕ) → BeginsWithItem d x.value.rest.now behind → text ≡ is_text d) → same ≡ true → text ≡ begin_with_bytes (map (λ k. k.member) known)
begins_so whole total known x same text f key t e =
    let eq : true ≡ bytes_eq f.member.0 (codes "bytes") = sym e ∙ key ∙ ap (λ (k : List ℕ). bytes_eq k (codes "bytes")) f.key in
    t f.member.1 f.value.mid f.value.holds.begins ∙ ap (λ (b : Bool). b && is_text f.member.1) eq ∙ ap begin_with_bytes (sym f.are)

pub begins_otherwise : (whole : DataItem) (total : ℕ) (known : List (KnownEntry whole total)) (x : Entry) (same : Bool) → FirstEntry whole total known x → same ≡ bytes_eq x.key.now (codes "bytes")
    → same ≡ false → same ≡ begin_with_bytes (map (λ k. k.member) known)
begins_otherwise whole total known x same f key e =
    let eq : false ≡ bytes_eq f.member.0 (codes "bytes") = sym e ∙ key ∙ ap (λ (k : List ℕ). bytes_eq k (codes "bytes")) f.key in
    e ∙ ap (λ (b : Bool). b && is_text f.member.1) eq ∙ ap begin_with_bytes (sym f.are)

reserved_as : (r : Result Bool ShowError) (m : Member) (ms : List Member) → bytes_eq m.0 (codes "/") ≡ true → MatchResult r (ReadsAsContent m.1) IsMemory → MatchResult r (AreReserved (m ∷ ms)) IsMemory
reserved_as (Ok is) m ms e h = inl (e, h)
reserved_as (Err error) m ms e h = h

pub reserved_so : (whole : DataItem) (total : ℕ) (known : List (KnownEntry whole total)) (x : Entry) (same : Bool) (r : Result Bool ShowError) → FirstEntry whole total known x → same ≡ bytes_eq x.key.now (codes "/")
    → ((d : DataItem) → HoldsPart whole total d x.value → MatchResult r (ReadsAsContent d) IsMemory) → same ≡ true → MatchResult r (AreReserved (map (λ k. k.member) known)) IsMemory
reserved_so whole total known x same r f key c e =
    subst (λ ms. MatchResult r (AreReserved ms) IsMemory) (sym f.are)
    (reserved_as r f.member f.others (ap (λ (k : List ℕ). bytes_eq k (codes "/")) (sym f.key) ∙ sym key ∙ e) (c f.member.1 f.value))

pub not_reserved : (whole : DataItem) (total : ℕ) (known : List (KnownEntry whole total)) (x : Entry) (same : Bool) → FirstEntry whole total known x → same ≡ bytes_eq x.key.now (codes "/")
    → same ≡ false → AreReserved (map (λ k. k.member) known) false
not_reserved whole total known x same f key e =
    subst (λ ms. AreReserved ms false) (sym f.are) (inr (ap (λ (k : List ℕ). bytes_eq k (codes "/")) (sym f.key) ∙ sym key ∙ e, refl))

pub no_behind : (o : Option Place) (mid : List ℕ) (post : List Extent) → IsBehind o mid post → ((p : Place) → o ≡ Some p → ⊥) → ⊥
no_behind None mid post b shut = b
no_behind (Some p) mid post b shut = shut p refl
