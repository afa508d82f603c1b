-- The DAG-JSON of a value, written token by token.
use Rattle.std.proofs.Common.{◌≡◌, ◌⊎◌, inl, inr, ℕ, suc, ◌+◌, ◌-◌, ◌<◌, ◌≤◌, true, false, List, [], ◌∷◌, ◌++◌, length, map, reverse, Some, None, refl, sym, ap, subst, ◌∙◌, append_assoc, append-nil, length-append, arith}
use Rattle.std.specs.declared.vec.Vec.{Vec}
use Rattle.std.specs.declared.alloc.Global.{Global}
use Rattle.std.proofs.lemmas.List.{reverse-reverse}
use Rattle.std.proofs.lemmas.List.Sums.{sum_by-cons}
use Rattle.std.proofs.lemmas.List.Sorted.{sum_by-IsPermutation}
use Rattle.ipld_cid.proofs.Encodings.{one_meaning}
use Rattle.ipld_tree.specs.Tree as tree
use Rattle.json.specs.Json.{Json}
use Rattle.json.specs.Json as json
use Rattle.json.specs.Token.{Token, begin_array, end_array, begin_object, end_object, key}
use Rattle.json.specs.Tree.{json_tokens, items_tokens, members_tokens}
use Rattle.json.specs.Written.{Written}
use Rattle.dag_cbor_format.proofs.HeadLaws.{head_some}
use Rattle.dag_cbor_format.specs.declared.major.Major.TheVariants.{List as Array, Map}
use Rattle.dag_cbor_format.specs.Head.{head}
use Rattle.dag_cbor_format.specs.declared.item.ItemHead.{ItemHead}
use Rattle.dag_cbor_format.specs.declared.item.ItemHead.TheVariants as begin
use Rattle.dag_json.specs.Form.{json_of, Wrote}
use Rattle.dag_json.proofs.Writing.{Wrote-nil, Wrote-trans}
use Rattle.ipld_show.specs.DataItem.{DataItem, null, boolean, integer, float, text_string, byte_string, link, list, map as of_entries, DataItems, no_items, item, DataEntries, no_entries, entry, item_count, entry_count, string_encoding, encoding, items_encoding, entries_encoding, IsDataItem, AreDataItems, BeginsWithItem}
use Rattle.ipld_show.specs.Extents.{extents, items_extents}
use Rattle.ipld_show.specs.Heads.{IsHeadOf}
use Rattle.ipld_show.specs.JsonText.{Member, members_of, IsInKeyOrder, AreReserved, IsScalarJson, IsItemJson, of_scalar, of_list, of_map, AreItemsJson, no_more_items, item_json, AreMembersJson, no_more_members, member_json, StandsIn, whole, in_list, IsJsonError}
use Rattle.ipld_show.specs.JsonFrames.{items_in, items_in_items, items_in_entries, items_in_members, IsHeadJson, Behind, Coming, Begun, Steps, Leads}
use Rattle.ipld_show.specs.Places.{IsBehind, HoldsPart, ItemsStand, KnownEntry, AreEntriesOf}
use Rattle.ipld_show.specs.Scalars.{IsMemory}
use Rattle.ipld_show.specs.declared.containers.Extent.{Extent}
use Rattle.ipld_show.specs.declared.places.Place.{Place}
use Rattle.ipld_show.specs.declared.places.Entry.{Entry}
use Rattle.ipld_show.specs.declared.json_text.Frame.{Frame}
use Rattle.ipld_show.specs.declared.json_text.Frame.TheVariants as frame
use Rattle.ipld_show.specs.declared.json_text.Step.TheVariants.{Value, End}
use Rattle.ipld_show.specs.declared.error.ShowError.{ShowError}
use Rattle.ipld_show.specs.declared.error.ShowError.TheVariants.{Reserved}
use Rattle.ipld_show.proofs.Skips.{some_bytes}
use Rattle.ipld_show.proofs.Trees.{reverse_pop}

-- ---- scalars

-- a scalar has this JSON, and is one item
pub record IsScalar (d : DataItem) (j : Json) : Type 0 where
  pub json : IsScalarJson d j
  pub one : items_in d ≡ 1
  pub none : extents d ≡ []

scalar_is : (x d : DataItem) (j : Json) → d ≡ x → IsScalarJson x j → items_in x ≡ 1 → extents x ≡ [] → IsScalar d j
scalar_is x d j e s n l = subst (λ y. IsScalar y j) (sym e) (record { json = s; one = n; none = l })

pub scalar_json : (h : ItemHead) (d : DataItem) (rest behind : List ℕ) (j : Json) → IsHeadOf h d rest behind → IsDataItem d → ((n : ℕ) → h ≡ begin.List n → ⊥) → ((n : ℕ) → h ≡ begin.Map n → ⊥) → IsHeadJson h j
    → IsScalar d j × (rest ≡ behind)
scalar_json begin.Null d rest behind j i g l m x = (scalar_is null d j i.0 x refl refl, i.1)
scalar_json (begin.Bool b) d rest behind j i g l m x = (scalar_is (boolean b) d j i.0 x refl refl, i.1)
scalar_json (begin.Integer n) d rest behind j i g l m x = (scalar_is (integer n) d j i.0 x refl refl, i.1)
scalar_json (begin.Float bits) d rest behind j i g l m x = (scalar_is (float i.0) d j i.1 (subst (λ (b : ℕ). IsHeadJson (begin.Float b) j) i.2 x) refl refl, i.3)
scalar_json (begin.Str s) d rest behind j i g l m x = (scalar_is (text_string s.now) d j i.0 x refl refl, i.1)
scalar_json (begin.Bytes b) d rest behind j i g l m x = (scalar_is (byte_string b.now) d j i.0 x refl refl, i.1)
scalar_json (begin.Link b) d rest behind j i g l m x =
    let h : IsDataItem (link b.now i.0) = subst IsDataItem i.1 g in
    (scalar_is (link b.now i.0) d j i.1 (x.2 ∙ ap (λ cid. json_of (tree.link cid)) (one_meaning 64 b.now x.0 i.0 x.1 h.1)) refl refl, i.2)
scalar_json (begin.List n) d rest behind j i g l m x = absurd (l n refl)
scalar_json (begin.Map n) d rest behind j i g l m x = absurd (m n refl)

-- what is written for null, and for the head of a list or a map, of which nothing is asked
pub null_json : (h : ItemHead) → (h ≡ begin.Null) ⊎ (((n : ℕ) × (h ≡ begin.List n)) ⊎ ((n : ℕ) × (h ≡ begin.Map n))) → IsHeadJson h (json_of tree.null)
null_json h (inl is) = subst (λ x. IsHeadJson x (json_of tree.null)) (sym is) refl
null_json h (inr (inl is)) = subst (λ x. IsHeadJson x (json_of tree.null)) (sym is.1) tt
null_json h (inr (inr is)) = subst (λ x. IsHeadJson x (json_of tree.null)) (sym is.1) tt

-- ---- how many items there are

pub some_items : (d : DataItem) → 0 < items_in d
some_items (list ds) = omega arith
some_items (of_entries es) = omega arith
some_items _ = omega arith

mutual
  pub few_items : (d : DataItem) → items_in d ≤ length (encoding d)
  few_items (list ds) = omega (arith, few_in_items ds, length-append (head Array (item_count ds)) (items_encoding ds), head_some Array (item_count ds))
  few_items (of_entries es) = omega (arith, few_in_entries es, length-append (head Map (entry_count es)) (entries_encoding es), head_some Map (entry_count es))
  few_items null = some_bytes null
  few_items (boolean b) = some_bytes (boolean b)
  few_items (integer n) = some_bytes (integer n)
  few_items (float c) = some_bytes (float c)
  few_items (text_string s) = some_bytes (text_string s)
  few_items (byte_string b) = some_bytes (byte_string b)
  few_items (link b cid) = some_bytes (link b cid)

  few_in_items : (ds : DataItems) → items_in_items ds ≤ length (items_encoding ds)
  few_in_items no_items = omega arith
  few_in_items (item d ds) = omega (arith, few_items d, few_in_items ds, length-append (encoding d) (items_encoding ds))

  few_in_entries : (es : DataEntries) → items_in_entries es ≤ length (entries_encoding es)
  few_in_entries no_entries = omega arith
  few_in_entries (entry k d es) =
      omega (arith, few_items d, few_in_entries es, length-append (encoding d) (entries_encoding es), length-append (string_encoding k) (encoding d ++ entries_encoding es))

members_counted : (es : DataEntries) → items_in_members (members_of es) ≡ items_in_entries es
members_counted no_entries = refl
members_counted (entry k d es) = omega (arith, sum_by-cons (λ (m : Member). items_in m.1) (k, d) (members_of es), members_counted es)

ordered_counted : (es : DataEntries) (ordered : List Member) → IsInKeyOrder es ordered → items_in_members ordered ≡ items_in_entries es
ordered_counted es ordered o = sum_by-IsPermutation (λ (m : Member). items_in m.1) (members_of es) ordered o.same ∙ members_counted es

-- ---- tokens

three : (a b c : List Token) → a ++ (b ++ c) ≡ (a ++ b) ++ c
three a b c = sym (append_assoc a b c)

module _ (d : DataItem) (total : ℕ) (fs : List Frame) where
  -- ---- a list

  item_comes : (left less : ℕ) (place : Place) (w : List Token) (n : ℕ) (ds : DataItems) (mid : List ℕ) (post : List Extent) (outside : ℕ) → AreDataItems ds → left ≡ item_count ds
      → place.rest.now ≡ items_encoding ds ++ mid → place.containers.now ≡ items_extents ds ++ post → ItemsStand d total (length place.rest.now) ds → n ≡ items_in_items ds + outside
      → ((js : json.Items) → AreItemsJson ds js → Behind d total fs mid post (w ++ items_tokens js) outside) → left ≡ suc less → Coming d total (frame.List less ∷ fs) place w n
  item_comes left less place w n no_items mid post outside g c e l s a ends some = absurd (omega arith)
  item_comes left less place w n (item x ds) mid post outside g c e l s a ends some =
      let behind : List ℕ = items_encoding ds ++ mid in
      let encoded : place.rest.now ≡ encoding x ++ behind = e ∙ append_assoc (encoding x) (items_encoding ds) mid in
      let long : length place.rest.now ≡ length (encoding x) + length behind = ap length encoded ∙ length-append (encoding x) behind in
      record {
        value = x;
        part = record {
          mid = behind;
          post = items_extents ds ++ post;
          holds = record { begins = record { is_item = g.0; encoded = encoded }; listed = l ∙ append_assoc (extents x) (items_extents ds) post };
          stands = s 0 (length place.rest.now) x (inl (refl, refl)) (omega arith);
        };
        outside = items_in_items ds + outside;
        all = omega arith;
        ends = λ j is. record {
          items = ds;
          mid = mid;
          post = post;
          outside = outside;
          are_items = g.1;
          count = omega arith;
          encoded = refl;
          listed_so = refl;
          stand = λ m r y v q. s (length (encoding x) + m) r y (inr (m, v, refl)) (omega (arith, q, long));
          all = refl;
          ends = λ js us. subst (λ xs. Behind d total fs mid post xs outside) (three w (json_tokens j) (items_tokens js)) (ends (json.item j js) (item_json x ds j js is us));
        };
      }

  pub next_item_comes : (left less : ℕ) (place : Place) (w : List Token) (n : ℕ) → Behind d total (frame.List left ∷ fs) place.rest.now place.containers.now w n → left ≡ suc less
      → Coming d total (frame.List less ∷ fs) place w n
  next_item_comes left less place w n b some =
      item_comes left less place w n b.items b.mid b.post b.outside b.are_items b.count b.encoded b.listed_so b.stand b.all b.ends some

  no_item_comes : (rest : List ℕ) (listed : List Extent) (w : List Token) (n : ℕ) (ds : DataItems) (mid : List ℕ) (post : List Extent) (outside : ℕ) → 0 ≡ item_count ds
      → rest ≡ items_encoding ds ++ mid → listed ≡ items_extents ds ++ post → n ≡ items_in_items ds + outside → ((js : json.Items) → AreItemsJson ds js → Behind d total fs mid post (w ++ items_tokens js) outside)
      → Behind d total fs rest listed (w ++ end_array ∷ []) n
  no_item_comes rest listed w n no_items mid post outside c e l a ends =
      let same : outside ≡ n = omega arith in
      subst (λ xs. Behind d total fs xs listed (w ++ end_array ∷ []) n) (sym e)
      (subst (λ xs. Behind d total fs mid xs (w ++ end_array ∷ []) n) (sym l)
      (subst (λ (k : ℕ). Behind d total fs mid post (w ++ end_array ∷ []) k) same (ends json.no_items no_more_items)))
  no_item_comes rest listed w n (item x ds) mid post outside c e l a ends = absurd (omega arith)

  pub list_ends : (left : ℕ) (rest : List ℕ) (listed : List Extent) (w : List Token) (n : ℕ) → Behind d total (frame.List left ∷ fs) rest listed w n → left ≡ 0
      → Behind d total fs rest listed (w ++ end_array ∷ []) n
  list_ends left rest listed w n b none = no_item_comes rest listed w n b.items b.mid b.post b.outside (sym none ∙ b.count) b.encoded b.listed_so b.all b.ends

  -- a list begins
  pub list_begins : (items : ℕ) (place inner : Place) (rest : List ℕ) (w : List Token) (n : ℕ) (old new : Written) (fs2 : List Frame) (c : Coming d total fs place w n)
      → IsHeadOf (begin.List items) c.value rest c.part.mid → inner.rest.now ≡ rest → ((x : Extent) (xs : List Extent) → place.containers.now ≡ x ∷ xs → inner.containers.now ≡ xs)
      → Wrote old new (begin_array ∷ []) → fs2 ≡ frame.List items ∷ fs → Begun d total fs2 inner w n old new
  list_begins items place inner rest w n old new fs2 c i r inside wrote pushed =
      let ds : DataItems = i.0 in
      let is : IsDataItem (list ds) = subst IsDataItem i.1 c.part.holds.begins.is_item in
      let encoded : place.rest.now ≡ encoding (list ds) ++ c.part.mid = c.part.holds.begins.encoded ∙ ap (λ x. encoding x ++ c.part.mid) i.1 in
      let here : inner.rest.now ≡ items_encoding ds ++ c.part.mid = r ∙ i.3 in
      let long : length place.rest.now ≡ length (head Array (item_count ds)) + length inner.rest.now =
      ap length (encoded ∙ append_assoc (head Array (item_count ds)) (items_encoding ds) c.part.mid) ∙ length-append (head Array (item_count ds)) (items_encoding ds ++ c.part.mid)
      ∙ ap (λ (xs : List ℕ). length (head Array (item_count ds)) + length xs) (sym here) in
      let stands : StandsIn d c.part.stands.at (list ds) = subst (StandsIn d c.part.stands.at) i.1 c.part.stands.stands in
      let at = c.part.stands.is_at in
      let counted = ap items_in i.1 in
      let left : Behind d total (frame.List items ∷ fs) inner.rest.now inner.containers.now (w ++ begin_array ∷ []) (items_in_items ds + c.outside) = record {
        items = ds;
        mid = c.part.mid;
        post = c.part.post;
        outside = c.outside;
        are_items = is.1;
        count = i.2;
        encoded = here;
        listed_so = inside _ _ (c.part.holds.listed ∙ ap (λ x. extents x ++ c.part.post) i.1);
        stand = λ m left x v e. record { at = c.part.stands.at + (length (head Array (item_count ds)) + m); stands = in_list c.part.stands.at m ds x stands v; is_at = omega arith };
        all = refl;
        ends = λ js are. subst (λ xs. Behind d total fs c.part.mid c.part.post xs c.outside) (three w (begin_array ∷ []) (items_tokens js))
            (c.ends (json.array js) (subst (λ x. IsItemJson x (json.array js)) (sym i.1) (of_list ds js are)));
      } in
      record {
        tokens = begin_array ∷ [];
        left = items_in_items ds + c.outside;
        wrote = wrote;
        fewer = omega (arith, counted, c.all);
        behind = subst (λ ls. Behind d total ls inner.rest.now inner.containers.now (w ++ begin_array ∷ []) (items_in_items ds + c.outside)) (sym pushed) left;
      }

  -- a scalar was written
  pub scalar_written : (h : ItemHead) (place next : Place) (w : List Token) (j : Json) (n : ℕ) (old new : Written) (c : Coming d total fs place w n) → IsHeadOf h c.value next.rest.now c.part.mid
      → ((k : ℕ) → h ≡ begin.List k → ⊥) → ((k : ℕ) → h ≡ begin.Map k → ⊥) → IsHeadJson h j → next.containers.now ≡ place.containers.now → Wrote old new (json_tokens j) → Begun d total fs next w n old new
  scalar_written h place next w j n old new c i l m x same wrote =
      let s = scalar_json h c.value next.rest.now c.part.mid j i c.part.holds.begins.is_item l m x in
      let one = s.0.one in
      let listed : next.containers.now ≡ c.part.post = same ∙ c.part.holds.listed ∙ ap (λ xs. xs ++ c.part.post) s.0.none in
      record {
        tokens = json_tokens j;
        left = c.outside;
        wrote = wrote;
        fewer = omega (arith, c.all);
        behind = subst (λ xs. Behind d total fs xs next.containers.now (w ++ json_tokens j) c.outside) (sym s.1)
            (subst (λ xs. Behind d total fs c.part.mid xs (w ++ json_tokens j) c.outside) (sym listed) (c.ends j (of_scalar c.value j s.0.json)));
      }

  -- ---- a map

  pub map_begins : (count : ℕ) (place after : Place) (rest : List ℕ) (w : List Token) (n : ℕ) (old new : Written) (fs2 : List Frame) (v : Vec Entry Global) (sorted : List Entry) (c : Coming d total fs place w n)
      (i : IsHeadOf (begin.Map count) c.value rest c.part.mid) (a : AreEntriesOf d total i.0 sorted) → v.items ≡ reverse sorted → AreReserved (map (λ k. k.member) a.known) false
      → IsBehind (Some after) c.part.mid c.part.post → Wrote old new (begin_object ∷ []) → fs2 ≡ frame.Map v after ∷ fs → Begun d total fs2 place w n old new
  map_begins count place after rest w n old new fs2 v sorted c i a turned free b wrote pushed =
      let es : DataEntries = i.0 in
      let ordered = map (λ (k : KnownEntry d total). k.member) a.known in
      let counted = ordered_counted es ordered a.in_order in
      let value = ap items_in i.1 in
      let left : Behind d total (frame.Map v after ∷ fs) place.rest.now place.containers.now (w ++ begin_object ∷ []) (items_in_entries es + c.outside) = record {
        known = a.known;
        outside = c.outside;
        are = turned ∙ ap reverse a.are;
        all = ap (λ (k : ℕ). k + c.outside) (sym counted);
        ends = λ js are. subst (λ xs. Behind d total fs xs after.containers.now ((w ++ begin_object ∷ []) ++ members_tokens js) c.outside) (sym b.0)
            (subst (λ xs. Behind d total fs c.part.mid xs ((w ++ begin_object ∷ []) ++ members_tokens js) c.outside) (sym b.1)
            (subst (λ xs. Behind d total fs c.part.mid c.part.post xs c.outside) (three w (begin_object ∷ []) (members_tokens js))
            (c.ends (json.object js) (subst (λ x. IsItemJson x (json.object js)) (sym i.1) (of_map es ordered js a.in_order free are)))));
      } in
      record {
        tokens = begin_object ∷ [];
        left = items_in_entries es + c.outside;
        wrote = wrote;
        fewer = omega (arith, value, c.all);
        behind = subst (λ ls. Behind d total ls place.rest.now place.containers.now (w ++ begin_object ∷ []) (items_in_entries es + c.outside)) (sym pushed) left;
      }

  -- the map is reserved
  pub map_reserved : (count at : ℕ) (place : Place) (rest : List ℕ) (w : List Token) (n : ℕ) (entries : List Entry) (c : Coming d total fs place w n)
      (i : IsHeadOf (begin.Map count) c.value rest c.part.mid) (a : AreEntriesOf d total i.0 entries) → AreReserved (map (λ k. k.member) a.known) true → at ≡ total - length place.rest.now
      → IsJsonError d (Reserved at)
  map_reserved count at place rest w n entries c i a reserved e =
      let same : c.part.stands.at ≡ at = omega (arith, c.part.stands.is_at) in (
        i.0,
        map (λ (k : KnownEntry d total). k.member) a.known,
        subst (λ (k : ℕ). StandsIn d k (of_entries i.0)) same (subst (StandsIn d c.part.stands.at) i.1 c.part.stands.stands),
        a.in_order,
        reserved,
      )

  entry_comes : (x : Entry) (ys : List Entry) (after : Place) (w : List Token) (n : ℕ) (v2 : Vec Entry Global) (known : List (KnownEntry d total)) (outside : ℕ)
      → map (λ k. k.entry) known ≡ x ∷ reverse ys → n ≡ items_in_members (map (λ k. k.member) known) + outside
      → ((js : json.Members) → AreMembersJson (map (λ k. k.member) known) js → Behind d total fs after.rest.now after.containers.now (w ++ members_tokens js) outside) → v2.items ≡ ys
      → Coming d total (frame.Map v2 after ∷ fs) x.value (w ++ key x.key.now ∷ []) n
  entry_comes x ys after w n v2 [] outside e a ends pushed = absurd cc
  entry_comes x ys after w n v2 (k ∷ ks) outside e a ends pushed =
      let first : k.entry ≡ x = cc e in
      let more : map (λ (j : KnownEntry d total). j.entry) ks ≡ reverse ys = cc e in
      let same_key : x.key.now ≡ k.member.0 = ap (λ (y : Entry). y.key.now) (sym first) ∙ k.key in
      let before : List Token = key x.key.now ∷ [] in
      let sum = sum_by-cons (λ (m : Member). items_in m.1) k.member (map (λ (j : KnownEntry d total). j.member) ks) in
      let tokens : (t u : List Token) → w ++ key k.member.0 ∷ (t ++ u) ≡ ((w ++ before) ++ t) ++ u = λ t u.
      ap (λ (s : List ℕ). w ++ key s ∷ (t ++ u)) (sym same_key) ∙ three w before (t ++ u) ∙ three (w ++ before) t u in
      record {
        value = k.member.1;
        part = subst (λ (y : Entry). HoldsPart d total k.member.1 y.value) first k.value;
        outside = items_in_members (map (λ (j : KnownEntry d total). j.member) ks) + outside;
        all = omega arith;
        ends = λ j is. record {
          known = ks;
          outside = outside;
          are = pushed ∙ sym (reverse-reverse ys) ∙ ap reverse (sym more);
          all = refl;
          ends = λ js us. subst (λ xs. Behind d total fs after.rest.now after.containers.now xs outside) (tokens (json_tokens j) (members_tokens js))
              (ends (json.member k.member.0 j js) (member_json k.member (map (λ (i : KnownEntry d total). i.member) ks) j js is us));
        };
      }

  pub next_entry_comes : (v v2 : Vec Entry Global) (x : Entry) (after : Place) (rest : List ℕ) (listed : List Extent) (w : List Token) (n : ℕ) → Behind d total (frame.Map v after ∷ fs) rest listed w n
      → v.items ≡ v2.items ++ x ∷ [] → Coming d total (frame.Map v2 after ∷ fs) x.value (w ++ key x.key.now ∷ []) n
  next_entry_comes v v2 x after rest listed w n b popped =
      let are : map (λ (j : KnownEntry d total). j.entry) b.known ≡ x ∷ reverse v2.items =
      sym (reverse-reverse (map (λ (j : KnownEntry d total). j.entry) b.known)) ∙ ap reverse (sym b.are) ∙ reverse_pop v.items v2.items x popped in
      entry_comes x v2.items after w n v2 b.known b.outside are b.all b.ends refl

  no_entry_comes : (after : Place) (w : List Token) (n : ℕ) (known : List (KnownEntry d total)) (outside : ℕ) → length (map (λ k. k.entry) known) ≡ 0
      → n ≡ items_in_members (map (λ k. k.member) known) + outside
      → ((js : json.Members) → AreMembersJson (map (λ k. k.member) known) js → Behind d total fs after.rest.now after.containers.now (w ++ members_tokens js) outside)
      → Behind d total fs after.rest.now after.containers.now (w ++ end_object ∷ []) n
  no_entry_comes after w n [] outside none a ends =
      let same : outside ≡ n = omega arith in
      subst (λ (k : ℕ). Behind d total fs after.rest.now after.containers.now (w ++ end_object ∷ []) k) same (ends json.no_members no_more_members)
  no_entry_comes after w n (k ∷ ks) outside none a ends = absurd (omega arith)

  pub map_ends : (v : Vec Entry Global) (after : Place) (rest : List ℕ) (listed : List Extent) (w : List Token) (n : ℕ) → Behind d total (frame.Map v after ∷ fs) rest listed w n → v.items ≡ []
      → Behind d total fs after.rest.now after.containers.now (w ++ end_object ∷ []) n
  map_ends v after rest listed w n b none =
      let empty : map (λ (j : KnownEntry d total). j.entry) b.known ≡ [] = sym (reverse-reverse (map (λ (j : KnownEntry d total). j.entry) b.known)) ∙ ap reverse (sym b.are ∙ none) in
      no_entry_comes after w n b.known b.outside (ap length empty) b.all b.ends

-- ---- what comes next

module _ (d : DataItem) (total : ℕ) (fs : List Frame) (w t : List Token) (n : ℕ) (old mid new : Written) (a : Wrote old mid t) where
  pub step_leads : (next : Place) → Steps d total fs (Value next) (w ++ t) n mid new → Leads d total fs (Some next) w n old new
  step_leads next s = record {
    tokens = t ++ s.tokens;
    wrote = Wrote-trans old mid new t s.tokens a s.wrote;
    to = subst (λ xs. Coming d total fs next xs n) (append_assoc w t s.tokens) s.to;
  }

  pub step_ends : (after : Place) → Steps d total fs (End after) (w ++ t) n mid new → (ts : List Token) × Wrote old new ts × Behind d total fs after.rest.now after.containers.now (w ++ ts) n
  step_ends after s = (
    t ++ s.tokens,
    Wrote-trans old mid new t s.tokens a s.wrote,
    subst (λ xs. Behind d total fs after.rest.now after.containers.now xs n) (append_assoc w t s.tokens) s.to,
  )

-- ---- the loop

-- a value is to come, so many were written, and these tokens of the whole
pub record Running (d : DataItem) (total : ℕ) (fs : List Frame) (place : Place) (old new : Written) (done : ℕ) : Type 0 where
  pub tokens : List Token
  pub wrote : Wrote old new tokens
  pub left : ℕ
  pub coming : Coming d total fs place tokens left
  pub count : done + left ≡ items_in d

pub running_first : (d : DataItem) (value behind : List ℕ) (fs : List Frame) (place : Place) (old : Written) → BeginsWithItem d value behind → fs ≡ [] → place.rest.now ≡ value
    → place.containers.now ≡ extents d → Running d (length value) fs place old old 0
running_first d value behind fs place old b none r l =
    let first : Coming d (length value) [] place [] (items_in d) = record {
      value = d;
      part = record {
        mid = behind;
        post = [];
        holds = record { begins = record { is_item = b.is_item; encoded = r ∙ b.encoded }; listed = l ∙ sym (append-nil (extents d)) };
        stands = record { at = 0; stands = whole; is_at = omega (arith, ap length r) };
      };
      outside = 0;
      all = omega arith;
      ends = λ j is. (j, is, refl);
    } in
    record {
      tokens = [];
      wrote = Wrote-nil old;
      left = items_in d;
      coming = subst (λ ls. Coming d (length value) ls place [] (items_in d)) (sym none) first;
      count = omega arith;
    }

pub running_next : (d : DataItem) (total : ℕ) (fs fs2 fs3 : List Frame) (place behind next : Place) (old cur mid new : Written) (done more : ℕ) (r : Running d total fs place old cur done)
    (w : Begun d total fs2 behind r.tokens r.left cur mid) (l : Leads d total fs3 (Some next) (r.tokens ++ w.tokens) w.left mid new) → more ≡ suc done → Running d total fs3 next old new more
running_next d total fs fs2 fs3 place behind next old cur mid new done more r w l n =
    record {
      tokens = (r.tokens ++ w.tokens) ++ l.tokens;
      wrote = Wrote-trans old mid new (r.tokens ++ w.tokens) l.tokens (Wrote-trans old cur mid r.tokens w.tokens r.wrote w.wrote) l.wrote;
      left = w.left;
      coming = l.to;
      count = omega (arith, r.count, w.fewer);
    }

pub running_last : (d : DataItem) (total : ℕ) (fs fs2 fs3 : List Frame) (place behind : Place) (old cur mid new : Written) (done : ℕ) (r : Running d total fs place old cur done)
    (w : Begun d total fs2 behind r.tokens r.left cur mid) (l : Leads d total fs3 None (r.tokens ++ w.tokens) w.left mid new) → (j : Json) × IsItemJson d j × Wrote old new (json_tokens j)
running_last d total fs fs2 fs3 place behind old cur mid new done r w l =
    let wrote = Wrote-trans old mid new (r.tokens ++ w.tokens) l.tokens (Wrote-trans old cur mid r.tokens w.tokens r.wrote w.wrote) l.wrote in
    (l.to.0, l.to.1, subst (Wrote old new) l.to.2 wrote)

-- there are no more values than bytes
pub not_running : (d : DataItem) (value behind : List ℕ) (fs : List Frame) (place : Place) (old new : Written) (done : ℕ) → BeginsWithItem d value behind → length value ≤ done
    → Running d (length value) fs place old new done → ⊥
not_running d value behind fs place old new done b enough r =
    omega (arith, r.count, r.coming.all, some_items r.coming.value, few_items d, ap length b.encoded, length-append (encoding d) behind)

pub memory_error : (d : DataItem) (e : ShowError) → IsMemory e → IsJsonError d e
memory_error d (Reserved n) h = absurd h
memory_error d e h = h
