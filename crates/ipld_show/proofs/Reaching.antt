-- Where a path leads, and how far it is followed.
use Rattle.std.proofs.Common.{◌≡◌, inl, inr, ◌⊎◌, ℕ, zero, suc, ◌+◌, ◌-◌, ◌<◌, ◌==◌, eqb, ltb, Bool, true, false, cond, List, [], ◌∷◌, ◌++◌, length, take, drop, Option, Some, None, Result, Ok, Err, refl, sym, ap, ap₂, subst, ◌∙◌, append_assoc, append-nil, bytes_eq, arith}
use Rattle.std.specs.Prelude.{MatchResult}
use Rattle.std.specs.Borrow.{Bor}
use Rattle.std.specs.List.{position_or_len, before_first, after_first}
use Rattle.std.proofs.lemmas.Bool.{cases_Bool}
use Rattle.std.proofs.lemmas.List.{length-append, take-append-drop, drop_at}
use Rattle.ipld_cid.specs.Cid.{Link}
use Rattle.ipld_tree.specs.Index.{number_of}
use Rattle.ipld_tree.specs.Path.{parts_of, segments}
use Rattle.ipld_tree.proofs.Paths.{cut_at, not_cut}
use Rattle.dag_cbor_format.specs.declared.major.Major.TheVariants.{List as Array, Map}
use Rattle.dag_cbor_format.specs.Head.{head}
use Rattle.ipld_show.specs.AfterPath.{after_item, after_numbered, after_value, after_segment, after_found, after_segments}
use Rattle.ipld_show.specs.AtPath.{AtPath, found, no_segment, not_a_container, item_at, item_numbered, value_under, if_found, at_segment, then_at, at_segments}
use Rattle.ipld_show.specs.DataItem.{DataItem, null, boolean, integer, float, text_string, byte_string, link, list, map, DataItems, no_items, item, DataEntries, no_entries, entry, item_count, entry_count, string_encoding, encoding, items_encoding, entries_encoding, BeginsWithItem}
use Rattle.ipld_show.specs.OnPath.{link_in, link_along}
use Rattle.ipld_show.specs.Reach.{BeginsWithSegment, Reaches, IsReached, IsLinkPlaceOr}
use Rattle.ipld_show.specs.Skipping.{parts_in, LeadsBehind}
use Rattle.ipld_show.specs.declared.error.ShowError.{ShowError}
use Rattle.ipld_show.specs.declared.at_path.ValuePlace.{ValuePlace}
use Rattle.ipld_show.proofs.Skips.{reached_same}
use Rattle.ipld_show.proofs.Links.{OnWay, entered, along, passes, link_at_part, link_at_end}

-- ---- one segment

same_found : (x y : DataItem) → found x ≡ found y → x ≡ y
same_found x y e = cc

some_found : (number : ℕ) (o : Option DataItem) (x : DataItem) → if_found number o ≡ found x → o ≡ Some x
some_found number None x e = absurd cc
some_found number (Some d) x e = ap (λ (y : DataItem). Some y) (same_found d x e)

-- the bytes before an item, and the item with what follows it
Front : (all : List ℕ) (x : DataItem) (after : List ℕ) → Type 0
Front all x after = (front : List ℕ) × (all ≡ front ++ (encoding x ++ after))

-- with other bytes before them
behind_bytes : (first all : List ℕ) (x : DataItem) (after : List ℕ) → Front all x after → Front (first ++ all) x after
unfolding Front
behind_bytes first all x after f = (first ++ f.0, ap (λ (xs : List ℕ). first ++ xs) f.1 ∙ sym (append_assoc first f.0 (encoding x ++ after)))

none_before : (x : DataItem) (after : List ℕ) → Front (encoding x ++ after) x after
unfolding Front
none_before x after = ([], refl)

before_item : (n : ℕ) (ds : DataItems) (x : DataItem) → item_at n ds ≡ Some x → Front (items_encoding ds) x (after_item n ds)
before_item n no_items x e = absurd cc
before_item zero (item d ds) x e =
    let same : d ≡ x = cc in
    subst (λ (y : DataItem). Front (encoding d ++ items_encoding ds) y (items_encoding ds)) same (none_before d (items_encoding ds))
before_item (suc n) (item d ds) x e = behind_bytes (encoding d) (items_encoding ds) x (after_item n ds) (before_item n ds x e)

before_numbered : (o : Option ℕ) (ds : DataItems) (x : DataItem) → item_numbered o ds ≡ Some x → Front (items_encoding ds) x (after_numbered o ds)
before_numbered None ds x e = absurd cc
before_numbered (Some n) ds x e = before_item n ds x e

-- a value under the key of the first entry, or a later one
value_chosen : (key : List ℕ) (d : DataItem) (es : DataEntries) (x : DataItem) → (value_under key es ≡ Some x → Front (entries_encoding es) x (after_value key es))
    → (b : Bool) → cond b (Some d) (value_under key es) ≡ Some x → Front (encoding d ++ entries_encoding es) x (cond b (entries_encoding es) (after_value key es))
value_chosen key d es x later true h =
    let same : d ≡ x = cc in
    subst (λ (y : DataItem). Front (encoding d ++ entries_encoding es) y (entries_encoding es)) same (none_before d (entries_encoding es))
value_chosen key d es x later false h = behind_bytes (encoding d) (entries_encoding es) x (after_value key es) (later h)

before_value : (key : List ℕ) (es : DataEntries) (x : DataItem) → value_under key es ≡ Some x → Front (entries_encoding es) x (after_value key es)
before_value key no_entries x e = absurd cc
before_value key (entry k d es) x e =
    behind_bytes (string_encoding k) (encoding d ++ entries_encoding es) x (after_value key (entry k d es))
    (value_chosen key d es x (λ h. before_value key es x h) (bytes_eq key k) e)

before_segment : (number : ℕ) (s : List ℕ) (d x : DataItem) → at_segment number s d ≡ found x → Front (encoding d) x (after_segment s d)
before_segment number s null x e = absurd cc
before_segment number s (boolean b) x e = absurd cc
before_segment number s (integer n) x e = absurd cc
before_segment number s (float c) x e = absurd cc
before_segment number s (text_string t) x e = absurd cc
before_segment number s (byte_string b) x e = absurd cc
before_segment number s (link c l) x e = absurd cc
before_segment number s (list ds) x e =
    behind_bytes (head Array (item_count ds)) (items_encoding ds) x (after_numbered (number_of s) ds)
    (before_numbered (number_of s) ds x (some_found number (item_numbered (number_of s) ds) x e))
before_segment number s (map es) x e =
    behind_bytes (head Map (entry_count es)) (entries_encoding es) x (after_value s es) (before_value s es x (some_found number (value_under s es) x e))

-- ---- segments, one after another

through : (next : DataItem → AtPath) (a : AtPath) (e : DataItem) → then_at next a ≡ found e → (x : DataItem) × (a ≡ found x) × (next x ≡ found e)
through next (found x) e h = (x, refl, h)
through next (no_segment n) e h = absurd cc
through next (not_a_container n) e h = absurd cc

-- an item in an item that is in another
inner_front : (all : List ℕ) (x e : DataItem) (after inner : List ℕ) → Front all x after → Front (encoding x) e inner → Front all e (inner ++ after)
unfolding Front
inner_front all x e after inner f g =
    let joined : encoding x ++ after ≡ g.0 ++ (encoding e ++ (inner ++ after)) =
    ap (λ (xs : List ℕ). xs ++ after) g.1 ∙ append_assoc g.0 (encoding e ++ inner) after ∙ ap (λ (xs : List ℕ). g.0 ++ xs) (append_assoc (encoding e) inner after) in
    (f.0 ++ g.0, f.1 ∙ ap (λ (xs : List ℕ). f.0 ++ xs) joined ∙ sym (append_assoc f.0 g.0 (encoding e ++ (inner ++ after))))

before_segments : (n : ℕ) (ss : List (List ℕ)) (d e : DataItem) → at_segments n ss d ≡ found e → Front (encoding d) e (after_segments n ss d)
unfolding Front
before_segments n [] d e h = ([], ap encoding (same_found d e h) ∙ sym (append-nil (encoding e)))
before_segments n (s ∷ ss) d e h =
    let t = through (at_segments (suc n) ss) (at_segment (suc n) s d) e h in
    let after : after_found (after_segments (suc n) ss) (at_segment (suc n) s d) ≡ after_segments (suc n) ss t.0 = ap (after_found (after_segments (suc n) ss)) t.1 in
    let f = inner_front (encoding d) t.0 e (after_segment s d) (after_segments (suc n) ss t.0) (before_segment (suc n) s d t.0 t.1) (before_segments (suc n) ss t.0 e t.2) in
    (f.0, f.1 ∙ ap (λ (xs : List ℕ). f.0 ++ (encoding e ++ (xs ++ after_segment s d))) (sym after))

joined : (n k : ℕ) (xs ys : List (List ℕ)) → k ≡ suc n + length xs
    → ((e : DataItem) → at_segments (suc n) (xs ++ ys) e ≡ then_at (at_segments (suc n + length xs) ys) (at_segments (suc n) xs e))
    → (a : AtPath) → then_at (at_segments (suc n) (xs ++ ys)) a ≡ then_at (at_segments k ys) (then_at (at_segments (suc n) xs) a)
joined n k xs ys same h (found e) = h e ∙ ap (λ (j : ℕ). then_at (at_segments j ys) (at_segments (suc n) xs e)) (sym same)
joined n k xs ys same h (no_segment number) = refl
joined n k xs ys same h (not_a_container number) = refl

segments-append : (n : ℕ) (xs ys : List (List ℕ)) (d : DataItem) → at_segments n (xs ++ ys) d ≡ then_at (at_segments (n + length xs) ys) (at_segments n xs d)
segments-append n [] ys d = let same : n ≡ n + 0 = omega arith in ap (λ (k : ℕ). at_segments k ys d) same
segments-append n (s ∷ xs) ys d = joined n (n + length (s ∷ xs)) xs ys (omega arith) (λ e. segments-append (suc n) xs ys e) (at_segment (suc n) s d)

joined_after : (n k : ℕ) (xs ys : List (List ℕ)) (e : DataItem) → k ≡ suc n + length xs
    → ((x : DataItem) → at_segments (suc n) xs x ≡ found e → after_segments (suc n) (xs ++ ys) x ≡ after_segments (suc n + length xs) ys e ++ after_segments (suc n) xs x)
    → (a : AtPath) → then_at (at_segments (suc n) xs) a ≡ found e → after_found (after_segments (suc n) (xs ++ ys)) a ≡ after_segments k ys e ++ after_found (after_segments (suc n) xs) a
joined_after n k xs ys e same h (found x) g = h x g ∙ ap (λ (j : ℕ). after_segments j ys e ++ after_segments (suc n) xs x) (sym same)
joined_after n k xs ys e same h (no_segment number) g = absurd cc
joined_after n k xs ys e same h (not_a_container number) g = absurd cc

after-append : (n : ℕ) (xs ys : List (List ℕ)) (d e : DataItem) → at_segments n xs d ≡ found e → after_segments n (xs ++ ys) d ≡ after_segments (n + length xs) ys e ++ after_segments n xs d
after-append n [] ys d e h =
    let same : n ≡ n + 0 = omega arith in
    ap₂ (λ (k : ℕ) (x : DataItem). after_segments k ys x) same (same_found d e h) ∙ sym (append-nil (after_segments (n + 0) ys e))
after-append n (s ∷ xs) ys d e h =
    let k = n + length (s ∷ xs) in
    ap (λ (zs : List ℕ). zs ++ after_segment s d) (joined_after n k xs ys e (omega arith) (λ x g. after-append (suc n) xs ys x e g) (at_segment (suc n) s d) h)
    ∙ append_assoc (after_segments k ys e) (after_found (after_segments (suc n) xs) (at_segment (suc n) s d)) (after_segment s d)

-- the first part of a path, and the others
first_part : (part : List ℕ) (parts : List (List ℕ)) → parts_in (part ∷ parts) ≡ parts_in (part ∷ []) ++ parts_in parts
first_part part parts =
    elim (cases_Bool (ltb 0 (length part))) [
      | inl some ↦ rw some refl
      | inr none ↦ rw none refl
    ]

-- ---- along a path

-- as far as the path was followed, it leads by these segments to the bytes `value`
pub record Reaching (d : DataItem) (path behind value rest : List ℕ) (before : ℕ) : Type 0 where
  pub way : OnWay d path value rest before
  pub followed : List (List ℕ)
  pub split : segments path ≡ followed ++ segments rest
  pub count : length followed ≡ before
  pub leads : at_segments 0 followed d ≡ found way.reached.inner
  pub left : way.reached.more ≡ after_segments 0 followed d ++ behind
  pub begun : List ℕ
  pub cut : path ≡ begun ++ rest

pub reaching_first : (d : DataItem) (path bytes behind : List ℕ) → BeginsWithItem d bytes behind → Reaching d path behind bytes path 0
reaching_first d path bytes behind b = record {
  way = record { reached = record { inner = d; more = behind; begins = b; same = refl }; same = refl };
  followed = [];
  split = refl;
  count = refl;
  leads = refl;
  left = refl;
  begun = [];
  cut = refl;
}

module _ (d : DataItem) (path behind value rest : List ℕ) (before : ℕ) (r : Reaching d path behind value rest before) where
  -- these parts lead on, to this item
  leads_on : (ps : List (List ℕ)) (e : DataItem) → at_segments before ps r.way.reached.inner ≡ found e → at_segments 0 (r.followed ++ ps) d ≡ found e
  leads_on ps e h =
      let all : 0 + length r.followed ≡ before = omega (arith, r.count) in
      segments-append 0 r.followed ps d ∙ ap (then_at (at_segments (0 + length r.followed) ps)) r.leads
      ∙ ap (λ (n : ℕ). at_segments n ps r.way.reached.inner) all ∙ h

  left_on : (ps : List (List ℕ)) → after_segments before ps r.way.reached.inner ++ r.way.reached.more ≡ after_segments 0 (r.followed ++ ps) d ++ behind
  left_on ps =
      let inner = r.way.reached.inner in
      let count : 0 + length r.followed ≡ before = omega (arith, r.count) in
      let all : after_segments 0 (r.followed ++ ps) d ≡ after_segments before ps inner ++ after_segments 0 r.followed d =
      after-append 0 r.followed ps d inner r.leads ∙ ap (λ (n : ℕ). after_segments n ps inner ++ after_segments 0 r.followed d) count in
      ap (λ (xs : List ℕ). after_segments before ps inner ++ xs) r.left ∙ sym (append_assoc (after_segments before ps inner) (after_segments 0 r.followed d) behind)
      ∙ ap (λ (xs : List ℕ). xs ++ behind) (sym all)

  module _ (front back : List ℕ) (cut : (front ≡ before_first (λ b. b == 47) rest) × (back ≡ after_first (λ b. b == 47) rest) × (position_or_len (λ b. b == 47) rest < length rest)) where
    split_at_part : segments path ≡ (r.followed ++ parts_in (front ∷ [])) ++ segments back
    split_at_part =
        let parts : parts_of rest ≡ front ∷ parts_of back = rw (cut.0, cut.1) (cut_at rest cut.2) in
        r.split ∙ ap (λ (ps : List (List ℕ)). r.followed ++ parts_in ps) parts ∙ ap (λ (ps : List (List ℕ)). r.followed ++ ps) (first_part front (parts_of back))
        ∙ sym (append_assoc r.followed (parts_in (front ∷ [])) (segments back))

    cut_later : path ≡ (r.begun ++ take (position_or_len (λ b. b == 47) rest + 1) rest) ++ back
    cut_later =
        let n = position_or_len (λ b. b == 47) rest + 1 in
        r.cut ∙ ap (λ (xs : List ℕ). r.begun ++ xs) (sym (take-append-drop n rest) ∙ ap (λ (xs : List ℕ). take n rest ++ xs) (sym cut.1))
        ∙ sym (append_assoc r.begun (take n rest) back)

    pub reaching_on : (q : Bor (List ℕ) × ℕ)
        → LeadsBehind (at_segments before (parts_in (front ∷ [])) r.way.reached.inner) (before + length (parts_in (front ∷ []))) (after_segments before (parts_in (front ∷ [])) r.way.reached.inner ++ r.way.reached.more) (Ok q)
        → Reaching d path behind q.0.now back q.1
    reaching_on q h =
        let ps = parts_in (front ∷ []) in
        let after = after_segments before ps r.way.reached.inner ++ r.way.reached.more in
        let e = entered (at_segments before ps r.way.reached.inner) (before + length ps) after q h in
        record {
          way = record {
            reached = record { inner = e.0; more = after; begins = e.3; same = reached_same d path value rest front back before r.way.reached cut q e.0 e.1 e.2 };
            same = along d path value rest front back before r.way cut ∙ passes before front (parts_of back) r.way.reached.inner e.0 e.1 ∙ ap (λ (n : ℕ). link_along n (segments back) e.0) (sym e.2);
          };
          followed = r.followed ++ ps;
          split = split_at_part;
          count = length-append r.followed ps ∙ ap (λ (n : ℕ). n + length ps) r.count ∙ sym e.2;
          leads = leads_on ps e.0 e.1;
          left = left_on ps;
          begun = r.begun ++ take (position_or_len (λ b. b == 47) rest + 1) rest;
          cut = cut_later;
        }

  -- ---- the end

  module _ (bytes : List ℕ) (b : BeginsWithItem d bytes behind) where
    -- the place of an item that these segments lead to
    reaches : (followed : List (List ℕ)) (e : DataItem) (here : List ℕ) (k : ℕ) → segments path ≡ followed ++ segments (drop k path) → at_segments 0 followed d ≡ found e
        → BeginsWithItem e here (after_segments 0 followed d ++ behind) → (k ≡ length path) ⊎ (BeginsWithSegment (drop k path) × (l : Link) × (link_in e ≡ Some l))
        → Reaches d path bytes behind (record { offset = length bytes - length here; len = length (encoding e); rest = k })
    unfolding Front
    reaches followed e here k split leads h ends =
        let after = after_segments 0 followed d in
        let f = before_segments 0 followed d e leads in
        let all : bytes ≡ f.0 ++ (encoding e ++ (after ++ behind)) =
        b.encoded ∙ ap (λ (xs : List ℕ). xs ++ behind) f.1 ∙ append_assoc f.0 (encoding e ++ after) behind ∙ ap (λ (xs : List ℕ). f.0 ++ xs) (append_assoc (encoding e) after behind) in
        record {
          value = e;
          followed = followed;
          split = split;
          leads = leads;
          front = f.0;
          encoded = all;
          begins = omega (arith, ap length all, ap length h.encoded, length-append f.0 (encoding e ++ (after ++ behind)));
          size = refl;
          ends = ends;
        }

    placed_ok : (e : DataItem) (here : List ℕ) (k : ℕ) (given : Result ValuePlace ShowError)
        → Reaches d path bytes behind (record { offset = length bytes - length here; len = length (encoding e); rest = k })
        → MatchResult given (λ place. place ≡ record { offset = length bytes - length here; len = length (encoding e); rest = k }) (λ _. ⊥) → IsReached d path bytes behind given
    placed_ok e here k (Ok place) h is = subst (λ (p : ValuePlace). Reaches d path bytes behind p) (sym is) h
    placed_ok e here k (Err error) h is = absurd is

    pub reached_all : (none : position_or_len (λ b. b == 47) rest ≡ length rest) (passed : ℕ) (q : Bor (List ℕ) × ℕ) (given : Result ValuePlace ShowError)
        → LeadsBehind (at_segments before (parts_in (rest ∷ [])) r.way.reached.inner) passed (after_segments before (parts_in (rest ∷ [])) r.way.reached.inner ++ r.way.reached.more) (Ok q)
        → ((e : DataItem) (more : List ℕ) → BeginsWithItem e q.0.now more
        → MatchResult given (λ place. place ≡ record { offset = length bytes - length q.0.now; len = length (encoding e); rest = length path }) (λ _. ⊥))
        → IsReached d path bytes behind given
    reached_all none passed q given h place =
        let ps = parts_in (rest ∷ []) in
        let after = after_segments before ps r.way.reached.inner ++ r.way.reached.more in
        let e = entered (at_segments before ps r.way.reached.inner) passed after q h in
        let over : drop (length path) path ≡ [] = ap (drop (length path)) (sym (append-nil path)) ∙ drop_at path [] (length path) refl in
        let split : segments path ≡ (r.followed ++ ps) ++ segments (drop (length path) path) =
        r.split ∙ ap (λ (xs : List (List ℕ)). r.followed ++ parts_in xs) (not_cut rest none) ∙ sym (append-nil (r.followed ++ ps))
        ∙ ap (λ (xs : List ℕ). (r.followed ++ ps) ++ segments xs) (sym over) in
        placed_ok e.0 q.0.now (length path) given
        (reaches (r.followed ++ ps) e.0 q.0.now (length path) split (leads_on ps e.0 e.1)
        (subst (λ (xs : List ℕ). BeginsWithItem e.0 q.0.now xs) (left_on ps) e.3) (inl refl))
        (place e.0 after e.3)

    -- the rest of the path
    rest_is : drop (length path - length rest) path ≡ rest
    rest_is =
        let n : length path - length rest ≡ length r.begun = omega (arith, ap length r.cut, length-append r.begun rest) in
        ap (drop (length path - length rest)) r.cut ∙ drop_at r.begun rest (length path - length rest) (sym n)

    stopped : (error : ShowError) (o : Option Link) (given : Result ValuePlace ShowError) → o ≡ link_in r.way.reached.inner → BeginsWithSegment rest
        → IsLinkPlaceOr o (record { offset = length bytes - length value; len = length (encoding r.way.reached.inner); rest = length path - length rest }) error given
        → (o ≡ None → IsReached d path bytes behind (Err error)) → IsReached d path bytes behind given
    stopped error (Some l) (Ok place) is some p otherwise =
        let here : BeginsWithItem r.way.reached.inner value (after_segments 0 r.followed d ++ behind) =
        subst (λ (xs : List ℕ). BeginsWithItem r.way.reached.inner value xs) r.left r.way.reached.begins in
        subst (λ (given : ValuePlace). Reaches d path bytes behind given) (sym p)
        (reaches r.followed r.way.reached.inner value (length path - length rest) (r.split ∙ ap (λ (xs : List ℕ). r.followed ++ segments xs) (sym rest_is)) r.leads here
        (inr (subst (λ (xs : List ℕ). BeginsWithSegment xs) (sym rest_is) some, l, sym is)))
    stopped error (Some l) (Err given) is some p otherwise = absurd p
    stopped error None (Ok place) is some p otherwise = absurd p
    stopped error None (Err given) is some p otherwise = subst (λ (e : ShowError). IsReached d path bytes behind (Err e)) (sym p) (otherwise refl)

    slash_first : (c : ℕ) (cs : List ℕ) → c ≡ 47 → position_or_len (λ b. b == 47) (c ∷ cs) ≡ 0
    slash_first c cs e =
        let slash : eqb c 47 ≡ true = ap (λ (k : ℕ). eqb k 47) e in
        rw slash refl

    no_part : (part : List ℕ) (passed : ℕ) (after : List ℕ) (error : ShowError) → part ≡ [] → LeadsBehind (at_segments before (parts_in (part ∷ [])) r.way.reached.inner) passed after (Err error) → ⊥
    no_part part passed after error e h = subst (λ (xs : List ℕ). LeadsBehind (at_segments before (parts_in (xs ∷ [])) r.way.reached.inner) passed after (Err error)) e h

    begins_part : (xs front : List ℕ) → front ≡ before_first (λ b. b == 47) xs → position_or_len (λ b. b == 47) xs < length xs → (front ≡ [] → ⊥) → BeginsWithSegment xs
    begins_part [] front f within some = absurd (omega arith)
    begins_part (c ∷ cs) front f within some =
        (c, cs, refl, λ e. some (f ∙ ap (λ (n : ℕ). take n (c ∷ cs)) (slash_first c cs e)))

    begins_last : (xs : List ℕ) → position_or_len (λ b. b == 47) xs ≡ length xs → (xs ≡ [] → ⊥) → BeginsWithSegment xs
    begins_last [] none some = absurd (some refl)
    begins_last (c ∷ cs) none some =
        (c, cs, refl, λ e. let zero_is = slash_first c cs e in absurd (omega (arith, sym zero_is ∙ none)))

    pub stopped_in : (front back : List ℕ) (cut : (front ≡ before_first (λ b. b == 47) rest) × (back ≡ after_first (λ b. b == 47) rest) × (position_or_len (λ b. b == 47) rest < length rest))
        (after : List ℕ) (error : ShowError) (given : Result ValuePlace ShowError)
        → LeadsBehind (at_segments before (parts_in (front ∷ [])) r.way.reached.inner) (before + length (parts_in (front ∷ []))) after (Err error)
        → IsLinkPlaceOr (link_in r.way.reached.inner) (record { offset = length bytes - length value; len = length (encoding r.way.reached.inner); rest = length path - length rest }) error given
        → IsReached d path bytes behind given
    stopped_in front back cut after error given h p =
        stopped error (link_in r.way.reached.inner) given refl (begins_part rest front cut.0 cut.2 (λ e. no_part front (before + length (parts_in (front ∷ []))) after error e h)) p
        (λ none. link_at_part d path value rest front back before r.way cut after error (Err error) h (rw none refl))

    pub stopped_last : (none : position_or_len (λ b. b == 47) rest ≡ length rest) (passed : ℕ) (after : List ℕ) (error : ShowError) (given : Result ValuePlace ShowError)
        → LeadsBehind (at_segments before (parts_in (rest ∷ [])) r.way.reached.inner) passed after (Err error)
        → IsLinkPlaceOr (link_in r.way.reached.inner) (record { offset = length bytes - length value; len = length (encoding r.way.reached.inner); rest = length path - length rest }) error given
        → IsReached d path bytes behind given
    stopped_last none passed after error given h p =
        stopped error (link_in r.way.reached.inner) given refl (begins_last rest none (λ e. no_part rest passed after error e h)) p
        (λ shut. link_at_end d path value rest before r.way none passed after error (Err error) h (rw shut refl))
