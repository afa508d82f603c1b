-- The link that a path goes on behind.
use Rattle.std.proofs.Common.{◌≡◌, inl, inr, ℕ, suc, ◌+◌, ◌<◌, ◌==◌, ltb, List, [], ◌∷◌, length, Option, Some, None, Result, Ok, Err, refl, sym, ap, ap₂, subst, ◌∙◌, arith}
use Rattle.std.specs.Borrow.{Bor}
use Rattle.std.specs.List.{position_or_len, before_first, after_first}
use Rattle.std.proofs.lemmas.Bool.{cases_Bool}
use Rattle.ipld_cid.specs.Cid.{Link}
use Rattle.ipld_cid.specs.Bytes.{IsCid}
use Rattle.ipld_tree.specs.Path.{parts_of, segments}
use Rattle.ipld_tree.proofs.Paths.{cut_at, not_cut}
use Rattle.dag_cbor_format.specs.ItemHeads.{BeginsWith}
use Rattle.dag_cbor_format.specs.declared.item.ItemHead.{ItemHead}
use Rattle.dag_cbor_format.specs.declared.item.ItemHead.TheVariants as begin
use Rattle.ipld_show.specs.AtPath.{AtPath, found, no_segment, not_a_container, at_segment, then_at, at_segments, LeadsTo}
use Rattle.ipld_show.specs.DataItem.{DataItem, null, boolean, integer, float, text_string, byte_string, link, list, map, IsDataItem, BeginsWithItem}
use Rattle.ipld_show.specs.OnPath.{link_in, if_reached, link_first, link_along, IsLinkOr, IsLinkOnPath}
use Rattle.ipld_show.specs.Skipping.{parts_in, LeadsBehind}
use Rattle.ipld_show.specs.declared.error.ShowError.{ShowError}
use Rattle.ipld_show.specs.declared.path.LinkOnPath.{LinkOnPath}
use Rattle.ipld_show.proofs.Items.{head_is}
use Rattle.ipld_show.proofs.Skips.{ReachedFrom, reached_same, stopped_at_part, stopped_at_end}

-- ---- whether an item is a link

-- another head is that of no link
pub no_link : (d : DataItem) (value behind : List ℕ) (h : ItemHead) (rest : List ℕ) → BeginsWithItem d value behind → BeginsWith h value rest → ((b : Bor (List ℕ)) → h ≡ begin.Link b → ⊥) → link_in d ≡ None
no_link d value behind begin.Null rest b r n = ap link_in (head_is d value behind b begin.Null rest r).0
no_link d value behind (begin.Bool x) rest b r n = ap link_in (head_is d value behind b (begin.Bool x) rest r).0
no_link d value behind (begin.Integer x) rest b r n = ap link_in (head_is d value behind b (begin.Integer x) rest r).0
no_link d value behind (begin.Float x) rest b r n = ap link_in (head_is d value behind b (begin.Float x) rest r).1
no_link d value behind (begin.Str x) rest b r n = ap link_in (head_is d value behind b (begin.Str x) rest r).0
no_link d value behind (begin.Bytes x) rest b r n = ap link_in (head_is d value behind b (begin.Bytes x) rest r).0
no_link d value behind (begin.Link x) rest b r n = absurd (n x refl)
no_link d value behind (begin.List x) rest b r n = ap link_in (head_is d value behind b (begin.List x) rest r).1
no_link d value behind (begin.Map x) rest b r n = ap link_in (head_is d value behind b (begin.Map x) rest r).1

-- this is that of a link
pub link_head : (d : DataItem) (value behind : List ℕ) (c : Bor (List ℕ)) (rest : List ℕ) → BeginsWithItem d value behind → BeginsWith (begin.Link c) value rest
    → (l : Link) × (link_in d ≡ Some l) × IsCid 64 c.now l
link_head d value behind c rest b r =
    let i = head_is d value behind b (begin.Link c) rest r in
    let h : IsDataItem (link c.now i.0) = subst IsDataItem i.1 b.is_item in
    (i.0, ap link_in i.1, h.1)

-- ---- one segment more

module _ (before : ℕ) (part : List ℕ) (parts : List (List ℕ)) (d : DataItem) where
  then_found : (a : AtPath) (e : DataItem) → then_at (λ x. found x) a ≡ found e → a ≡ found e
  then_found (found x) e h = h
  then_found (no_segment n) e h = h
  then_found (not_a_container n) e h = h

  through_no_link : (x e : DataItem) → at_segment (suc before) part x ≡ found e → link_in x ≡ None
  through_no_link null e h = refl
  through_no_link (boolean b) e h = refl
  through_no_link (integer n) e h = refl
  through_no_link (float c) e h = refl
  through_no_link (text_string s) e h = refl
  through_no_link (byte_string b) e h = refl
  through_no_link (link c l) e h = absurd cc
  through_no_link (list ds) e h = refl
  through_no_link (map es) e h = refl

  same_found : (x y : DataItem) → found x ≡ found y → x ≡ y
  same_found x y e = cc

  not_reached : (next : DataItem → Option (Link × ℕ)) (a : AtPath) (passed : ℕ) (after : List ℕ) (error : ShowError) → LeadsBehind (then_at (λ x. found x) a) passed after (Err error) → if_reached next a ≡ None
  not_reached next (found x) passed after error h = absurd h
  not_reached next (no_segment n) passed after error h = refl
  not_reached next (not_a_container n) passed after error h = refl

  passes_none : (e : DataItem) → found d ≡ found e → link_along before (parts_in parts) d ≡ link_along (before + 0) (parts_in parts) e
  passes_none e h =
      let same : before ≡ before + 0 = omega arith in
      ap₂ (λ (n : ℕ) (x : DataItem). link_along n (parts_in parts) x) same (same_found d e h)

  passes_one : (e : DataItem) → then_at (λ x. found x) (at_segment (suc before) part d) ≡ found e → link_along before (part ∷ parts_in parts) d ≡ link_along (before + 1) (parts_in parts) e
  passes_one e h =
      let at = then_found (at_segment (suc before) part d) e h in
      let one : suc before ≡ before + 1 = omega arith in
      ap (λ (o : Option Link). link_first o before (if_reached (link_along (suc before) (parts_in parts)) (at_segment (suc before) part d))) (through_no_link d e at)
      ∙ ap (if_reached (link_along (suc before) (parts_in parts))) at ∙ ap (λ (n : ℕ). link_along n (parts_in parts) e) one

  pub passes : (e : DataItem) → at_segments before (parts_in (part ∷ [])) d ≡ found e → link_along before (parts_in (part ∷ parts)) d ≡ link_along (before + length (parts_in (part ∷ []))) (parts_in parts) e
  passes e =
      elim (cases_Bool (ltb 0 (length part))) [
        | inl some ↦ rw some (passes_one e)
        | inr none ↦ rw none (passes_none e)
      ]

  pub stops : (passed : ℕ) (after : List ℕ) (error : ShowError) → LeadsBehind (at_segments before (parts_in (part ∷ [])) d) passed after (Err error) → link_along before (parts_in (part ∷ parts)) d ≡ link_first (link_in d) before None
  stops passed after error =
      elim (cases_Bool (ltb 0 (length part))) [
        | inl some ↦ rw some (λ h. ap (link_first (link_in d) before) (not_reached (link_along (suc before) (parts_in parts)) (at_segment (suc before) part d) passed after error h))
        | inr none ↦ rw none (λ h. absurd h)
      ]

-- ---- along a path

-- as far as the path was followed, it goes on behind no link
pub record OnWay (d : DataItem) (path value rest : List ℕ) (before : ℕ) : Type 0 where
  pub reached : ReachedFrom d path value rest before
  pub same : link_along 0 (segments path) d ≡ link_along before (segments rest) reached.inner

pub on_way_first : (d : DataItem) (path block behind : List ℕ) → BeginsWithItem d block behind → OnWay d path block path 0
on_way_first d path block behind b = record { reached = record { inner = d; more = behind; begins = b; same = refl }; same = refl }

-- what an error says, where there is no link
link_or_error : (d : DataItem) (path : List ℕ) (o : Option Link) (before : ℕ) (error : ShowError) (r : Result (Option LinkOnPath) ShowError) → link_along 0 (segments path) d ≡ link_first o before None
    → LeadsTo (at_segments 0 (segments path) d) (Err error) → IsLinkOr o before error r → IsLinkOnPath d path r
link_or_error d path (Some l) before error (Ok (Some on)) same stopped h = same ∙ ap₂ (λ (x : Link) (n : ℕ). Some (x, n)) (sym h.0) (sym h.1)
link_or_error d path (Some l) before error (Ok None) same stopped h = absurd h
link_or_error d path (Some l) before error (Err given) same stopped h = absurd h
link_or_error d path None before error (Ok (Some on)) same stopped h = absurd h
link_or_error d path None before error (Ok None) same stopped h = absurd h
link_or_error d path None before error (Err given) same stopped h = (same, subst (λ (e : ShowError). LeadsTo (at_segments 0 (segments path) d) (Err e)) (sym h) stopped)

pub entered : (a : AtPath) (passed : ℕ) (after : List ℕ) (q : Bor (List ℕ) × ℕ) → LeadsBehind a passed after (Ok q) → (e : DataItem) × (a ≡ found e) × (q.1 ≡ passed) × BeginsWithItem e q.0.now after
entered (found e) passed after q h = (e, refl, h.0, h.1)
entered (no_segment number) passed after q h = absurd h
entered (not_a_container number) passed after q h = absurd h

module _ (d : DataItem) (path value rest front back : List ℕ) (before : ℕ) (w : OnWay d path value rest before)
    (cut : (front ≡ before_first (λ b. b == 47) rest) × (back ≡ after_first (λ b. b == 47) rest) × (position_or_len (λ b. b == 47) rest < length rest)) where
  parts : parts_of rest ≡ front ∷ parts_of back
  parts = rw (cut.0, cut.1) (cut_at rest cut.2)

  pub along : link_along 0 (segments path) d ≡ link_along before (parts_in (front ∷ parts_of back)) w.reached.inner
  along = w.same ∙ ap (λ (ps : List (List ℕ)). link_along before (parts_in ps) w.reached.inner) parts

  pub on_way : (after : List ℕ) (q : Bor (List ℕ) × ℕ) → LeadsBehind (at_segments before (parts_in (front ∷ [])) w.reached.inner) (before + length (parts_in (front ∷ []))) after (Ok q)
      → OnWay d path q.0.now back q.1
  on_way after q h =
      let e = entered (at_segments before (parts_in (front ∷ [])) w.reached.inner) (before + length (parts_in (front ∷ []))) after q h in
      record {
        reached = record { inner = e.0; more = after; begins = e.3; same = reached_same d path value rest front back before w.reached cut q e.0 e.1 e.2 };
        same = along ∙ passes before front (parts_of back) w.reached.inner e.0 e.1 ∙ ap (λ (n : ℕ). link_along n (segments back) e.0) (sym e.2);
      }

  pub link_at_part : (after : List ℕ) (error : ShowError) (r : Result (Option LinkOnPath) ShowError)
      → LeadsBehind (at_segments before (parts_in (front ∷ [])) w.reached.inner) (before + length (parts_in (front ∷ []))) after (Err error)
      → IsLinkOr (link_in w.reached.inner) before error r → IsLinkOnPath d path r
  link_at_part after error r h o =
      link_or_error d path (link_in w.reached.inner) before error r (along ∙ stops before front (parts_of back) w.reached.inner (before + length (parts_in (front ∷ []))) after error h)
      (stopped_at_part d path value rest front back before w.reached cut after error h) o

module _ (d : DataItem) (path value rest : List ℕ) (before : ℕ) (w : OnWay d path value rest before) (none : position_or_len (λ b. b == 47) rest ≡ length rest) where
  last : link_along 0 (segments path) d ≡ link_along before (parts_in (rest ∷ [])) w.reached.inner
  last = w.same ∙ ap (λ (ps : List (List ℕ)). link_along before (parts_in ps) w.reached.inner) (not_cut rest none)

  last_at : at_segments 0 (segments path) d ≡ at_segments before (parts_in (rest ∷ [])) w.reached.inner
  last_at = w.reached.same ∙ ap (λ (ps : List (List ℕ)). at_segments before (parts_in ps) w.reached.inner) (not_cut rest none)

  pub no_link_at_end : (passed : ℕ) (after : List ℕ) (q : Bor (List ℕ) × ℕ) → LeadsBehind (at_segments before (parts_in (rest ∷ [])) w.reached.inner) passed after (Ok q) → IsLinkOnPath d path (Ok None)
  no_link_at_end passed after q h =
      let e = entered (at_segments before (parts_in (rest ∷ [])) w.reached.inner) passed after q h in
      (last ∙ passes before rest [] w.reached.inner e.0 e.1, e.0, last_at ∙ e.1)

  pub link_at_end : (passed : ℕ) (after : List ℕ) (error : ShowError) (r : Result (Option LinkOnPath) ShowError) → LeadsBehind (at_segments before (parts_in (rest ∷ [])) w.reached.inner) passed after (Err error)
      → IsLinkOr (link_in w.reached.inner) before error r → IsLinkOnPath d path r
  link_at_end passed after error r h o =
      link_or_error d path (link_in w.reached.inner) before error r (last ∙ stops before rest [] w.reached.inner passed after error h)
      (stopped_at_end d path value rest before w.reached none passed after error h) o
