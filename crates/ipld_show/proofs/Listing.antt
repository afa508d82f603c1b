-- The lists and maps of a value, listed as it is read.
use Rattle.std.proofs.Common.{◌≡◌, ◌⊎◌, inl, inr, ℕ, suc, ◌+◌, ◌-◌, ◌^◌, ◌<◌, List, [], ◌∷◌, ◌++◌, length, reverse, refl, sym, ap, subst, ◌∙◌, append_assoc, append-nil, length-append, arith}
use Rattle.std.specs.Prelude.{slice_set}
use Rattle.std.proofs.Math.Seq.{set-append_seam}
use Rattle.dag_cbor_format.specs.declared.item.ItemHead.{ItemHead}
use Rattle.dag_cbor_format.specs.declared.item.ItemHead.TheVariants as begin
use Rattle.ipld_show.specs.DataItem.{DataItem, encoding, BeginsWithItem}
use Rattle.ipld_show.specs.Extents.{extents, extent_before}
use Rattle.ipld_show.specs.ExtentsToCome.{encodings, all_extents, AllItems, ended, InOpen, PendingIn, Pending, ItemPending, Following}
use Rattle.ipld_show.specs.Heads.{IsHeadOf}
use Rattle.ipld_show.specs.Skipping.{items_within}
use Rattle.ipld_show.specs.declared.containers.Extent.{Extent}
use Rattle.ipld_show.specs.declared.containers.Open.{Open}
use Rattle.ipld_show.proofs.Skips.{long, Opens, Inside}
use Rattle.ipld_show.proofs.Trees.{reverse_pop}

-- ---- what begins

-- the extent of the list or map that begins, once it has ended
extent_ended : (size count : ℕ) (d : DataItem) (inner : List Extent) → size ≡ length (encoding d) → count ≡ suc (length inner) → extents d ≡ extent_before (length (encoding d)) inner
    → (record { size = size; count = count }) ∷ inner ≡ extents d
extent_ended size count d inner s c e =
    let one : List Extent = (record { size = size; count = count }) ∷ inner in
    let two : List Extent = (record { size = length (encoding d); count = count }) ∷ inner in
    let first : one ≡ two = ap (λ (n : ℕ). (record { size = n; count = count }) ∷ inner) s in
    first ∙ ap (λ (n : ℕ). (record { size = length (encoding d); count = n }) ∷ inner) c ∙ sym e

module _ (h : ItemHead) (d : DataItem) (after more : List ℕ) (opened : List Open) (containers all : List Extent) (i : Inside h d after more) (small : length after < 2 ^ 64)
    (p : Pending opened more (containers ++ extents d) all) where
  few : length i.items < 2 ^ 64
  few = omega (arith, ap length i.encoded, length-append (encodings i.items) more, long i.items)

  opens_innermost : (o : Open) (x : Extent) → Opens h → o.index ≡ length containers → o.start ≡ length (encoding d) + length more → o.items ≡ items_within h
      → PendingIn (o ∷ reverse opened) after (containers ++ x ∷ []) all
  opens_innermost o x b at start n =
      let inner = all_extents i.items in
      let listed : (containers ++ x ∷ []) ++ inner ≡ containers ++ x ∷ inner = append_assoc containers (x ∷ []) inner in
      let size : o.start - length more ≡ length (encoding d) = omega arith in
      let long : length (containers ++ x ∷ inner) ≡ length containers + suc (length inner) = length-append containers (x ∷ inner) in
      let count : length (containers ++ x ∷ inner) - o.index ≡ suc (length inner) = omega arith in
      let now : Extent = record { size = o.start - length more; count = length (containers ++ x ∷ inner) - o.index } in
      let put : ended o (length more) (containers ++ x ∷ inner) ≡ containers ++ now ∷ inner =
      ap (λ (k : ℕ). slice_set (containers ++ x ∷ inner) k now) at ∙ set-append_seam containers x inner now in
      let same : ended o (length more) ((containers ++ x ∷ []) ++ inner) ≡ containers ++ extents d =
      ap (ended o (length more)) listed ∙ put
      ∙ ap (λ (xs : List Extent). containers ++ xs) (extent_ended (o.start - length more) (length (containers ++ x ∷ inner) - o.index) d inner size count (i.listed b)) in
      record {
        items = i.items;
        mid = more;
        are_items = i.are_items;
        count = sym (n ∙ i.count few);
        encoded = i.encoded;
        outside = subst (λ xs. PendingIn (reverse opened) more xs all) (sym same) p;
      }

  -- a list or a map begins
  pub container_begins : (o : Open) (x : Extent) (opened2 : List Open) (containers2 : List Extent) → Opens h → o.index ≡ length containers → o.start ≡ length (encoding d) + length more
      → o.items ≡ items_within h → opened2 ≡ opened ++ o ∷ [] → containers2 ≡ containers ++ x ∷ [] → Pending opened2 after containers2 all
  container_begins o x opened2 containers2 b at start n eo ec =
      subst (λ os. PendingIn os after containers2 all) (sym (reverse_pop opened2 opened o eo))
      (subst (λ xs. PendingIn (o ∷ reverse opened) after xs all) (sym ec) (opens_innermost o x b at start n))

pub opens_either : (h : ItemHead) → ((n : ℕ) × (h ≡ begin.List n)) ⊎ ((n : ℕ) × (h ≡ begin.Map n)) → Opens h
opens_either h (inl e) = subst Opens (sym e.1) tt
opens_either h (inr e) = subst Opens (sym e.1) tt

-- a scalar, which is none
nothing_listed : (h : ItemHead) (d : DataItem) (after more : List ℕ) → IsHeadOf h d after more → (Opens h → ⊥) → (extents d ≡ []) × (after ≡ more)
nothing_listed begin.Null d after more i shut = (ap extents i.0, i.1)
nothing_listed (begin.Bool b) d after more i shut = (ap extents i.0, i.1)
nothing_listed (begin.Integer n) d after more i shut = (ap extents i.0, i.1)
nothing_listed (begin.Float bits) d after more i shut = (ap extents i.1, i.3)
nothing_listed (begin.Str s) d after more i shut = (ap extents i.0, i.1)
nothing_listed (begin.Bytes b) d after more i shut = (ap extents i.0, i.1)
nothing_listed (begin.Link b) d after more i shut = (ap extents i.1, i.2)
nothing_listed (begin.List n) d after more i shut = absurd (shut tt)
nothing_listed (begin.Map n) d after more i shut = absurd (shut tt)

pub no_container : (h : ItemHead) → ((n : ℕ) → h ≡ begin.List n → ⊥) → ((n : ℕ) → h ≡ begin.Map n → ⊥) → Opens h → ⊥
no_container begin.Null l m o = o
no_container (begin.Bool b) l m o = o
no_container (begin.Integer n) l m o = o
no_container (begin.Float bits) l m o = o
no_container (begin.Str s) l m o = o
no_container (begin.Bytes b) l m o = o
no_container (begin.Link b) l m o = o
no_container (begin.List n) l m o = l n refl
no_container (begin.Map n) l m o = m n refl

pub scalar_begins : (h : ItemHead) (d : DataItem) (after more : List ℕ) (opened : List Open) (containers all : List Extent) → IsHeadOf h d after more → (Opens h → ⊥)
    → Pending opened more (containers ++ extents d) all → Pending opened after containers all
scalar_begins h d after more opened containers all i shut p =
    let none = nothing_listed h d after more i shut in
    subst (λ xs. Pending opened xs containers all) (sym none.1)
    (subst (λ xs. Pending opened more xs all) (ap (λ xs. containers ++ xs) none.0 ∙ append-nil containers) p)

-- ---- what ends

module _ (o : Open) (outer : List Open) (rest : List ℕ) (containers all : List Extent) where
  ends_now : (items : List DataItem) (mid : List ℕ) → length items ≡ 0 → rest ≡ encodings items ++ mid → PendingIn outer mid (ended o (length mid) (containers ++ all_extents items)) all
      → PendingIn outer rest (ended o (length rest) containers) all
  ends_now [] mid none e p =
      subst (λ xs. PendingIn outer xs (ended o (length xs) containers) all) (sym e)
      (subst (λ xs. PendingIn outer mid (ended o (length mid) xs) all) (append-nil containers) p)
  ends_now (d ∷ items) mid none e p = absurd (omega arith)

  goes_on : (next : Open) (items : List DataItem) (mid : List ℕ) → AllItems items → length items ≡ suc next.items → next.index ≡ o.index → next.start ≡ o.start → rest ≡ encodings items ++ mid
      → PendingIn outer mid (ended o (length mid) (containers ++ all_extents items)) all
      → (d : DataItem) × (more : List ℕ) × BeginsWithItem d rest more × PendingIn (next ∷ outer) more (containers ++ extents d) all
  goes_on next [] mid are n at start e p = absurd (omega arith)
  goes_on next (d ∷ items) mid are n at start e p =
      let same : containers ++ (extents d ++ all_extents items) ≡ (containers ++ extents d) ++ all_extents items = sym (append_assoc containers (extents d) (all_extents items)) in
      let xs : List Extent = (containers ++ extents d) ++ all_extents items in
      let put : ended o (length mid) xs ≡ ended next (length mid) xs =
      ap (λ (k : ℕ). slice_set xs k (record { size = o.start - length mid; count = length xs - k })) (sym at)
      ∙ ap (λ (k : ℕ). slice_set xs next.index (record { size = k - length mid; count = length xs - next.index })) (sym start) in (
        d,
        encodings items ++ mid,
        record { is_item = are.0; encoded = e ∙ append_assoc (encoding d) (encodings items) mid },
        record {
          items = items;
          mid = mid;
          are_items = are.1;
          count = omega arith;
          encoded = refl;
          outside = subst (λ ys. PendingIn outer mid ys all) (ap (ended o (length mid)) same ∙ put) p;
        },
      )

module _ (opened left_open : List Open) (o : Open) (rest : List ℕ) (containers all : List Extent) (popped : opened ≡ left_open ++ o ∷ []) (p : Pending opened rest containers all) where
  innermost : InOpen o rest containers (λ mid xs. PendingIn (reverse left_open) mid xs all)
  innermost = subst (λ os. PendingIn os rest containers all) (reverse_pop opened left_open o popped) p

  -- the innermost has ended
  pub container_ends : (left : ℕ) (containers2 : List Extent) → left ≡ length rest → o.items ≡ 0 → containers2 ≡ ended o left containers → Pending left_open rest containers2 all
  container_ends left containers2 l none e =
      let i = innermost in
      subst (λ xs. Pending left_open rest xs all) (sym (e ∙ ap (λ (k : ℕ). ended o k containers) l))
      (ends_now o (reverse left_open) rest containers all i.items i.mid (i.count ∙ none) i.encoded i.outside)

  follows : (opened2 : List Open) (next : Open) → opened2 ≡ left_open ++ next ∷ [] → ItemPending opened2 rest containers all → Following opened2 rest containers all
  follows [] next e i = absurd (omega (arith, ap length e, length-append left_open (next ∷ [])))
  follows (x ∷ xs) next e i = i

  -- it goes on
  pub container_goes_on : (opened2 : List Open) (next : Open) → opened2 ≡ left_open ++ next ∷ [] → o.items ≡ suc next.items → next.index ≡ o.index → next.start ≡ o.start
      → Following opened2 rest containers all
  container_goes_on opened2 next e n at start =
      let i = innermost in
      let g = goes_on o (reverse left_open) rest containers all next i.items i.mid i.are_items (i.count ∙ n) at start i.encoded i.outside in
      follows opened2 next e
      (record { next = g.0; more = g.1; begins = g.2; pending = subst (λ os. PendingIn os g.1 (containers ++ extents g.0) all) (sym (reverse_pop opened2 left_open next e)) g.3 })

pub all_ended : (opened left_open : List Open) (rest : List ℕ) (containers all : List Extent) → opened ≡ [] → left_open ≡ [] → Pending opened rest containers all → Following left_open rest containers all
all_ended opened left_open rest containers all e f p = subst (λ os. Following os rest containers all) (sym f) (subst (λ os. Pending os rest containers all) e p)

-- ---- the whole

pub first_item : (d : DataItem) (value behind : List ℕ) (opened : List Open) (containers : List Extent) → opened ≡ [] → containers ≡ [] → BeginsWithItem d value behind
    → ItemPending opened value containers (extents d)
first_item d value behind opened containers eo ec b =
    record {
      next = d;
      more = behind;
      begins = b;
      pending = subst (λ os. Pending os behind (containers ++ extents d) (extents d)) (sym eo) (ap (λ xs. xs ++ extents d) ec);
    }

pub all_listed : (opened : List Open) (rest : List ℕ) (containers all : List Extent) → length opened ≡ 0 → Following opened rest containers all → containers ≡ all
all_listed [] rest containers all e f = f
all_listed (o ∷ os) rest containers all e f = absurd (omega arith)

pub item_follows : (opened : List Open) (rest : List ℕ) (containers all : List Extent) → 0 < length opened → Following opened rest containers all → ItemPending opened rest containers all
item_follows [] rest containers all e f = absurd (omega arith)
item_follows (o ∷ os) rest containers all e f = f
