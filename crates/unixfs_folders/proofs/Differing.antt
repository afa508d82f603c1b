-- No two entries of a listing have the same name.
use Rattle.std.proofs.Common.{◌≡◌, ◌<◌, ℕ, suc, true, List, [], ◌∷◌, ◌++◌, length, Option, Some, None, refl, sym, ap, subst, ◌∙◌, arith, drop}
use Rattle.std.specs.Prelude.{IfSome}
use Rattle.std.specs.Cmp.Lexicographic.{slice_cmp}
use Rattle.std.specs.Ordering.{nat_cmp, is_lt, ordering_reverse}
use Rattle.std.specs.declared.cmp.Ordering.{Ordering}
use Rattle.std.specs.declared.cmp.Ordering.TheVariants.{Less, Equal, Greater}
use Rattle.std.proofs.lemmas.Cmp.{nat_list_cmp_total}
use Rattle.ipld_cid.specs.Cid.{Link}
use Rattle.unixfs.specs.Files.{Hashing}
use Rattle.unixfs_folders.specs.Names.{comes_before}
use Rattle.unixfs_folders.specs.Folders.{EntryParts, SlotParts, FolderParts, plain, shard, AreEntries, AreSlots, IsFolder, Lacks, hash_of}
use Rattle.unixfs_folders.specs.Laws.{AllDiffer}
use Rattle.unixfs_folders.specs.Listing.{Waiting, IsLedTo, AllStand, and_entry, entries_of, and_shard, shards_of, IsVisit, Lists, lists_none, lists_more}
use Rattle.unixfs_folders.proofs.Listings.{led_split}

-- ---- names in order

is_less : (o : Ordering) → is_lt o ≡ true → o ≡ Less
is_less Less is = refl
is_less Equal is = absurd cc
is_less Greater is = absurd cc

not_less : (o : Ordering) → o ≡ ordering_reverse o → o ≡ Less → ⊥
not_less Less turned is = absurd cc
not_less Equal turned is = absurd cc
not_less Greater turned is = absurd cc

not_before : (name : List ℕ) → comes_before name name ≡ true → ⊥
unfolding comes_before
not_before name is = not_less (slice_cmp nat_cmp name name) (nat_list_cmp_total.antisymm name name) (is_less (slice_cmp nat_cmp name name) is)

before_too : (a b c : List ℕ) → comes_before a b ≡ true → comes_before b c ≡ true → comes_before a c ≡ true
unfolding comes_before
before_too a b c first second = ap is_lt (nat_list_cmp_total.trans a b c (is_less (slice_cmp nat_cmp a b) first) (is_less (slice_cmp nat_cmp b c) second))

-- the names after one that comes later
lacks_after : (name before : List ℕ) (es : List EntryParts) → comes_before name before ≡ true → AreEntries (Some before) es → Lacks es name
lacks_after name before [] earlier are = tt
lacks_after name before (e ∷ es) earlier are =
    let here = before_too name before e.name earlier are.1 in
    ((λ same. not_before name (subst (λ (n : List ℕ). comes_before name n ≡ true) same here)), lacks_after name e.name es here are.2)

lacks_first : (name : List ℕ) (es : List EntryParts) → AreEntries (Some name) es → Lacks es name
lacks_first name [] are = tt
lacks_first name (e ∷ es) are =
    ((λ same. not_before name (subst (λ (n : List ℕ). comes_before name n ≡ true) same are.1)), lacks_after name e.name es are.1 are.2)

pub plain_differ : (before : Option (List ℕ)) (es : List EntryParts) → AreEntries before es → AllDiffer es
plain_differ before [] are = tt
plain_differ before (e ∷ es) are = (lacks_first e.name es are.2, plain_differ (Some e.name) es are.2)

-- ---- paths that lead to names

abbrev AllLed : List ℕ → List EntryParts → Type 0
AllLed path [] = Unit {0}
AllLed path (e ∷ es) = IsLedTo path e.name × AllLed path es

abbrev NoneLed : List ℕ → List EntryParts → Type 0
NoneLed path [] = Unit {0}
NoneLed path (e ∷ es) = (IsLedTo path e.name → ⊥) × NoneLed path es

abbrev AllNoneLed : List Waiting → List EntryParts → Type 0
AllNoneLed [] es = Unit {0}
AllNoneLed (w ∷ ws) es = NoneLed w.path es × AllNoneLed ws es

-- no name is led to both
abbrev AreApart : List ℕ → List ℕ → Type 0
AreApart path other = (name : List ℕ) → IsLedTo path name → IsLedTo other name → ⊥

abbrev AllApart : List ℕ → List Waiting → Type 0
AllApart path [] = Unit {0}
AllApart path (w ∷ ws) = AreApart path w.path × AllApart path ws

abbrev ArePairs : List Waiting → Type 0
ArePairs [] = Unit {0}
ArePairs (w ∷ ws) = AllApart w.path ws × ArePairs ws

-- a name that is led to one path is led to the other
abbrev Extends : List ℕ → List ℕ → Type 0
Extends path other = (name : List ℕ) → IsLedTo other name → IsLedTo path name

abbrev AllExtend : List ℕ → List Waiting → Type 0
AllExtend path [] = Unit {0}
AllExtend path (w ∷ ws) = Extends path w.path × AllExtend path ws

-- ---- lists

lacks_both : (a b : List EntryParts) (name : List ℕ) → Lacks a name → Lacks b name → Lacks (a ++ b) name
lacks_both [] b name front back = back
lacks_both (e ∷ a) b name front back = (front.0, lacks_both a b name front.1 back)

lacks_led : (path name : List ℕ) (es : List EntryParts) → (IsLedTo path name → ⊥) → AllLed path es → Lacks es name
lacks_led path name [] other led = tt
lacks_led path name (e ∷ es) other led = ((λ same. other (subst (λ (n : List ℕ). IsLedTo path n) same led.0)), lacks_led path name es other led.1)

differ_both : (path : List ℕ) (a b : List EntryParts) → AllDiffer a → AllDiffer b → NoneLed path a → AllLed path b → AllDiffer (a ++ b)
differ_both path [] b front back none led = back
differ_both path (e ∷ a) b front back none led = (lacks_both a b e.name front.0 (lacks_led path e.name b none.0 led), differ_both path a b front.1 back none.1 led)

none_both : (path : List ℕ) (a b : List EntryParts) → NoneLed path a → NoneLed path b → NoneLed path (a ++ b)
none_both path [] b front back = back
none_both path (e ∷ a) b front back = (front.0, none_both path a b front.1 back)

none_extends : (path other : List ℕ) (es : List EntryParts) → Extends path other → NoneLed path es → NoneLed other es
none_extends path other [] extends none = tt
none_extends path other (e ∷ es) extends none = ((λ led. none.0 (extends e.name led)), none_extends path other es extends none.1)

none_apart : (path other : List ℕ) (es : List EntryParts) → AreApart path other → AllLed path es → NoneLed other es
none_apart path other [] apart led = tt
none_apart path other (e ∷ es) apart led = ((λ also. apart e.name led.0 also), none_apart path other es apart led.1)

-- the shards below the visited one
below_none : (path : List ℕ) (ws : List Waiting) (before entries : List EntryParts) → AllExtend path ws → NoneLed path before → AllNoneLed ws entries → AllNoneLed ws (before ++ entries)
below_none path [] before entries extend none own = tt
below_none path (w ∷ ws) before entries extend none own = (none_both w.path before entries (none_extends path w.path before extend.0 none) own.0, below_none path ws before entries extend.1 none own.1)

-- the others
others_none : (path : List ℕ) (ws : List Waiting) (before entries : List EntryParts) → AllApart path ws → AllNoneLed ws before → AllLed path entries → AllNoneLed ws (before ++ entries)
others_none path [] before entries apart none led = tt
others_none path (w ∷ ws) before entries apart none led = (none_both w.path before entries none.0 (none_apart path w.path entries apart.0 led), others_none path ws before entries apart.1 none.1 led)

all_none_both : (a b : List Waiting) (es : List EntryParts) → AllNoneLed a es → AllNoneLed b es → AllNoneLed (a ++ b) es
all_none_both [] b es front back = back
all_none_both (w ∷ a) b es front back = (front.0, all_none_both a b es front.1 back)

apart_both : (path : List ℕ) (a b : List Waiting) → AllApart path a → AllApart path b → AllApart path (a ++ b)
apart_both path [] b front back = back
apart_both path (w ∷ a) b front back = (front.0, apart_both path a b front.1 back)

apart_extends : (path other : List ℕ) (ws : List Waiting) → Extends path other → AllApart path ws → AllApart other ws
apart_extends path other [] extends apart = tt
apart_extends path other (w ∷ ws) extends apart = ((λ name led also. apart.0 name (extends name led) also), apart_extends path other ws extends apart.1)

pairs_both : (path : List ℕ) (a b : List Waiting) → ArePairs a → ArePairs b → AllExtend path a → AllApart path b → ArePairs (a ++ b)
pairs_both path [] b front back extend apart = back
pairs_both path (w ∷ a) b front back extend apart = (apart_both w.path a b front.0 (apart_extends path w.path b extend.0 apart), pairs_both path a b front.1 back extend.1 apart)

-- ---- one visit

-- what the entries and the shards below are to each other, and to the path
record AddsApart (path : List ℕ) (entries : List EntryParts) (below : List Waiting) : Type 0 where
  led : AllLed path entries
  extend : AllExtend path below
  differ : AllDiffer entries
  none : AllNoneLed below entries
  pairs : ArePairs below

two_slots : (path : List ℕ) (s t : ℕ) (name : List ℕ) → IsLedTo (path ++ s ∷ []) name → IsLedTo (path ++ t ∷ []) name → s ≡ t
two_slots path s t name led also =
    let one = led_split path s (hash_of name) led in
    let other = led_split path t (hash_of name) also in
    let both : s ∷ drop (length (path ++ s ∷ [])) (hash_of name) ≡ t ∷ drop (length (path ++ t ∷ [])) (hash_of name) = sym one.1 ∙ other.1 in
    cc

slots_apart : (path : List ℕ) (s t : ℕ) → s < t → AreApart (path ++ s ∷ []) (path ++ t ∷ [])
slots_apart path s t below = λ name led also. let same = two_slots path s t name led also in absurd (omega arith)

extends_slot : (path : List ℕ) (s : ℕ) → Extends path (path ++ s ∷ [])
extends_slot path s = λ name led. (led_split path s (hash_of name) led).0

-- the entries from a slot on are not led to a slot before it
none_before_by : (path : List ℕ) (slot : ℕ) (s : SlotParts) (es : List EntryParts) (o : Option (List ℕ)) → slot < s.slot → IfSome o (IsLedTo (path ++ s.slot ∷ [])) → NoneLed (path ++ slot ∷ []) es
    → NoneLed (path ++ slot ∷ []) (and_entry o s es)
none_before_by path slot s es None below led more = more
none_before_by path slot s es (Some name) below led more = ((λ also. slots_apart path slot s.slot below name also led), more)

none_before : (path : List ℕ) (slot least : ℕ) (ss : List SlotParts) → slot < least → AreSlots least ss → AllStand path ss → NoneLed (path ++ slot ∷ []) (entries_of ss)
none_before path slot least [] below are stand = tt
none_before path slot least (s ∷ ss) below are stand =
    let from = are.0 in
    none_before_by path slot s (entries_of ss) s.name (omega arith) stand.0 (none_before path slot (suc s.slot) ss (omega arith) are.3 stand.1)

apart_before_by : (path : List ℕ) (slot : ℕ) (s : SlotParts) (ws : List Waiting) (o : Option (List ℕ)) → slot < s.slot → AllApart (path ++ slot ∷ []) ws → AllApart (path ++ slot ∷ []) (and_shard path o s ws)
apart_before_by path slot s ws None below more = (slots_apart path slot s.slot below, more)
apart_before_by path slot s ws (Some name) below more = more

apart_before : (path : List ℕ) (slot least : ℕ) (ss : List SlotParts) → slot < least → AreSlots least ss → AllApart (path ++ slot ∷ []) (shards_of path ss)
apart_before path slot least [] below are = tt
apart_before path slot least (s ∷ ss) below are =
    let from = are.0 in
    apart_before_by path slot s (shards_of path ss) s.name (omega arith) (apart_before path slot (suc s.slot) ss (omega arith) are.3)

none_led_too : (path name : List ℕ) (e : EntryParts) (es : List EntryParts) (ws : List Waiting) → IsLedTo path name → e.name ≡ name → AllApart path ws → AllNoneLed ws es → AllNoneLed ws (e ∷ es)
none_led_too path name e es [] led is apart none = tt
none_led_too path name e es (w ∷ ws) led is apart none =
    (((λ also. apart.0 name led (subst (λ (n : List ℕ). IsLedTo w.path n) is also)), none.0), none_led_too path name e es ws led is apart.1 none.1)

lacks_none : (path name : List ℕ) (es : List EntryParts) → IsLedTo path name → NoneLed path es → Lacks es name
lacks_none path name [] led none = tt
lacks_none path name (e ∷ es) led none = ((λ same. none.0 (subst (λ (n : List ℕ). IsLedTo path n) (sym same) led)), lacks_none path name es led none.1)

slot_adds : (path : List ℕ) (s : SlotParts) (es : List EntryParts) (ws : List Waiting) (o : Option (List ℕ)) → IfSome o (IsLedTo (path ++ s.slot ∷ [])) → NoneLed (path ++ s.slot ∷ []) es → AllApart (path ++ s.slot ∷ []) ws
    → AddsApart path es ws → AddsApart path (and_entry o s es) (and_shard path o s ws)
slot_adds path s es ws None led none apart more = record {
  led = more.led;
  extend = (extends_slot path s.slot, more.extend);
  differ = more.differ;
  none = (none, more.none);
  pairs = (apart, more.pairs);
}
slot_adds path s es ws (Some name) led none apart more = record {
  led = ((led_split path s.slot (hash_of name) led).0, more.led);
  extend = more.extend;
  differ = (lacks_none (path ++ s.slot ∷ []) name es led none, more.differ);
  none = none_led_too (path ++ s.slot ∷ []) name (record { name = name; link = s.link; tsize = s.tsize }) es ws led refl apart more.none;
  pairs = more.pairs;
}

shard_adds : (path : List ℕ) (least : ℕ) (ss : List SlotParts) → AreSlots least ss → AllStand path ss → AddsApart path (entries_of ss) (shards_of path ss)
shard_adds path least [] are stand = record { led = tt; extend = tt; differ = tt; none = tt; pairs = tt }
shard_adds path least (s ∷ ss) are stand =
    slot_adds path s (entries_of ss) (shards_of path ss) s.name stand.0
    (none_before path s.slot (suc s.slot) ss (omega arith) are.3 stand.1) (apart_before path s.slot (suc s.slot) ss (omega arith) are.3)
    (shard_adds path (suc s.slot) ss are.3 stand.1)

root_led : (es : List EntryParts) → AllLed [] es
root_led [] = tt
root_led (e ∷ es) = (refl, root_led es)

visit_adds : (next : Waiting) (block : List ℕ) (f : FolderParts) (entries : List EntryParts) (below : List Waiting) → IsFolder block f → IsVisit next f entries below → AddsApart next.path entries below
visit_adds next block (plain es) entries below is_folder visit =
    subst (λ (p : List ℕ). AddsApart p entries below) (sym visit.0) (subst (λ (xs : List EntryParts). AddsApart [] xs below) (sym visit.1) (subst (λ (ws : List Waiting). AddsApart [] es ws) (sym visit.2)
    (record { led = root_led es; extend = tt; differ = plain_differ None es is_folder.is_folder.are_entries; none = tt; pairs = tt })))
visit_adds next block (shard ss) entries below is_folder visit =
    subst (λ (xs : List EntryParts). AddsApart next.path xs below) (sym visit.1) (subst (λ (ws : List Waiting). AddsApart next.path (entries_of ss) ws) (sym visit.2)
    (shard_adds next.path 0 ss is_folder.is_folder.are_slots visit.0))

-- ---- a listing

record StaysApart (listed : List EntryParts) (remain : List Waiting) : Type 0 where
  differ : AllDiffer listed
  none : AllNoneLed remain listed
  pairs : ArePairs remain

goes_on : (before entries : List EntryParts) (next : Waiting) (below others : List Waiting) → StaysApart before (next ∷ others) → AddsApart next.path entries below → StaysApart (before ++ entries) (below ++ others)
goes_on before entries next below others so_far adds = record {
  differ = differ_both next.path before entries so_far.differ adds.differ so_far.none.0 adds.led;
  none = all_none_both below others (before ++ entries)
      (below_none next.path below before entries adds.extend so_far.none.0 adds.none) (others_none next.path others before entries so_far.pairs.0 so_far.none.1 adds.led);
  pairs = pairs_both next.path below others adds.pairs so_far.pairs.1 adds.extend so_far.pairs.0;
}

stays : (h : Hashing) (root : Link) (listed : List EntryParts) (remain : List Waiting) → Lists h root listed remain → StaysApart listed remain
stays h root listed remain (lists_none none is) =
    subst (λ (es : List EntryParts). StaysApart es remain) (sym none) (subst (λ (ws : List Waiting). StaysApart [] ws) (sym is) (record { differ = tt; none = (tt, tt); pairs = (tt, tt) }))
stays h root listed remain (lists_more before old block entries lists takes is) =
    let visits = takes.visits in
    let adds = visit_adds takes.next block visits.folder entries takes.below visits.is_folder.is_folder visits.is_visit in
    let so_far = subst (λ (ws : List Waiting). StaysApart before ws) takes.is_next (stays h root before old lists) in
    subst (λ (es : List EntryParts). StaysApart es remain) (sym is) (subst (λ (ws : List Waiting). StaysApart (before ++ entries) ws) (sym takes.remain)
    (goes_on before entries takes.next takes.below takes.others so_far adds))

pub all_differ : (h : Hashing) (root : Link) (listed : List EntryParts) (remain : List Waiting) → Lists h root listed remain → AllDiffer listed
all_differ h root listed remain lists = (stays h root listed remain lists).differ
