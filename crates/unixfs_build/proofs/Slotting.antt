-- The entries of a shard, slot by slot.
use Rattle.std.proofs.Common.{◌≡◌, ◌<◌, ◌≤◌, ◌+◌, ◌-◌, ◌/◌, ◌%◌, ◌^◌, ℕ, zero, suc, true, false, List, [], ◌∷◌, ◌++◌, length, map, refl, sym, ap, subst, ◌∙◌, arith, inl, inr, take, drop, replicate}
use Rattle.std.specs.Prelude.{◌==◌, cond, Bool, filter, slice_index, slice_index_or, slice_set}
use Rattle.std.specs.List.{All}
use Rattle.std.specs.Int.{w64, to_be_bytes, byte_at, bytes_high_first}
use Rattle.std.proofs.Math.Seq.{take-suc, take-length, drop-cons}
use Rattle.std.proofs.lemmas.Bool.{cases_Bool}
use Rattle.std.proofs.lemmas.Bool.Decides.{nat_tests}
use Rattle.std.proofs.lemmas.List.{append-nil, map-append}
use Rattle.std.proofs.lemmas.List.Elements.{filter-append, All-filter, All-head, All-tail}
use Rattle.murmur3.specs.Murmur3.{murmur3_x64}
use Rattle.unixfs_folders.specs.Folders.{EntryParts, SlotParts, AreSlots, hash_of}
use Rattle.unixfs_folders.specs.Listing.{IsLedTo}
use Rattle.unixfs_folders.specs.Names.{is_entry_name}
use Rattle.unixfs_build.specs.Nodes.{MadeNode}
use Rattle.unixfs_build.specs.Views.{entry_of}
use Rattle.unixfs_build.specs.declared.entry.NewEntry.{NewEntry}
use Rattle.unixfs_build.specs.Shards.{slot_at, in_slot, in_slots, by_slot, slot_with, slots_with, AreNamed, AreLed, HasHash, HaveSameHash}

pub is_same : (n m : ℕ) → n ≡ m → (n == m) ≡ true
is_same n m same = grind (arith, nat_tests)

is_other : (n m : ℕ) → (n ≡ m → ⊥) → (n == m) ≡ false
is_other n m differ = grind (arith, nat_tests)

same_is : (n m : ℕ) → (n == m) ≡ true → n ≡ m
same_is n m is = grind (arith, nat_tests)

-- ---- how many slots there are, and what is in each

slots_long : (depth count slot : ℕ) (es : List EntryParts) → length (in_slots depth count slot es) ≡ count
slots_long depth zero slot es = refl
slots_long depth (suc count) slot es = ap suc (slots_long depth count (suc slot) es)

pub by_slot_long : (depth : ℕ) (es : List EntryParts) → length (by_slot depth es) ≡ 256
unfolding by_slot
by_slot_long depth es = slots_long depth 256 0 es

slots_at : (depth count slot i : ℕ) (es d : List EntryParts) → i < count → slice_index_or (in_slots depth count slot es) i d ≡ in_slot depth (slot + i) es
slots_at depth zero slot i es d less = absurd (omega arith)
slots_at depth (suc count) slot zero es d less = let e : slot ≡ slot + 0 = omega arith in ap (λ (n : ℕ). in_slot depth n es) e
slots_at depth (suc count) slot (suc i) es d less =
    let e : suc slot + i ≡ slot + suc i = omega arith in
    slots_at depth count (suc slot) i es d (omega arith) ∙ ap (λ (n : ℕ). in_slot depth n es) e

pub by_slot_at : (depth i : ℕ) (es d : List EntryParts) → i < 256 → slice_index_or (by_slot depth es) i d ≡ in_slot depth i es
unfolding by_slot
by_slot_at depth i es d less = slots_at depth 256 0 i es d less ∙ ap (λ (n : ℕ). in_slot depth n es) (omega arith)

slots_empty : (depth count slot : ℕ) → in_slots depth count slot [] ≡ replicate count []
slots_empty depth zero slot = refl
slots_empty depth (suc count) slot = ap (λ (ess : List (List EntryParts)). [] ∷ ess) (slots_empty depth count (suc slot))

pub by_slot_empty : (depth : ℕ) → replicate 256 [] ≡ by_slot depth []
unfolding by_slot
by_slot_empty depth = sym (slots_empty depth 256 0)

-- ---- one more entry

here_more : (depth slot : ℕ) (es : List EntryParts) (e : EntryParts) → slot_at depth e.name ≡ slot → in_slot depth slot (es ++ e ∷ []) ≡ in_slot depth slot es ++ e ∷ []
here_more depth slot es e here =
    filter-append (λ (f : EntryParts). slot_at depth f.name == slot) es (e ∷ [])
    ∙ ap (λ (b : Bool). in_slot depth slot es ++ cond b (e ∷ []) []) (is_same (slot_at depth e.name) slot here)

elsewhere : (depth slot : ℕ) (es : List EntryParts) (e : EntryParts) → (slot_at depth e.name ≡ slot → ⊥) → in_slot depth slot (es ++ e ∷ []) ≡ in_slot depth slot es
elsewhere depth slot es e other =
    filter-append (λ (f : EntryParts). slot_at depth f.name == slot) es (e ∷ [])
    ∙ ap (λ (b : Bool). in_slot depth slot es ++ cond b (e ∷ []) []) (is_other (slot_at depth e.name) slot other)
    ∙ append-nil (in_slot depth slot es)

not_after : (depth count slot : ℕ) (es : List EntryParts) (e : EntryParts) → slot_at depth e.name < slot → in_slots depth count slot (es ++ e ∷ []) ≡ in_slots depth count slot es
not_after depth zero slot es e below = refl
not_after depth (suc count) slot es e below =
    ap (λ (xs : List EntryParts). xs ∷ in_slots depth count (suc slot) (es ++ e ∷ [])) (elsewhere depth slot es e (λ same. let less = below in omega arith))
    ∙ ap (λ (ess : List (List EntryParts)). in_slot depth slot es ∷ ess) (not_after depth count (suc slot) es e (omega arith))

one_more : (depth count slot i : ℕ) (es d : List EntryParts) (e : EntryParts) → slot_at depth e.name ≡ slot + i → i < count
    → in_slots depth count slot (es ++ e ∷ []) ≡ slice_set (in_slots depth count slot es) i (slice_index_or (in_slots depth count slot es) i d ++ e ∷ [])
one_more depth zero slot i es d e here less = absurd (omega arith)
one_more depth (suc count) slot zero es d e here less =
    ap (λ (xs : List EntryParts). xs ∷ in_slots depth count (suc slot) (es ++ e ∷ [])) (here_more depth slot es e (omega (arith, here)))
    ∙ ap (λ (ess : List (List EntryParts)). (in_slot depth slot es ++ e ∷ []) ∷ ess) (not_after depth count (suc slot) es e (omega (arith, here)))
one_more depth (suc count) slot (suc i) es d e here less =
    ap (λ (xs : List EntryParts). xs ∷ in_slots depth count (suc slot) (es ++ e ∷ [])) (elsewhere depth slot es e (λ same. let at = here in omega arith))
    ∙ ap (λ (ess : List (List EntryParts)). in_slot depth slot es ∷ ess) (one_more depth count (suc slot) i es d e (omega (arith, here)) (omega arith))

pub by_slot_more : (depth slot : ℕ) (es d : List EntryParts) (e : EntryParts) → slot ≡ slot_at depth e.name → slot < 256
    → slice_set (by_slot depth es) slot (slice_index_or (by_slot depth es) slot d ++ e ∷ []) ≡ by_slot depth (es ++ e ∷ [])
unfolding by_slot
by_slot_more depth slot es d e here less = sym (one_more depth 256 0 slot es d e (omega (arith, here)) less)

-- ---- the slots ascend

pub fewer_slots : (least : ℕ) (ss : List SlotParts) → AreSlots (suc least) ss → AreSlots least ss
fewer_slots least [] are = tt
fewer_slots least (s ∷ ss) are = (omega (arith, are.0), are.1, are.2, are.3)

-- the names of the entries in each slot are valid
abbrev pub AllNamed : List (List EntryParts) → Type 0
AllNamed [] = Unit {0}
AllNamed (es ∷ ess) = AreNamed es × AllNamed ess

all_named : (depth count slot : ℕ) (es : List EntryParts) → AreNamed es → AllNamed (in_slots depth count slot es)
all_named depth zero slot es named = tt
all_named depth (suc count) slot es named =
    (All-filter (λ (e : EntryParts). slot_at depth e.name == slot) (λ (e : EntryParts). is_entry_name e.name ≡ true) es named, all_named depth count (suc slot) es named)

pub by_slot_named : (depth : ℕ) (es : List EntryParts) → AreNamed es → AllNamed (by_slot depth es)
unfolding by_slot
by_slot_named depth es named = all_named depth 256 0 es named

slot_and : (below : List EntryParts → MadeNode) (slot : ℕ) (es : List EntryParts) (ss : List SlotParts) → slot < 256 → AreNamed es → AreSlots (suc slot) ss → AreSlots slot (slot_with below slot es ++ ss)
slot_and below slot [] ss less named are = fewer_slots slot ss are
slot_and below slot (e ∷ []) ss less named are = (omega arith, less, All-head (λ (f : EntryParts). is_entry_name f.name ≡ true) e [] named, are)
slot_and below slot (e ∷ f ∷ es) ss less named are = (omega arith, less, tt, are)

pub are_slots : (below : List EntryParts → MadeNode) (slot : ℕ) (ess : List (List EntryParts)) → slot + length ess ≤ 256 → AllNamed ess → AreSlots slot (slots_with below slot ess)
are_slots below slot [] within named = tt
are_slots below slot (es ∷ ess) within named =
    slot_and below slot es (slots_with below (suc slot) ess) (omega arith) named.0 (are_slots below (suc slot) ess (omega arith) named.1)

-- ---- hashes

to_be_long : (n : ℕ) → length (to_be_bytes w64 n) ≡ 8
to_be_long n = refl

pub hash_long : (name : List ℕ) → length (hash_of name) ≡ 8
hash_long name = to_be_long (murmur3_x64 0 name).0

rest_small : (n : ℕ) → n % 256 < 256
rest_small n = omega arith

byte_small : (k n : ℕ) → byte_at k n < 256
byte_small zero n = rest_small n
byte_small (suc k) n = rest_small (n / 256 ^ suc k)

bytes_small : (count i n : ℕ) → slice_index (bytes_high_first count n) i < 256
bytes_small zero i n = omega arith
bytes_small (suc count) zero n = byte_small count n
bytes_small (suc count) (suc i) n = bytes_small count i n

pub slot_below : (depth : ℕ) (name : List ℕ) → slot_at depth name < 256
unfolding slot_at
slot_below depth name = bytes_small 8 depth (murmur3_x64 0 name).0

pub slot_first : (depth : ℕ) (name : List ℕ) → depth < 8 → drop depth (hash_of name) ≡ slot_at depth name ∷ drop (suc depth) (hash_of name)
unfolding slot_at
slot_first depth name less = drop-cons (hash_of name) depth 0 (let long = hash_long name in omega arith)

length-last : (path : List ℕ) (slot : ℕ) → length (path ++ slot ∷ []) ≡ suc (length path)
length-last [] slot = refl
length-last (p ∷ path) slot = ap suc (length-last path slot)

pub led_on : (path : List ℕ) (slot : ℕ) (name : List ℕ) → length path < 8 → IsLedTo path name → slot_at (length path) name ≡ slot → IsLedTo (path ++ slot ∷ []) name
unfolding slot_at
led_on path slot name less led here =
    ap (λ (n : ℕ). take n (hash_of name)) (length-last path slot)
    ∙ take-suc (hash_of name) (length path) 0 (let long = hash_long name in omega arith)
    ∙ ap (λ (xs : List ℕ). xs ++ slice_index (hash_of name) (length path) ∷ []) led
    ∙ ap (λ (n : ℕ). path ++ n ∷ []) here

-- each of the names is led to the path
abbrev AllLed : List ℕ → List EntryParts → Type 0
AllLed path [] = Unit {0}
AllLed path (e ∷ es) = IsLedTo path e.name × AllLed path es

led_at : (path : List ℕ) (e : EntryParts) (es : List EntryParts) → AllLed path (e ∷ es) → (k : ℕ) (d : EntryParts) → k < length (e ∷ es) → IsLedTo path (slice_index_or (e ∷ es) k d).name
led_at path e es led zero d less = led.0
led_at path e [] led (suc k) d less = absurd (omega arith)
led_at path e (f ∷ es) led (suc k) d less = led_at path f es led.1 k d (omega arith)

-- the entries of a slot are led one byte further
filter_led : (path : List ℕ) (slot : ℕ) (es : List EntryParts) → length path < 8 → AllLed path es → AllLed (path ++ slot ∷ []) (in_slot (length path) slot es)
filter_led path slot [] less led = tt
filter_led path slot (e ∷ es) less led =
    elim (cases_Bool (slot_at (length path) e.name == slot)) [
      | inl here ↦ rw here (led_on path slot e.name less led.0 (same_is (slot_at (length path) e.name) slot here), filter_led path slot es less led.1)
      | inr other ↦ rw other (filter_led path slot es less led.1)
    ]

all_led : (path : List ℕ) (es : List EntryParts) → All (λ (e : EntryParts). IsLedTo path e.name) es → AllLed path es
all_led path [] led = tt
all_led path (e ∷ es) led = (All-head (λ (f : EntryParts). IsLedTo path f.name) e es led, all_led path es (All-tail (λ (f : EntryParts). IsLedTo path f.name) e es led))

led_all : (path : List ℕ) (es : List EntryParts) → AllLed path es → All (λ (e : EntryParts). IsLedTo path e.name) es
led_all path [] led = λ k d less. absurd (omega arith)
led_all path (e ∷ es) led = λ k d less. led_at path e es led k d less

pub slot_led : (levels slot : ℕ) (es : List EntryParts) → AreLed (suc levels) es → AreLed levels (in_slot (7 - levels) slot es)
unfolding AreLed
slot_led levels slot es (path, long, led) =
    let depth : length path ≡ 7 - levels = omega arith in (
      path ++ slot ∷ [],
      (let more = length-last path slot in omega arith),
      led_all (path ++ slot ∷ []) (in_slot (7 - levels) slot es)
          (subst (λ (n : ℕ). AllLed (path ++ slot ∷ []) (in_slot n slot es)) depth (filter_led path slot es (omega arith) (all_led path es led))),
    )

pub none_led : (es : List EntryParts) → AreLed 8 es
unfolding AreLed
none_led es = ([], refl, λ k d less. refl)

-- ---- names with the same hash

kept_if : (kept : List EntryParts) (hash : List ℕ) (e : EntryParts) (es : List EntryParts) (b : Bool) → (HasHash hash kept → HasHash hash es) → HasHash hash (cond b (e ∷ kept) kept) → HasHash hash (e ∷ es)
kept_if kept hash e es true more (inl here) = inl here
kept_if kept hash e es true more (inr there) = inr (more there)
kept_if kept hash e es false more has = inr (more has)

hash_kept : (test : EntryParts → Bool) (hash : List ℕ) (es : List EntryParts) → HasHash hash (filter test es) → HasHash hash es
hash_kept test hash [] has = has
hash_kept test hash (e ∷ es) has = kept_if (filter test es) hash e es (test e) (hash_kept test hash es) has

same_if : (kept : List EntryParts) (e : EntryParts) (es : List EntryParts) (b : Bool) → (HasHash (hash_of e.name) kept → HasHash (hash_of e.name) es) → (HaveSameHash kept → HaveSameHash es)
    → HaveSameHash (cond b (e ∷ kept) kept) → HaveSameHash (e ∷ es)
same_if kept e es true first more (inl here) = inl (first here)
same_if kept e es true first more (inr there) = inr (more there)
same_if kept e es false first more same = inr (more same)

same_kept : (test : EntryParts → Bool) (es : List EntryParts) → HaveSameHash (filter test es) → HaveSameHash es
same_kept test [] same = same
same_kept test (e ∷ es) same = same_if (filter test es) e es (test e) (hash_kept test (hash_of e.name) es) (same_kept test es) same

pub slot_same : (depth slot : ℕ) (es : List EntryParts) → HaveSameHash (in_slot depth slot es) → HaveSameHash es
slot_same depth slot es same = same_kept (λ (e : EntryParts). slot_at depth e.name == slot) es same

whole_hash : (path : List ℕ) (name : List ℕ) → length path ≡ 8 → IsLedTo path name → hash_of name ≡ path
whole_hash path name long led =
    sym (take-length (hash_of name)) ∙ ap (λ (n : ℕ). take n (hash_of name)) (hash_long name ∙ sym long) ∙ led

pub all_same : (es : List EntryParts) → AreLed 0 es → 1 < length es → HaveSameHash es
unfolding AreLed
all_same [] led more = absurd (omega arith)
all_same (e ∷ []) led more = absurd (omega arith)
all_same (e ∷ f ∷ es) (path, long, led) more =
    let both = all_led path (e ∷ f ∷ es) led in
    let eight : length path ≡ 8 = omega arith in
    inl (inl (whole_hash path f.name eight both.1.0 ∙ sym (whole_hash path e.name eight both.0)))

-- ---- loops over entries and over slots

map_taken : (entries : List NewEntry) (item other : NewEntry) (i : ℕ) → i < length entries → item ≡ slice_index_or entries i other → map entry_of (take (i + 1) entries) ≡ map entry_of (take i entries) ++ entry_of item ∷ []
map_taken entries item other i inside is =
    let next : i + 1 ≡ suc i = omega arith in
    ap (λ (n : ℕ). map entry_of (take n entries)) next
    ∙ ap (λ (es : List NewEntry). map entry_of es) (take-suc entries i other inside ∙ ap (λ (e : NewEntry). take i entries ++ e ∷ []) (sym is))
    ∙ map-append entry_of (take i entries) (item ∷ [])

pub spread_more : (depth slot i : ℕ) (entries : List NewEntry) (items : List (List EntryParts)) (item other : NewEntry) (old new d : List EntryParts) → i < length entries → item ≡ slice_index_or entries i other
    → slot ≡ slot_at depth item.name.now → items ≡ by_slot depth (map entry_of (take i entries)) → old ≡ slice_index_or items slot d → new ≡ old ++ entry_of item ∷ []
    → slice_set items slot new ≡ by_slot depth (map entry_of (take (i + 1) entries))
spread_more depth slot i entries items item other old new d inside is slot_is items_are old_is new_is =
    ap (λ (xs : List EntryParts). slice_set items slot xs) (new_is ∙ ap (λ (xs : List EntryParts). xs ++ entry_of item ∷ []) old_is)
    ∙ ap (λ (xs : List (List EntryParts)). slice_set xs slot (slice_index_or xs slot d ++ entry_of item ∷ [])) items_are
    ∙ by_slot_more depth slot (map entry_of (take i entries)) d (entry_of item) slot_is (subst (λ (n : ℕ). n < 256) (sym slot_is) (slot_below depth item.name.now))
    ∙ ap (λ (es : List EntryParts). by_slot depth es) (sym (map_taken entries item other i inside is))
