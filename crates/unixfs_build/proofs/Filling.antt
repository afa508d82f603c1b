-- A shard whose slots are filled one after another.
use Rattle.std.proofs.Common.{◌≡◌, ◌<◌, ◌≤◌, ◌+◌, ◌-◌, ℕ, suc, true, List, [], ◌∷◌, ◌++◌, length, map, take, inl, inr, refl, sym, ap, subst, ◌∙◌, arith}
use Rattle.std.specs.Prelude.{◌==◌, slice_index_or}
use Rattle.std.specs.List.{All, flat_map}
use Rattle.std.proofs.Math.Seq.{take-suc}
use Rattle.std.proofs.lemmas.Grind.{flat_map-append}
use Rattle.std.proofs.lemmas.List.{append-nil, append_assoc, length-map, length-take-le, take_all}
use Rattle.std.proofs.lemmas.List.Elements.{All-filter, All-push}
use Rattle.ipld_block.specs.Digest.{digest_by}
use Rattle.ipld_cid.specs.declared.cid.Version.{Version}
use Rattle.unixfs_folders.specs.Folders.{EntryParts, SlotParts, AreSlots, IsShard}
use Rattle.unixfs_folders.specs.Names.{is_entry_name}
use Rattle.unixfs_build.specs.Blocks.{no_attributes}
use Rattle.unixfs_build.specs.Faults.{IsEncodeFault, out_of_memory, time}
use Rattle.unixfs_build.specs.Nodes.{MadeNode, shard_node}
use Rattle.unixfs_build.specs.Packing.{IsNodeFault, node_not_encoded, node_too_large, IsShardFault, shard_not_made, shard_same_hash, IsSlotFault}
use Rattle.unixfs_build.specs.Shards.{slot_at, in_slot, by_slot, slot_with, slots_with, nodes_with, shard_root, shard_below, shard_nodes, AreNamed, AreLed, HoldsIn, AreShards}
use Rattle.unixfs_build.specs.Views.{entry_of}
use Rattle.unixfs_build.specs.declared.entry.NewEntry.{NewEntry}
use Rattle.unixfs_build.specs.declared.error.BuildError.{BuildError}
use Rattle.unixfs_build.specs.declared.error.BuildError.TheVariants.{SameHash}
use Rattle.unixfs_build.specs.declared.layout.Attributes.{Attributes}
use Rattle.unixfs_build.proofs.Sharding.{total_at}
use Rattle.unixfs_build.proofs.Slotting.{by_slot_long, by_slot_at, by_slot_named, are_slots, slot_led, slot_same, all_same}

-- ---- no byte of the hashes is left

pub no_levels : (levels : ℕ) (version : Version) (attributes : Attributes) (entries : List NewEntry) → levels ≡ 0 → AreLed levels (map entry_of entries) → (levels ≡ 0 → 1 < length entries)
    → IsShardFault levels version attributes (map entry_of entries) SameHash
no_levels levels version attributes entries none led several =
    shard_same_hash refl (all_same (map entry_of entries) (subst (λ (n : ℕ). AreLed n (map entry_of entries)) none led) (omega (arith, several none, length-map entries entry_of)))

pub few_levels : (levels : ℕ) (es : List EntryParts) → AreLed levels es → levels ≤ 8
unfolding AreLed
few_levels levels es (path, long, led) = omega arith

-- ---- one slot

-- the entries in a slot, of those by slot
pub record InSlot (levels : ℕ) (es : List EntryParts) (slot : ℕ) (inside : List EntryParts) : Type 0 where
  pub positive : levels ≡ suc (levels - 1)
  pub less : slot < 256
  pub is : inside ≡ in_slot (7 - (levels - 1)) slot es

pub in_slot_of : (levels slot : ℕ) (es given d inside : List EntryParts) (slots items : List (List EntryParts)) → (levels ≡ 0 → ⊥) → slots ≡ by_slot (8 - levels) es → items ≡ slots → slot < length items
    → given ≡ slice_index_or items slot d → inside ≡ given → InSlot levels es slot inside
in_slot_of levels slot es given d inside slots items some slots_are items_are less given_is is =
    let same : 8 - levels ≡ 7 - (levels - 1) = omega (arith, some) in
    let small : slot < 256 = omega (arith, less, ap length items_are, ap length slots_are, by_slot_long (8 - levels) es) in
    record {
      positive = omega (arith, some);
      less = small;
      is = is ∙ given_is ∙ ap (λ (ess : List (List EntryParts)). slice_index_or ess slot d) (items_are ∙ slots_are) ∙ by_slot_at (8 - levels) slot es d small
          ∙ ap (λ (n : ℕ). in_slot n slot es) same;
    }

pub inside_named : (levels slot : ℕ) (es inside : List EntryParts) → InSlot levels es slot inside → AreNamed es → AreNamed inside
inside_named levels slot es inside in_it named =
    subst (λ (xs : List EntryParts). AreNamed xs) (sym in_it.is)
    (All-filter (λ (e : EntryParts). slot_at (7 - (levels - 1)) e.name == slot) (λ (e : EntryParts). is_entry_name e.name ≡ true) es named)

pub inside_led : (levels slot : ℕ) (es inside : List EntryParts) → InSlot levels es slot inside → AreLed levels es → AreLed (levels - 1) inside
inside_led levels slot es inside in_it led =
    subst (λ (xs : List EntryParts). AreLed (levels - 1) xs) (sym in_it.is)
    (slot_led (levels - 1) slot es (subst (λ (n : ℕ). AreLed n es) in_it.positive led))

-- without a time only memory can run out
memory_alone : (attributes : Attributes) (error : BuildError) → IsEncodeFault no_attributes error → IsEncodeFault attributes error
memory_alone attributes error (out_of_memory none) = out_of_memory none
memory_alone attributes error (time mtime is late few) = absurd cc

lifted : (levels : ℕ) (version : Version) (attributes : Attributes) (es : List EntryParts) (slot : ℕ) (error : BuildError) → slot < 256 → 1 < length (in_slot (7 - levels) slot es)
    → IsShardFault levels version no_attributes (in_slot (7 - levels) slot es) error → IsShardFault (suc levels) version attributes es error
lifted levels version attributes es slot error less several (shard_not_made (node_not_encoded none)) = shard_not_made (node_not_encoded (memory_alone attributes error none))
lifted levels version attributes es slot error less several (shard_not_made (node_too_large is large)) =
    shard_not_made (node_too_large is (let most = total_at levels version attributes es slot less several in omega (arith, large, most)))
lifted levels version attributes es slot error less several (shard_same_hash is same) = shard_same_hash is (slot_same (7 - levels) slot es same)

pub slot_fault : (levels : ℕ) (version : Version) (attributes : Attributes) (es : List EntryParts) (slot : ℕ) (inside : List EntryParts) (error : BuildError) → InSlot levels es slot inside
    → IsSlotFault (levels - 1) version inside error → IsShardFault levels version attributes es error
slot_fault levels version attributes es slot inside error in_it (inl none) = shard_not_made (node_not_encoded (out_of_memory none))
slot_fault levels version attributes es slot inside error in_it (inr (several, fault)) =
    subst (λ (n : ℕ). IsShardFault n version attributes es error) (sym in_it.positive)
    (lifted (levels - 1) version attributes es slot error in_it.less
    (subst (λ (xs : List EntryParts). 1 < length xs) in_it.is several)
    (subst (λ (xs : List EntryParts). IsShardFault (levels - 1) version no_attributes xs error) in_it.is fault))

-- ---- one slot more

taken_more : (items : List (List EntryParts)) (i : ℕ) (inside d : List EntryParts) → i < length items → inside ≡ slice_index_or items i d → take (i + 1) items ≡ take i items ++ inside ∷ []
taken_more items i inside d less is =
    let next : i + 1 ≡ suc i = omega arith in
    ap (λ (n : ℕ). take n items) next ∙ take-suc items i d less ∙ ap (λ (xs : List EntryParts). take i items ++ xs ∷ []) (sym is)

slots_both : (make : List EntryParts → MadeNode) (first : ℕ) (a b : List (List EntryParts)) → slots_with make first (a ++ b) ≡ slots_with make first a ++ slots_with make (first + length a) b
slots_both make first [] b = ap (λ (n : ℕ). slots_with make n b) (omega arith)
slots_both make first (x ∷ a) b =
    let shifted : suc first + length a ≡ first + length (x ∷ a) = omega arith in
    ap (λ (ss : List SlotParts). slot_with make first x ++ ss) (slots_both make (suc first) a b ∙ ap (λ (n : ℕ). slots_with make (suc first) a ++ slots_with make n b) shifted)
    ∙ sym (append_assoc (slot_with make first x) (slots_with make (suc first) a) (slots_with make (first + length (x ∷ a)) b))

links_more : (make : List EntryParts → MadeNode) (items : List (List EntryParts)) (i : ℕ) (inside d : List EntryParts) (old new : List SlotParts) → i < length items → inside ≡ slice_index_or items i d
    → old ≡ slots_with make 0 (take i items) → new ≡ old ++ slot_with make i inside → new ≡ slots_with make 0 (take (i + 1) items)
links_more make items i inside d old new less is old_is new_is =
    let long : 0 + length (take i items) ≡ i = omega (arith, length-take-le i items (omega arith)) in
    new_is ∙ ap (λ (ss : List SlotParts). ss ++ slot_with make i inside) old_is
    ∙ ap (λ (ss : List SlotParts). slots_with make 0 (take i items) ++ ss) (sym (append-nil (slot_with make i inside)) ∙ ap (λ (n : ℕ). slot_with make n inside ++ []) (sym long))
    ∙ sym (slots_both make 0 (take i items) (inside ∷ []))
    ∙ ap (λ (ess : List (List EntryParts)). slots_with make 0 ess) (sym (taken_more items i inside d less is))

below_more : (make : List EntryParts → List MadeNode) (items : List (List EntryParts)) (i : ℕ) (inside d : List EntryParts) (old new : List MadeNode) → i < length items → inside ≡ slice_index_or items i d
    → old ≡ flat_map make (take i items) → new ≡ old ++ make inside → new ≡ flat_map make (take (i + 1) items)
below_more make items i inside d old new less is old_is new_is =
    new_is ∙ ap (λ (ns : List MadeNode). ns ++ make inside) old_is
    ∙ ap (λ (ns : List MadeNode). flat_map make (take i items) ++ ns) (sym (append-nil (make inside)))
    ∙ sym (flat_map-append make (take i items) (inside ∷ []))
    ∙ ap (λ (ess : List (List EntryParts)). flat_map make ess) (sym (taken_more items i inside d less is))

-- what the slots so far have
abbrev pub HasSlots : ℕ → Version → List (List EntryParts) → List SlotParts → List MadeNode → Type 0
HasSlots levels version items links below =
    (links ≡ slots_with (shard_root levels version no_attributes) 0 items)
    × (below ≡ flat_map (nodes_with (shard_nodes levels version no_attributes)) items)
    × All (HoldsIn (AreShards levels version no_attributes)) items

pub slots_more : (levels : ℕ) (version : Version) (items : List (List EntryParts)) (i : ℕ) (inside given d : List EntryParts) (links new_links : List SlotParts) (below new_below : List MadeNode)
    → i < length items → given ≡ slice_index_or items i d → inside ≡ given → HasSlots levels version (take i items) links below
    → new_links ≡ links ++ slot_with (shard_root levels version no_attributes) i inside
    → new_below ≡ below ++ nodes_with (shard_nodes levels version no_attributes) inside
    → HoldsIn (AreShards levels version no_attributes) inside → HasSlots levels version (take (i + 1) items) new_links new_below
slots_more levels version items i inside given d links new_links below new_below less given_is is has links_are below_are holds = (
  links_more (shard_root levels version no_attributes) items i inside d links new_links less (is ∙ given_is) has.0 links_are,
  below_more (nodes_with (shard_nodes levels version no_attributes)) items i inside d below new_below less (is ∙ given_is) has.1 below_are,
  subst (λ (ess : List (List EntryParts)). All (HoldsIn (AreShards levels version no_attributes)) ess) (sym (taken_more items i inside d less (is ∙ given_is)))
      (All-push (HoldsIn (AreShards levels version no_attributes)) (take i items) inside has.2 holds),
)

-- ---- all slots

-- the slots of a shard are filled
pub record Filled (levels : ℕ) (version : Version) (es : List EntryParts) (links : List SlotParts) (below : List MadeNode) : Type 0 where
  pub positive : levels ≡ suc (levels - 1)
  pub has : HasSlots (levels - 1) version (by_slot (7 - (levels - 1)) es) links below

pub filled : (levels : ℕ) (version : Version) (es : List EntryParts) (slots items : List (List EntryParts)) (i : ℕ) (links given : List SlotParts) (below : List MadeNode) → (levels ≡ 0 → ⊥)
    → slots ≡ by_slot (8 - levels) es → items ≡ slots → length items ≤ i → HasSlots (levels - 1) version (take i items) links below → given ≡ links → Filled levels version es given below
filled levels version es slots items i links given below some slots_are items_are end has given_is =
    let same : 8 - levels ≡ 7 - (levels - 1) = omega (arith, some) in
    let all : take i items ≡ by_slot (7 - (levels - 1)) es
    = take_all i items end ∙ items_are ∙ slots_are ∙ ap (λ (n : ℕ). by_slot n es) same in
    record {
      positive = omega (arith, some);
      has = subst (λ (ss : List SlotParts). HasSlots (levels - 1) version (by_slot (7 - (levels - 1)) es) ss below) (sym given_is)
          (subst (λ (ess : List (List EntryParts)). HasSlots (levels - 1) version ess links below) all has);
    }

pub filled_slots : (levels : ℕ) (version : Version) (es : List EntryParts) (links : List SlotParts) (below : List MadeNode) → Filled levels version es links below → AreNamed es → AreSlots 0 links
filled_slots levels version es links below is named =
    subst (λ (ss : List SlotParts). AreSlots 0 ss) (sym is.has.0)
    (are_slots (shard_root (levels - 1) version no_attributes) 0 (by_slot (7 - (levels - 1)) es) (omega (arith, by_slot_long (7 - (levels - 1)) es)) (by_slot_named (7 - (levels - 1)) es named))

root_is : (levels : ℕ) (version : Version) (attributes : Attributes) (es : List EntryParts)
    → shard_root (suc levels) version attributes es ≡ shard_node version attributes (slots_with (shard_root levels version no_attributes) 0 (by_slot (7 - levels) es))
unfolding shard_root
root_is levels version attributes es = refl

below_is : (levels : ℕ) (version : Version) (es : List EntryParts)
    → shard_below (suc levels) version es ≡ flat_map (nodes_with (shard_nodes levels version no_attributes)) (by_slot (7 - levels) es)
unfolding shard_below
below_is levels version es = refl

filled_root : (levels : ℕ) (version : Version) (attributes : Attributes) (es : List EntryParts) (links : List SlotParts) (below : List MadeNode) → Filled levels version es links below
    → shard_node version attributes links ≡ shard_root levels version attributes es
filled_root levels version attributes es links below is =
    ap (λ (ss : List SlotParts). shard_node version attributes ss) is.has.0
    ∙ sym (root_is (levels - 1) version attributes es)
    ∙ ap (λ (n : ℕ). shard_root n version attributes es) (sym is.positive)

pub filled_fault : (levels : ℕ) (version : Version) (attributes : Attributes) (es : List EntryParts) (links : List SlotParts) (below : List MadeNode) (error : BuildError) → Filled levels version es links below
    → IsNodeFault attributes (shard_node version attributes links) error → IsShardFault levels version attributes es error
filled_fault levels version attributes es links below error is fault =
    shard_not_made (subst (λ (n : MadeNode). IsNodeFault attributes n error) (filled_root levels version attributes es links below is) fault)

pub filled_nodes : (levels : ℕ) (version : Version) (attributes : Attributes) (es : List EntryParts) (links : List SlotParts) (below : List MadeNode) (root : MadeNode) (nodes : List MadeNode)
    → Filled levels version es links below → root ≡ shard_node version attributes links → nodes ≡ root ∷ below → nodes ≡ shard_nodes levels version attributes es
filled_nodes levels version attributes es links below root nodes is root_made nodes_are =
    nodes_are ∙ ap (λ (n : MadeNode). n ∷ below) (root_made ∙ filled_root levels version attributes es links below is)
    ∙ ap (λ (ns : List MadeNode). shard_root levels version attributes es ∷ ns)
    (is.has.1 ∙ sym (below_is (levels - 1) version es) ∙ ap (λ (n : ℕ). shard_below n version es) (sym is.positive))

holds_next : (levels : ℕ) (version : Version) (attributes : Attributes) (es : List EntryParts)
    → IsShard digest_by (shard_root (suc levels) version attributes es).link (slots_with (shard_root levels version no_attributes) 0 (by_slot (7 - levels) es))
    → All (HoldsIn (AreShards levels version no_attributes)) (by_slot (7 - levels) es) → AreShards (suc levels) version attributes es
unfolding AreShards
holds_next levels version attributes es shard below = (shard, below)

pub filled_holds : (levels : ℕ) (version : Version) (attributes : Attributes) (es : List EntryParts) (links : List SlotParts) (below : List MadeNode) (root : MadeNode)
    → Filled levels version es links below → root ≡ shard_node version attributes links → IsShard digest_by root.link links → AreShards levels version attributes es
filled_holds levels version attributes es links below root is root_made shard =
    let same = root_made ∙ filled_root levels version attributes es links below is ∙ ap (λ (n : ℕ). shard_root n version attributes es) is.positive in
    subst (λ (n : ℕ). AreShards n version attributes es) (sym is.positive)
    (holds_next (levels - 1) version attributes es
    (subst (λ (n : MadeNode). IsShard digest_by n.link (slots_with (shard_root (levels - 1) version no_attributes) 0 (by_slot (7 - (levels - 1)) es))) same
    (subst (λ (ss : List SlotParts). IsShard digest_by root.link ss) is.has.0 shard))
    is.has.2)
