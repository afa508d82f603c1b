-- What whoever reads the blocks of a sharded folder finds.
use Rattle.std.proofs.Common.{◌≡◌, ◌<◌, ◌≤◌, ◌+◌, ◌-◌, ℕ, zero, suc, true, false, List, [], ◌∷◌, ◌++◌, length, map, Some, None, refl, sym, ap, subst, ◌∙◌, arith, inl, inr, drop}
use Rattle.std.specs.Prelude.{◌==◌, ◌≢◌, cond, Bool, Option, slice_index_or, unwrap_or}
use Rattle.std.proofs.lemmas.List.Sums.{sum_by-cons}
use Rattle.ipld_block.specs.Digest.{digest_by}
use Rattle.ipld_cid.specs.Cid.{Link}
use Rattle.ipld_cid.specs.declared.cid.Version.{Version}
use Rattle.unixfs_folders.specs.Folders.{EntryParts, SlotParts, link_of_slot, IsShard, Has, Lacks, HasLink, LacksLink, hash_of, Leads, leads_here, leads_below, Misses, misses_here, misses_below}
use Rattle.unixfs_build.specs.Blocks.{no_attributes}
use Rattle.unixfs_build.specs.Nodes.{MadeNode, tsizes_of, tsize_of, node_with}
use Rattle.unixfs_build.specs.Shards.{slot_at, in_slot, by_slot, slot_with, slots_with, shard_root, HoldsIn, AreShards}
use Rattle.unixfs_build.specs.declared.layout.Attributes.{Attributes}
use Rattle.unixfs_build.proofs.Slotting.{is_same, by_slot_long, by_slot_at, slot_first, slot_below}

-- the shard of these entries at the next depth
abbrev below : ℕ → Version → List EntryParts → MadeNode
below levels version es = shard_root levels version no_attributes es

-- ---- links of slots

link_first : (ss rest : List SlotParts) (slot : ℕ) (name : Option (List ℕ)) (target : Link) → HasLink ss slot name target → HasLink (ss ++ rest) slot name target
link_first [] rest slot name target has = absurd has
link_first (s ∷ ss) rest slot name target (inl here) = inl here
link_first (s ∷ ss) rest slot name target (inr more) = inr (link_first ss rest slot name target more)

link_later : (ss rest : List SlotParts) (slot : ℕ) (name : Option (List ℕ)) (target : Link) → HasLink rest slot name target → HasLink (ss ++ rest) slot name target
link_later [] rest slot name target has = has
link_later (s ∷ ss) rest slot name target has = inr (link_later ss rest slot name target has)

-- the link of a slot is one of the links of all slots
link_at : (make : List EntryParts → MadeNode) (first i : ℕ) (ess : List (List EntryParts)) (inside : List EntryParts) (slot : ℕ) (name : Option (List ℕ)) (target : Link) → i < length ess
    → slice_index_or ess i [] ≡ inside → first + i ≡ slot → HasLink (slot_with make slot inside) slot name target → HasLink (slots_with make first ess) slot name target
link_at make first i [] inside slot name target less is at has = absurd (omega arith)
link_at make first zero (es ∷ ess) inside slot name target less is at has =
    let same : slot ≡ first = omega arith in
    link_first (slot_with make first es) (slots_with make (suc first) ess) slot name target
    (subst (λ (xs : List EntryParts). HasLink (slot_with make first xs) slot name target) (sym is) (subst (λ (n : ℕ). HasLink (slot_with make n inside) slot name target) same has))
link_at make first (suc i) (es ∷ ess) inside slot name target less is at has =
    link_later (slot_with make first es) (slots_with make (suc first) ess) slot name target
    (link_at make (suc first) i ess inside slot name target (omega arith) is (omega arith) has)

-- ---- an entry

has_if : (kept : List EntryParts) (e : EntryParts) (b : Bool) (name : List ℕ) (target : Link) → b ≡ true → (e.name ≡ name) × (e.link ≡ target) → Has (cond b (e ∷ kept) kept) name target
has_if kept e true name target is here = inl here
has_if kept e false name target is here = absurd cc

has_still : (kept : List EntryParts) (e : EntryParts) (b : Bool) (name : List ℕ) (target : Link) → Has kept name target → Has (cond b (e ∷ kept) kept) name target
has_still kept e true name target has = inr has
has_still kept e false name target has = has

has_kept : (depth : ℕ) (es : List EntryParts) (name : List ℕ) (target : Link) → Has es name target → Has (in_slot depth (slot_at depth name) es) name target
has_kept depth [] name target has = absurd has
has_kept depth (e ∷ es) name target (inl here) =
    has_if (in_slot depth (slot_at depth name) es) e (slot_at depth e.name == slot_at depth name) name target
    (is_same (slot_at depth e.name) (slot_at depth name) (ap (λ (n : List ℕ). slot_at depth n) here.0)) here
has_kept depth (e ∷ es) name target (inr more) =
    has_still (in_slot depth (slot_at depth name) es) e (slot_at depth e.name == slot_at depth name) name target (has_kept depth es name target more)

-- what a shard at some level leads to
abbrev AllLead : ℕ → Version → List ℕ → Link → Type 0
AllLead levels version name target =
    (attributes : Attributes) (es : List EntryParts) → levels ≤ 8 → AreShards levels version attributes es → Has es name target
    → Leads digest_by name target (shard_root levels version attributes es).link (drop (8 - levels) (hash_of name))

leads_slot : (levels : ℕ) (version : Version) (from : Link) (hash : List ℕ) (slot : ℕ) (rest : List ℕ) (ess : List (List EntryParts)) (inside : List EntryParts) (name : List ℕ) (target : Link)
    → AllLead levels version name target → levels ≤ 8 → rest ≡ drop (8 - levels) (hash_of name) → hash ≡ slot ∷ rest → slot < length ess → slice_index_or ess slot [] ≡ inside
    → IsShard digest_by from (slots_with (below levels version) 0 ess) → HoldsIn (AreShards levels version no_attributes) inside → Has inside name target → Leads digest_by name target from hash
leads_slot levels version from hash slot rest ess [] name target lead small rest_is hash_is less is shard holds has = absurd has
leads_slot levels version from hash slot rest ess (e ∷ []) name target lead small rest_is hash_is less is shard holds (inl here) =
    leads_here slot rest (slots_with (below levels version) 0 ess) hash_is shard
    (link_at (below levels version) 0 slot ess (e ∷ []) slot (Some name) target less is (omega arith) (inl (refl, ap (λ (n : List ℕ). Some n) here.0, here.1)))
leads_slot levels version from hash slot rest ess (e ∷ []) name target lead small rest_is hash_is less is shard holds (inr more) = absurd more
leads_slot levels version from hash slot rest ess (e ∷ f ∷ es) name target lead small rest_is hash_is less is shard holds has =
    leads_below slot rest (slots_with (below levels version) 0 ess) (below levels version (e ∷ f ∷ es)).link hash_is shard
    (link_at (below levels version) 0 slot ess (e ∷ f ∷ es) slot None (below levels version (e ∷ f ∷ es)).link less is (omega arith) (inl (refl, refl, refl)))
    (subst (λ (h : List ℕ). Leads digest_by name target (below levels version (e ∷ f ∷ es)).link h) (sym rest_is) (lead no_attributes (e ∷ f ∷ es) small holds has))

pub all_lead : (levels : ℕ) (version : Version) (name : List ℕ) (target : Link) → AllLead levels version name target
unfolding AreShards
all_lead zero version name target = λ attributes es small shards has. absurd shards
all_lead (suc levels) version name target = λ attributes es small shards has.
    let depth = 7 - levels in
    let slot = slot_at depth name in
    let less : slot < 256 = slot_below depth name in
    let deeper : suc depth ≡ 8 - levels = omega arith in
    let same : 7 - levels ≡ 8 - suc levels = omega arith in
    let at = by_slot_at depth slot es [] less in
    leads_slot levels version (shard_root (suc levels) version attributes es).link (drop (8 - suc levels) (hash_of name)) slot (drop (suc depth) (hash_of name)) (by_slot depth es) (in_slot depth slot es) name target
    (all_lead levels version name target) (omega arith) (ap (λ (n : ℕ). drop n (hash_of name)) deeper)
    (ap (λ (n : ℕ). drop n (hash_of name)) (sym same) ∙ slot_first depth name (omega arith))
    (let long = by_slot_long depth es in omega arith) at shards.0
    (subst (HoldsIn (AreShards levels version no_attributes)) at (shards.1 slot [] (let long = by_slot_long depth es in omega arith)))
    (has_kept depth es name target has)

-- ---- a name that no entry has

lacks_if : (kept : List EntryParts) (e : EntryParts) (b : Bool) (name : List ℕ) → e.name ≢ name → Lacks kept name → Lacks (cond b (e ∷ kept) kept) name
lacks_if kept e true name other lacks = (other, lacks)
lacks_if kept e false name other lacks = lacks

lacks_kept : (depth slot : ℕ) (es : List EntryParts) (name : List ℕ) → Lacks es name → Lacks (in_slot depth slot es) name
lacks_kept depth slot [] name lacks = tt
lacks_kept depth slot (e ∷ es) name lacks =
    lacks_if (in_slot depth slot es) e (slot_at depth e.name == slot) name lacks.0 (lacks_kept depth slot es name lacks.1)

-- a slot that has neither an entry of this name nor a shard
abbrev HasNeither : List ℕ → List EntryParts → Type 0
HasNeither name [] = Unit {0}
HasNeither name (e ∷ []) = e.name ≢ name
HasNeither name (e ∷ f ∷ es) = ⊥

lacks_both : (ss rest : List SlotParts) (slot : ℕ) (name : List ℕ) → LacksLink ss slot name → LacksLink rest slot name → LacksLink (ss ++ rest) slot name
lacks_both [] rest slot name lacks more = more
lacks_both (s ∷ ss) rest slot name lacks more = (lacks.0, lacks_both ss rest slot name lacks.1 more)

lacks_here : (make : List EntryParts → MadeNode) (slot : ℕ) (es : List EntryParts) (name : List ℕ) → HasNeither name es → LacksLink (slot_with make slot es) slot name
lacks_here make slot [] name none = tt
lacks_here make slot (e ∷ []) name other = ((λ same. (e.name, refl, other)), tt)
lacks_here make slot (e ∷ f ∷ es) name never = absurd never

lacks_there : (make : List EntryParts → MadeNode) (at slot : ℕ) (es : List EntryParts) (name : List ℕ) → (at ≡ slot → ⊥) → LacksLink (slot_with make at es) slot name
lacks_there make at slot [] name differ = tt
lacks_there make at slot (e ∷ []) name differ = ((λ same. absurd (differ same)), tt)
lacks_there make at slot (e ∷ f ∷ es) name differ = ((λ same. absurd (differ same)), tt)

lacks_after : (make : List EntryParts → MadeNode) (first : ℕ) (ess : List (List EntryParts)) (slot : ℕ) (name : List ℕ) → slot < first → LacksLink (slots_with make first ess) slot name
lacks_after make first [] slot name less = tt
lacks_after make first (es ∷ ess) slot name less =
    lacks_both (slot_with make first es) (slots_with make (suc first) ess) slot name
    (lacks_there make first slot es name (λ same. let more = less in omega arith)) (lacks_after make (suc first) ess slot name (omega arith))

lacks_at : (make : List EntryParts → MadeNode) (first i : ℕ) (ess : List (List EntryParts)) (slot : ℕ) (name : List ℕ) → first + i ≡ slot → HasNeither name (slice_index_or ess i [])
    → LacksLink (slots_with make first ess) slot name
lacks_at make first i [] slot name at none = tt
lacks_at make first zero (es ∷ ess) slot name at none =
    let same : first ≡ slot = omega arith in
    lacks_both (slot_with make first es) (slots_with make (suc first) ess) slot name
    (subst (λ (n : ℕ). LacksLink (slot_with make first es) n name) same (lacks_here make first es name none)) (lacks_after make (suc first) ess slot name (omega arith))
lacks_at make first (suc i) (es ∷ ess) slot name at none =
    lacks_both (slot_with make first es) (slots_with make (suc first) ess) slot name
    (lacks_there make first slot es name (λ same. let more = at in omega arith)) (lacks_at make (suc first) i ess slot name (omega arith) none)

abbrev AllMiss : ℕ → Version → List ℕ → Type 0
AllMiss levels version name =
    (attributes : Attributes) (es : List EntryParts) → levels ≤ 8 → AreShards levels version attributes es → Lacks es name
    → Misses digest_by name (shard_root levels version attributes es).link (drop (8 - levels) (hash_of name))

misses_slot : (levels : ℕ) (version : Version) (from : Link) (hash : List ℕ) (slot : ℕ) (rest : List ℕ) (ess : List (List EntryParts)) (inside : List EntryParts) (name : List ℕ)
    → AllMiss levels version name → levels ≤ 8 → rest ≡ drop (8 - levels) (hash_of name) → hash ≡ slot ∷ rest → slot < length ess → slice_index_or ess slot [] ≡ inside
    → IsShard digest_by from (slots_with (below levels version) 0 ess) → HoldsIn (AreShards levels version no_attributes) inside → Lacks inside name → Misses digest_by name from hash
misses_slot levels version from hash slot rest ess [] name miss small rest_is hash_is less is shard holds lacks =
    misses_here slot rest (slots_with (below levels version) 0 ess) hash_is shard
    (lacks_at (below levels version) 0 slot ess slot name (omega arith) (subst (HasNeither name) (sym is) tt))
misses_slot levels version from hash slot rest ess (e ∷ []) name miss small rest_is hash_is less is shard holds lacks =
    misses_here slot rest (slots_with (below levels version) 0 ess) hash_is shard
    (lacks_at (below levels version) 0 slot ess slot name (omega arith) (subst (HasNeither name) (sym is) lacks.0))
misses_slot levels version from hash slot rest ess (e ∷ f ∷ es) name miss small rest_is hash_is less is shard holds lacks =
    misses_below slot rest (slots_with (below levels version) 0 ess) (below levels version (e ∷ f ∷ es)).link hash_is shard
    (link_at (below levels version) 0 slot ess (e ∷ f ∷ es) slot None (below levels version (e ∷ f ∷ es)).link less is (omega arith) (inl (refl, refl, refl)))
    (subst (λ (h : List ℕ). Misses digest_by name (below levels version (e ∷ f ∷ es)).link h) (sym rest_is) (miss no_attributes (e ∷ f ∷ es) small holds lacks))

pub all_miss : (levels : ℕ) (version : Version) (name : List ℕ) → AllMiss levels version name
unfolding AreShards
all_miss zero version name = λ attributes es small shards lacks. absurd shards
all_miss (suc levels) version name = λ attributes es small shards lacks.
    let depth = 7 - levels in
    let slot = slot_at depth name in
    let less : slot < 256 = slot_below depth name in
    let deeper : suc depth ≡ 8 - levels = omega arith in
    let same : 7 - levels ≡ 8 - suc levels = omega arith in
    let at = by_slot_at depth slot es [] less in
    misses_slot levels version (shard_root (suc levels) version attributes es).link (drop (8 - suc levels) (hash_of name)) slot (drop (suc depth) (hash_of name)) (by_slot depth es) (in_slot depth slot es) name
    (all_miss levels version name) (omega arith) (ap (λ (n : ℕ). drop n (hash_of name)) deeper)
    (ap (λ (n : ℕ). drop n (hash_of name)) (sym same) ∙ slot_first depth name (omega arith))
    (let long = by_slot_long depth es in omega arith) at shards.0
    (subst (HoldsIn (AreShards levels version no_attributes)) at (shards.1 slot [] (let long = by_slot_long depth es in omega arith)))
    (lacks_kept depth slot es name lacks)

-- ---- totals

within : (n m x y all : ℕ) → n ≡ m → m ≤ x → all ≡ x + y → n ≤ all
within n m x y all same less is = omega arith

later : (n x y all : ℕ) → n ≤ y → all ≡ x + y → n ≤ all
later n x y all less is = omega arith

sizes_cons : (s : SlotParts) (ss : List SlotParts) → tsizes_of (map link_of_slot (s ∷ ss)) ≡ unwrap_or s.tsize 0 + tsizes_of (map link_of_slot ss)
sizes_cons s ss = omega (arith, sum_by-cons (λ (n : ℕ). n) (unwrap_or s.tsize 0) (map tsize_of (map link_of_slot ss)))

size_one : (s : SlotParts) → tsizes_of (map link_of_slot (s ∷ [])) ≡ unwrap_or s.tsize 0
size_one s = omega (arith, sizes_cons s [])

sizes_both : (ss rest : List SlotParts) → tsizes_of (map link_of_slot (ss ++ rest)) ≡ tsizes_of (map link_of_slot ss) + tsizes_of (map link_of_slot rest)
sizes_both [] rest = omega arith
sizes_both (s ∷ ss) rest =
    let more = sizes_both ss rest in
    omega (arith, more, sizes_cons s (ss ++ rest), sizes_cons s ss)

size_here : (make : List EntryParts → MadeNode) (slot : ℕ) (es : List EntryParts) → 1 < length es → (make es).total ≤ tsizes_of (map link_of_slot (slot_with make slot es))
size_here make slot [] more = absurd (omega arith)
size_here make slot (e ∷ []) more = absurd (omega arith)
size_here make slot (e ∷ f ∷ es) more =
    let one = size_one (record { slot = slot; name = None; link = (make (e ∷ f ∷ es)).link; tsize = Some (make (e ∷ f ∷ es)).total }) in
    omega (arith, one)

size_at : (make : List EntryParts → MadeNode) (first i : ℕ) (ess : List (List EntryParts)) (inside : List EntryParts) → i < length ess → slice_index_or ess i [] ≡ inside → 1 < length inside
    → (make inside).total ≤ tsizes_of (map link_of_slot (slots_with make first ess))
size_at make first i [] inside less is more = absurd (omega arith)
size_at make first zero (es ∷ ess) inside less is more =
    let here = subst (λ (xs : List EntryParts). (make xs).total ≤ tsizes_of (map link_of_slot (slot_with make first xs))) (sym is) (size_here make first inside more) in
    within (make inside).total (make es).total (tsizes_of (map link_of_slot (slot_with make first es))) (tsizes_of (map link_of_slot (slots_with make (suc first) ess)))
    (tsizes_of (map link_of_slot (slots_with make first (es ∷ ess)))) (ap (λ (xs : List EntryParts). (make xs).total) (sym is)) here (sizes_both (slot_with make first es) (slots_with make (suc first) ess))
size_at make first (suc i) (es ∷ ess) inside less is more =
    later (make inside).total (tsizes_of (map link_of_slot (slot_with make first es))) (tsizes_of (map link_of_slot (slots_with make (suc first) ess)))
    (tsizes_of (map link_of_slot (slots_with make first (es ∷ ess)))) (size_at make (suc first) i ess inside (omega arith) is more) (sizes_both (slot_with make first es) (slots_with make (suc first) ess))

-- the total of a shard is at least that of each shard below it
pub total_at : (levels : ℕ) (version : Version) (attributes : Attributes) (es : List EntryParts) (slot : ℕ) → slot < 256 → 1 < length (in_slot (7 - levels) slot es)
    → (shard_root levels version no_attributes (in_slot (7 - levels) slot es)).total ≤ (shard_root (suc levels) version attributes es).total
unfolding shard_root node_with
total_at levels version attributes es slot less more =
    let most = size_at (below levels version) 0 slot (by_slot (7 - levels) es) (in_slot (7 - levels) slot es) (let long = by_slot_long (7 - levels) es in omega arith) (by_slot_at (7 - levels) slot es [] less) more in
    omega arith
