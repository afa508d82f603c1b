-- A folder has at most one entry of a name, and one or none.
use Rattle.std.proofs.Common.{◌≡◌, ◌≤◌, ℕ, suc, List, [], ◌∷◌, Option, Some, None, sym, subst, ◌∙◌, arith, inl, inr}
use Rattle.std.specs.Prelude.{◌⊎◌, ◌≢◌}
use Rattle.ipld_cid.specs.Cid.{Link}
use Rattle.unixfs.specs.Files.{Hashing, Collision}
use Rattle.unixfs_folders.specs.Folders.{EntryParts, SlotParts, plain, shard, AreSlots, NamesFolder, IsShard, Has, Lacks, HasLink, LacksLink, hash_of, Leads, leads_here, leads_below, Misses, misses_here, misses_below, HasEntry, HasNoEntry}
use Rattle.unixfs_folders.specs.Laws.{AllDiffer}
use Rattle.unixfs_folders.proofs.Differing.{plain_differ}
use Rattle.unixfs_folders.proofs.Listings.{OneParse, named_once, plain_is, shard_is, not_both, leads_plain}

-- ---- in one folder

has_lacks : (es : List EntryParts) (name : List ℕ) (target : Link) → Has es name target → Lacks es name → ⊥
has_lacks [] name target has lacks = has
has_lacks (e ∷ es) name target (inl here) lacks = lacks.0 here.0
has_lacks (e ∷ es) name target (inr more) lacks = has_lacks es name target more lacks.1

has_once : (es : List EntryParts) (name : List ℕ) (target other : Link) → AllDiffer es → Has es name target → Has es name other → target ≡ other
has_once [] name target other differ has also = absurd has
has_once (e ∷ es) name target other differ (inl here) (inl also) = sym here.1 ∙ also.1
has_once (e ∷ es) name target other differ (inl here) (inr also) = absurd (has_lacks es name other also (subst (λ (n : List ℕ). Lacks es n) here.0 differ.0))
has_once (e ∷ es) name target other differ (inr here) (inl also) = absurd (has_lacks es name target here (subst (λ (n : List ℕ). Lacks es n) also.0 differ.0))
has_once (e ∷ es) name target other differ (inr here) (inr also) = has_once es name target other differ.1 here also

-- a slot from `least` on is no slot below it
from_least : (least slot : ℕ) (ss : List SlotParts) (o : Option (List ℕ)) (target : Link) → AreSlots least ss → HasLink ss slot o target → least ≤ slot
from_least least slot [] o target are link = absurd link
from_least least slot (s ∷ ss) o target are (inl here) = let same = here.0 in let from = are.0 in omega arith
from_least least slot (s ∷ ss) o target are (inr more) = let later = from_least (suc s.slot) slot ss o target are.3 more in let from = are.0 in omega arith

-- a slot has one link
link_once : (least slot : ℕ) (ss : List SlotParts) (o p : Option (List ℕ)) (target other : Link) → AreSlots least ss → HasLink ss slot o target → HasLink ss slot p other → (o ≡ p) × (target ≡ other)
link_once least slot [] o p target other are link also = absurd link
link_once least slot (s ∷ ss) o p target other are (inl here) (inl also) = (sym here.1 ∙ also.1, sym here.2 ∙ also.2)
link_once least slot (s ∷ ss) o p target other are (inl here) (inr also) =
    let same = here.0 in let later = from_least (suc s.slot) slot ss p other are.3 also in absurd (omega arith)
link_once least slot (s ∷ ss) o p target other are (inr here) (inl also) =
    let same = also.0 in let later = from_least (suc s.slot) slot ss o target are.3 here in absurd (omega arith)
link_once least slot (s ∷ ss) o p target other are (inr here) (inr also) = link_once (suc s.slot) slot ss o p target other are.3 here also

-- a slot with this link has another name
link_lacks : (slot : ℕ) (ss : List SlotParts) (name : List ℕ) (o : Option (List ℕ)) (target : Link) → HasLink ss slot o target → LacksLink ss slot name → (other : List ℕ) × (o ≡ Some other) × (other ≢ name)
link_lacks slot [] name o target link lacks = absurd link
link_lacks slot (s ∷ ss) name o target (inl here) lacks = let is = lacks.0 here.0 in (is.0, sym here.1 ∙ is.1, is.2)
link_lacks slot (s ∷ ss) name o target (inr more) lacks = link_lacks slot ss name o target more lacks.1

some_none : (name : List ℕ) → ◌≡◌ {A = Option (List ℕ)} (Some name) None → ⊥
some_none name is = absurd cc

none_some : (name : List ℕ) → ◌≡◌ {A = Option (List ℕ)} None (Some name) → ⊥
none_some name is = absurd cc

same_name : (name other : List ℕ) → ◌≡◌ {A = Option (List ℕ)} (Some name) (Some other) → other ≡ name
same_name name other is = cc

record SameStep (slot slot' : ℕ) (rest rest' : List ℕ) : Type 0 where
  slots : slot ≡ slot'
  rests : rest ≡ rest'

same_step : (hash : List ℕ) (slot slot' : ℕ) (rest rest' : List ℕ) → hash ≡ slot ∷ rest → hash ≡ slot' ∷ rest' → SameStep slot slot' rest rest'
same_step hash slot slot' rest rest' is also =
    let both : slot ∷ rest ≡ slot' ∷ rest' = sym is ∙ also in
    record { slots = cc; rests = cc }

-- ---- by a hash

-- what is so in one shard, or a collision
in_one : {P : Type 0} → OneParse → (h : Hashing) (from : Link) (ss ss' : List SlotParts) → IsShard h from ss → IsShard h from ss' → (ss ≡ ss' → P ⊎ Collision h) → P ⊎ Collision h
in_one one h from ss ss' is also then =
    elim (named_once one h from (shard ss) (shard ss') is also) [
      | inl same ↦ then (shard_is ss ss' same)
      | inr collision ↦ inr collision
    ]

leads_once : OneParse → (h : Hashing) (name : List ℕ) (target other from : Link) (hash : List ℕ) → Leads h name target from hash → Leads h name other from hash → (target ≡ other) ⊎ Collision h
leads_once one h name target other from hash (leads_here slot rest ss is shard_is link) (leads_here slot' rest' ss' also shard_also link') =
    in_one one h from ss ss' shard_is shard_also (λ same.
    let step = same_step hash slot slot' rest rest' is also in
    let here = subst (λ (s : ℕ). HasLink ss' s (Some name) target) step.slots (subst (λ (xs : List SlotParts). HasLink xs slot (Some name) target) same link) in
    inl (link_once 0 slot' ss' (Some name) (Some name) target other shard_also.1.is_folder.is_folder.are_slots here link').1)
leads_once one h name target other from hash (leads_here slot rest ss is shard_is link) (leads_below slot' rest' ss' next' also shard_also link' leads') =
    in_one one h from ss ss' shard_is shard_also (λ same.
    let step = same_step hash slot slot' rest rest' is also in
    let here = subst (λ (s : ℕ). HasLink ss' s (Some name) target) step.slots (subst (λ (xs : List SlotParts). HasLink xs slot (Some name) target) same link) in
    absurd (some_none name (link_once 0 slot' ss' (Some name) None target next' shard_also.1.is_folder.is_folder.are_slots here link').0))
leads_once one h name target other from hash (leads_below slot rest ss next is shard_is link leads) (leads_here slot' rest' ss' also shard_also link') =
    in_one one h from ss ss' shard_is shard_also (λ same.
    let step = same_step hash slot slot' rest rest' is also in
    let here = subst (λ (s : ℕ). HasLink ss' s None next) step.slots (subst (λ (xs : List SlotParts). HasLink xs slot None next) same link) in
    absurd (none_some name (link_once 0 slot' ss' None (Some name) next other shard_also.1.is_folder.is_folder.are_slots here link').0))
leads_once one h name target other from hash (leads_below slot rest ss next is shard_is link leads) (leads_below slot' rest' ss' next' also shard_also link' leads') =
    in_one one h from ss ss' shard_is shard_also (λ same.
    let step = same_step hash slot slot' rest rest' is also in
    let here = subst (λ (s : ℕ). HasLink ss' s None next) step.slots (subst (λ (xs : List SlotParts). HasLink xs slot None next) same link) in
    let down = (link_once 0 slot' ss' None None next next' shard_also.1.is_folder.is_folder.are_slots here link').1 in
    leads_once one h name target other next rest leads
    (subst (λ (l : Link). Leads h name other l rest) (sym down) (subst (λ (xs : List ℕ). Leads h name other next' xs) (sym step.rests) leads')))

leads_misses : OneParse → (h : Hashing) (name : List ℕ) (target from : Link) (hash : List ℕ) → Leads h name target from hash → Misses h name from hash → ⊥ ⊎ Collision h
leads_misses one h name target from hash (leads_here slot rest ss is shard_is link) (misses_here slot' rest' ss' also shard_also lacks) =
    in_one one h from ss ss' shard_is shard_also (λ same.
    let step = same_step hash slot slot' rest rest' is also in
    let here = subst (λ (s : ℕ). HasLink ss' s (Some name) target) step.slots (subst (λ (xs : List SlotParts). HasLink xs slot (Some name) target) same link) in
    let differs = link_lacks slot' ss' name (Some name) target here lacks in
    absurd (differs.2 (same_name name differs.0 differs.1)))
leads_misses one h name target from hash (leads_here slot rest ss is shard_is link) (misses_below slot' rest' ss' next' also shard_also link' misses) =
    in_one one h from ss ss' shard_is shard_also (λ same.
    let step = same_step hash slot slot' rest rest' is also in
    let here = subst (λ (s : ℕ). HasLink ss' s (Some name) target) step.slots (subst (λ (xs : List SlotParts). HasLink xs slot (Some name) target) same link) in
    absurd (some_none name (link_once 0 slot' ss' (Some name) None target next' shard_also.1.is_folder.is_folder.are_slots here link').0))
leads_misses one h name target from hash (leads_below slot rest ss next is shard_is link leads) (misses_here slot' rest' ss' also shard_also lacks) =
    in_one one h from ss ss' shard_is shard_also (λ same.
    let step = same_step hash slot slot' rest rest' is also in
    let here = subst (λ (s : ℕ). HasLink ss' s None next) step.slots (subst (λ (xs : List SlotParts). HasLink xs slot None next) same link) in
    let differs = link_lacks slot' ss' name None next here lacks in
    absurd (none_some differs.0 differs.1))
leads_misses one h name target from hash (leads_below slot rest ss next is shard_is link leads) (misses_below slot' rest' ss' next' also shard_also link' misses) =
    in_one one h from ss ss' shard_is shard_also (λ same.
    let step = same_step hash slot slot' rest rest' is also in
    let here = subst (λ (s : ℕ). HasLink ss' s None next) step.slots (subst (λ (xs : List SlotParts). HasLink xs slot None next) same link) in
    let down = (link_once 0 slot' ss' None None next next' shard_also.1.is_folder.is_folder.are_slots here link').1 in
    leads_misses one h name target next rest leads
    (subst (λ (l : Link). Misses h name l rest) (sym down) (subst (λ (xs : List ℕ). Misses h name next' xs) (sym step.rests) misses)))

-- a plain folder misses nothing by a hash
misses_plain : OneParse → (h : Hashing) (from : Link) (es : List EntryParts) (name hash : List ℕ) → NamesFolder h from (plain es) → Misses h name from hash → Collision h
misses_plain one h from es name hash named (misses_here slot rest ss is shard_is lacks) =
    elim (named_once one h from (plain es) (shard ss) named shard_is) [
      | inl same ↦ absurd (not_both es ss same)
      | inr collision ↦ collision
    ]
misses_plain one h from es name hash named (misses_below slot rest ss next is shard_is link misses) =
    elim (named_once one h from (plain es) (shard ss) named shard_is) [
      | inl same ↦ absurd (not_both es ss same)
      | inr collision ↦ collision
    ]

-- ---- entries

pub entry_once : OneParse → (h : Hashing) (folder : Link) (name : List ℕ) (target other : Link) → HasEntry h folder name target → HasEntry h folder name other → (target ≡ other) ⊎ Collision h
entry_once one h folder name target other (inl (es, named, has)) (inl (es', also, has')) =
    elim (named_once one h folder (plain es) (plain es') named also) [
      | inl same ↦
          let here = subst (λ (xs : List EntryParts). Has xs name target) (plain_is es es' same) has in
          inl (has_once es' name target other (plain_differ None es' also.1.is_folder.is_folder.are_entries) here has')
      | inr collision ↦ inr collision
    ]
entry_once one h folder name target other (inl (es, named, has)) (inr leads) = inr (leads_plain one h folder es name other (hash_of name) named leads)
entry_once one h folder name target other (inr leads) (inl (es, named, has)) = inr (leads_plain one h folder es name target (hash_of name) named leads)
entry_once one h folder name target other (inr leads) (inr also) = leads_once one h name target other folder (hash_of name) leads also

either_collides : {h : Hashing} → ⊥ ⊎ Collision h → Collision h
either_collides (inl none) = absurd none
either_collides (inr collision) = collision

pub one_or_none : OneParse → (h : Hashing) (folder : Link) (name : List ℕ) (target : Link) → HasEntry h folder name target → HasNoEntry h folder name → Collision h
one_or_none one h folder name target (inl (es, named, has)) (inl (es', also, lacks)) =
    elim (named_once one h folder (plain es) (plain es') named also) [
      | inl same ↦ absurd (has_lacks es' name target (subst (λ (xs : List EntryParts). Has xs name target) (plain_is es es' same) has) lacks)
      | inr collision ↦ collision
    ]
one_or_none one h folder name target (inl (es, named, has)) (inr misses) = misses_plain one h folder es name (hash_of name) named misses
one_or_none one h folder name target (inr leads) (inl (es, named, lacks)) = leads_plain one h folder es name target (hash_of name) named leads
one_or_none one h folder name target (inr leads) (inr misses) = either_collides (leads_misses one h name target folder (hash_of name) leads misses)
