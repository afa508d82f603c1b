-- A listing has the entries that look-ups find.
use Rattle.std.proofs.Common.{◌≡◌, ℕ, true, false, List, [], ◌∷◌, ◌++◌, length, Option, Some, None, refl, sym, ap, subst, ◌∙◌, drop, take, inl, inr}
use Rattle.std.specs.Prelude.{◌⊎◌, bytes_eq, IfSome}
use Rattle.std.proofs.lemmas.Bool.{cases_Bool}
use Rattle.std.proofs.lemmas.Slice.Eq.{bytes_eq-Decides}
use Rattle.ipld_cid.specs.Cid.{Link}
use Rattle.dag_pb.specs.Node.{LinkParts}
use Rattle.pb_wire.proofs.Steps.{same_ok}
use Rattle.unixfs.specs.Data.{DataParts}
use Rattle.unixfs.specs.Files.{Hashing, IsBlockOf, Collision}
use Rattle.unixfs.specs.Nodes.{UnixFsParts, IsParsed}
use Rattle.unixfs_folders.specs.Folders.{EntryParts, SlotParts, FolderParts, plain, shard, IsFolderOf, IsFolder, NamesFolder, Has, HasLink, hash_of, Leads, leads_here, leads_below, IsPlainEntry, HasEntry}
use Rattle.unixfs_folders.specs.Listing.{Waiting, from_root, IsLedTo, AllStand, and_entry, entries_of, and_shard, shards_of, IsVisit, Lists, lists_none, lists_more}
use Rattle.unixfs_folders.proofs.Parsing.{folder_complete}

-- ---- one folder

-- a block is a node of UnixFS in at most one way
abbrev pub OneParse : Type 0
OneParse = (block : List ℕ) (links others : List LinkParts) (message other : DataParts) → IsParsed block links message → IsParsed block others other → (links ≡ others) × (message ≡ other)

folder_of_once : (links : List LinkParts) (message : DataParts) (f g : FolderParts) → IsFolderOf links message f → IsFolderOf links message g → f ≡ g
folder_of_once links message f g is also =
    let node : UnixFsParts = record { links = links; message = message } in
    same_ok (λ (x : FolderParts). f ≡ x) f g (sym (folder_complete node f is) ∙ folder_complete node g also) refl

folder_once : OneParse → (block : List ℕ) (f g : FolderParts) → IsFolder block f → IsFolder block g → f ≡ g
folder_once one block f g is also =
    let parsed = one block is.links also.links is.message also.message is.is_parsed also.is_parsed in
    folder_of_once also.links also.message f g
    (subst (λ (ls : List LinkParts). IsFolderOf ls also.message f) parsed.0 (subst (λ (d : DataParts). IsFolderOf is.links d f) parsed.1 is.is_folder)) also.is_folder

-- what follows from one of two things, unless there is a collision
pub either : {A B C : Type 0} → A ⊎ C → (A → B ⊎ C) → B ⊎ C
either (inl a) f = f a
either (inr c) f = inr c

-- a CID has one block, or there is a collision
pub one_block : (h : Hashing) (link : Link) (a b : List ℕ) → IsBlockOf h link a → IsBlockOf h link b → (a ≡ b) ⊎ Collision h
one_block h link a b has has_too =
    elim (cases_Bool (bytes_eq a b)) [
      | inl same ↦ inl ((bytes_eq-Decides a b).0 same)
      | inr differ ↦
          inr (record {
            code = link.code;
            digest = link.digest;
            block = a;
            other = b;
            differ = λ same. let test = (bytes_eq-Decides a b).1 same in let clash : true ≡ false = sym test ∙ differ in absurd cc;
            has = has;
            has_too = has_too;
          })
    ]

-- a CID names one folder, or there is a collision
pub named_once : OneParse → (h : Hashing) (link : Link) (f g : FolderParts) → NamesFolder h link f → NamesFolder h link g → (f ≡ g) ⊎ Collision h
named_once one h link f g (block, is) (other, also) =
    either (one_block h link block other is.is_block also.is_block) (λ same.
    inl (folder_once one other f g (subst (λ (b : List ℕ). IsFolder b f) same is.is_folder) also.is_folder))

-- ---- hashes

-- a hash that begins with a path and one more slot
pub led_split : (path : List ℕ) (slot : ℕ) (hash : List ℕ) → take (length (path ++ slot ∷ [])) hash ≡ path ++ slot ∷ []
    → (take (length path) hash ≡ path) × (drop (length path) hash ≡ slot ∷ drop (length (path ++ slot ∷ [])) hash)
led_split [] slot [] is = absurd cc
led_split [] slot (x ∷ hash) is = let same : x ≡ slot = cc in (refl, ap (λ (n : ℕ). n ∷ hash) same)
led_split (p ∷ path) slot [] is = absurd cc
led_split (p ∷ path) slot (x ∷ hash) is =
    let same : x ≡ p = cc in
    let tails : take (length (path ++ slot ∷ [])) hash ≡ path ++ slot ∷ [] = cc in
    let more = led_split path slot hash tails in
    (ap (λ (n : ℕ). n ∷ take (length path) hash) same ∙ ap (λ (xs : List ℕ). p ∷ xs) more.0, more.1)

led_join : (path : List ℕ) (slot : ℕ) (rest hash : List ℕ) → take (length path) hash ≡ path → drop (length path) hash ≡ slot ∷ rest
    → (take (length (path ++ slot ∷ [])) hash ≡ path ++ slot ∷ []) × (drop (length (path ++ slot ∷ [])) hash ≡ rest)
led_join [] slot rest [] front back = absurd cc
led_join [] slot rest (x ∷ hash) front back = let same : x ≡ slot = cc in let tails : hash ≡ rest = cc in (ap (λ (n : ℕ). n ∷ []) same, tails)
led_join (p ∷ path) slot rest [] front back = absurd cc
led_join (p ∷ path) slot rest (x ∷ hash) front back =
    let same : x ≡ p = cc in
    let tails : take (length path) hash ≡ path = cc in
    let more = led_join path slot rest hash tails back in
    (ap (λ (n : ℕ). n ∷ take (length (path ++ slot ∷ [])) hash) same ∙ ap (λ (xs : List ℕ). p ∷ xs) more.0, more.1)

-- ---- what a folder that waits has

-- what waits has this entry, in itself or below it
abbrev Holds : Hashing → Waiting → List ℕ → Link → Type 0
Holds h w name target = (IsLedTo w.path name × Leads h name target w.link (drop (length w.path) (hash_of name))) ⊎ ((w.path ≡ []) × IsPlainEntry h w.link name target)

abbrev OneHolds : Hashing → List Waiting → List ℕ → Link → Type 0
OneHolds h [] name target = ⊥
OneHolds h (w ∷ ws) name target = Holds h w name target ⊎ OneHolds h ws name target

-- the root has what it names
root_holds : (h : Hashing) (root : Link) (name : List ℕ) (target : Link) → HasEntry h root name target → Holds h (from_root root) name target
root_holds h root name target (inl entry) = inr (refl, entry)
root_holds h root name target (inr leads) = inl (refl, leads)

root_has : (h : Hashing) (root : Link) (name : List ℕ) (target : Link) → Holds h (from_root root) name target → HasEntry h root name target
root_has h root name target (inl has) = inr has.1
root_has h root name target (inr has) = inl has.1

-- ---- lists

has_front : (a b : List EntryParts) (name : List ℕ) (target : Link) → Has a name target → Has (a ++ b) name target
has_front [] b name target has = absurd has
has_front (e ∷ a) b name target (inl here) = inl here
has_front (e ∷ a) b name target (inr more) = inr (has_front a b name target more)

has_back : (a b : List EntryParts) (name : List ℕ) (target : Link) → Has b name target → Has (a ++ b) name target
has_back [] b name target has = has
has_back (e ∷ a) b name target has = inr (has_back a b name target has)

has_either : (a b : List EntryParts) (name : List ℕ) (target : Link) → Has (a ++ b) name target → Has a name target ⊎ Has b name target
has_either [] b name target has = inr has
has_either (e ∷ a) b name target (inl here) = inl (inl here)
has_either (e ∷ a) b name target (inr more) =
    elim (has_either a b name target more) [
      | inl front ↦ inl (inr front)
      | inr back ↦ inr back
    ]

holds_front : (h : Hashing) (a b : List Waiting) (name : List ℕ) (target : Link) → OneHolds h a name target → OneHolds h (a ++ b) name target
holds_front h [] b name target has = absurd has
holds_front h (w ∷ a) b name target (inl here) = inl here
holds_front h (w ∷ a) b name target (inr more) = inr (holds_front h a b name target more)

holds_back : (h : Hashing) (a b : List Waiting) (name : List ℕ) (target : Link) → OneHolds h b name target → OneHolds h (a ++ b) name target
holds_back h [] b name target has = has
holds_back h (w ∷ a) b name target has = inr (holds_back h a b name target has)

holds_either : (h : Hashing) (a b : List Waiting) (name : List ℕ) (target : Link) → OneHolds h (a ++ b) name target → OneHolds h a name target ⊎ OneHolds h b name target
holds_either h [] b name target has = inr has
holds_either h (w ∷ a) b name target (inl here) = inl (inl here)
holds_either h (w ∷ a) b name target (inr more) =
    elim (holds_either h a b name target more) [
      | inl front ↦ inl (inr front)
      | inr back ↦ inr back
    ]

-- ---- shards, up

-- an entry of a shard, with its slot
abbrev Stands : List ℕ → List SlotParts → List ℕ → Link → Type 0
Stands path ss name target = (slot : ℕ) × HasLink ss slot (Some name) target × IsLedTo (path ++ slot ∷ []) name

stands_more : (path : List ℕ) (s : SlotParts) (ss : List SlotParts) (name : List ℕ) (target : Link) → Stands path ss name target → Stands path (s ∷ ss) name target
stands_more path s ss name target (slot, link, led) = (slot, inr link, led)

entry_stands_by : (path : List ℕ) (s : SlotParts) (ss : List SlotParts) (name : List ℕ) (target : Link) (o : Option (List ℕ)) → s.name ≡ o → IfSome o (IsLedTo (path ++ s.slot ∷ []))
    → (Has (entries_of ss) name target → Stands path ss name target) → Has (and_entry o s (entries_of ss)) name target → Stands path (s ∷ ss) name target
entry_stands_by path s ss name target None is led more has = stands_more path s ss name target (more has)
entry_stands_by path s ss name target (Some n) is led more (inl here) =
    (s.slot, inl (refl, is ∙ ap (λ (x : List ℕ). Some x) here.0, here.1), subst (λ (x : List ℕ). IsLedTo (path ++ s.slot ∷ []) x) here.0 led)
entry_stands_by path s ss name target (Some n) is led more (inr others) = stands_more path s ss name target (more others)

entry_stands : (path : List ℕ) (ss : List SlotParts) (name : List ℕ) (target : Link) → AllStand path ss → Has (entries_of ss) name target → Stands path ss name target
entry_stands path [] name target all has = absurd has
entry_stands path (s ∷ ss) name target all has = entry_stands_by path s ss name target s.name refl all.0 (entry_stands path ss name target all.1) has

-- what a shard below has, by the slot that leads to it
abbrev Lies : Hashing → List ℕ → List SlotParts → List ℕ → Link → Type 0
Lies h path ss name target = (slot : ℕ) × (next : Link) × HasLink ss slot None next × IsLedTo (path ++ slot ∷ []) name × Leads h name target next (drop (length (path ++ slot ∷ [])) (hash_of name))

lies_more : (h : Hashing) (path : List ℕ) (s : SlotParts) (ss : List SlotParts) (name : List ℕ) (target : Link) → Lies h path ss name target → Lies h path (s ∷ ss) name target
lies_more h path s ss name target (slot, next, link, led, leads) = (slot, next, inr link, led, leads)

not_empty : (path : List ℕ) (slot : ℕ) → path ++ slot ∷ [] ≡ [] → ⊥
not_empty [] slot is = absurd cc
not_empty (p ∷ path) slot is = absurd cc

below_lies_by : (h : Hashing) (path : List ℕ) (s : SlotParts) (ss : List SlotParts) (name : List ℕ) (target : Link) (o : Option (List ℕ)) → s.name ≡ o
    → (OneHolds h (shards_of path ss) name target → Lies h path ss name target) → OneHolds h (and_shard path o s (shards_of path ss)) name target → Lies h path (s ∷ ss) name target
below_lies_by h path s ss name target (Some n) is more has = lies_more h path s ss name target (more has)
below_lies_by h path s ss name target None is more (inl (inl here)) = (s.slot, s.link, inl (refl, is, refl), here.0, here.1)
below_lies_by h path s ss name target None is more (inl (inr here)) = absurd (not_empty path s.slot here.0)
below_lies_by h path s ss name target None is more (inr others) = lies_more h path s ss name target (more others)

below_lies : (h : Hashing) (path : List ℕ) (ss : List SlotParts) (name : List ℕ) (target : Link) → OneHolds h (shards_of path ss) name target → Lies h path ss name target
below_lies h path [] name target has = absurd has
below_lies h path (s ∷ ss) name target has = below_lies_by h path s ss name target s.name refl (below_lies h path ss name target) has

-- what a visit adds is what waited
entry_up : (h : Hashing) (next : Waiting) (f : FolderParts) (entries : List EntryParts) (below : List Waiting) (name : List ℕ) (target : Link) → NamesFolder h next.link f → IsVisit next f entries below
    → Has entries name target → Holds h next name target
entry_up h next (plain es) entries below name target named visit has = inr (visit.0, (es, named, subst (λ (xs : List EntryParts). Has xs name target) visit.1 has))
entry_up h next (shard ss) entries below name target named visit has =
    let stands = entry_stands next.path ss name target visit.0 (subst (λ (xs : List EntryParts). Has xs name target) visit.1 has) in
    let split = led_split next.path stands.0 (hash_of name) stands.2 in
    inl (split.0, leads_here stands.0 (drop (length (next.path ++ stands.0 ∷ [])) (hash_of name)) ss split.1 named stands.1)

below_up : (h : Hashing) (next : Waiting) (f : FolderParts) (entries : List EntryParts) (below : List Waiting) (name : List ℕ) (target : Link) → NamesFolder h next.link f → IsVisit next f entries below
    → OneHolds h below name target → Holds h next name target
below_up h next (plain es) entries below name target named visit has = absurd (subst (λ (ws : List Waiting). OneHolds h ws name target) visit.2 has)
below_up h next (shard ss) entries below name target named visit has =
    let lies = below_lies h next.path ss name target (subst (λ (ws : List Waiting). OneHolds h ws name target) visit.2 has) in
    let split = led_split next.path lies.0 (hash_of name) lies.3 in
    inl (split.0, leads_below lies.0 (drop (length (next.path ++ lies.0 ∷ [])) (hash_of name)) ss lies.1 split.1 named lies.2 lies.4)

-- what remains is in the folder of the root
remain_up : (h : Hashing) (root : Link) (listed : List EntryParts) (remain : List Waiting) (name : List ℕ) (target : Link) → Lists h root listed remain → OneHolds h remain name target → HasEntry h root name target
remain_up h root listed remain name target (lists_none none is) has =
    elim (subst (λ (ws : List Waiting). OneHolds h ws name target) is has) [
      | inl here ↦ root_has h root name target here
      | inr more ↦ absurd more
    ]
remain_up h root listed remain name target (lists_more before old block entries lists takes is) has =
    let visits = takes.visits in
    let named : NamesFolder h takes.next.link visits.folder = (block, visits.is_folder) in
    let up = λ (holds : OneHolds h (takes.next ∷ takes.others) name target). remain_up h root before old name target lists (subst (λ (ws : List Waiting). OneHolds h ws name target) (sym takes.is_next) holds) in
    elim (holds_either h takes.below takes.others name target (subst (λ (ws : List Waiting). OneHolds h ws name target) takes.remain has)) [
      | inl here ↦ up (inl (below_up h takes.next visits.folder entries takes.below name target named visits.is_visit here))
      | inr more ↦ up (inr more)
    ]

pub listed_found : (h : Hashing) (root : Link) (listed : List EntryParts) (remain : List Waiting) (name : List ℕ) (target : Link) → Lists h root listed remain → Has listed name target → HasEntry h root name target
listed_found h root listed remain name target (lists_none none is) has = absurd (subst (λ (es : List EntryParts). Has es name target) none has)
listed_found h root listed remain name target (lists_more before old block entries lists takes is) has =
    let visits = takes.visits in
    let named : NamesFolder h takes.next.link visits.folder = (block, visits.is_folder) in
    elim (has_either before entries name target (subst (λ (es : List EntryParts). Has es name target) is has)) [
      | inl front ↦ listed_found h root before old name target lists front
      | inr here ↦
          remain_up h root before old name target lists
          (subst (λ (ws : List Waiting). OneHolds h ws name target) (sym takes.is_next) (inl (entry_up h takes.next visits.folder entries takes.below name target named visits.is_visit here)))
    ]

-- ---- shards, down

link_entry_by : (s : SlotParts) (ss : List SlotParts) (name : List ℕ) (target : Link) (o : Option (List ℕ)) → Has (entries_of ss) name target → Has (and_entry o s (entries_of ss)) name target
link_entry_by s ss name target None has = has
link_entry_by s ss name target (Some n) has = inr has

link_entry : (ss : List SlotParts) (slot : ℕ) (name : List ℕ) (target : Link) → HasLink ss slot (Some name) target → Has (entries_of ss) name target
link_entry [] slot name target link = absurd link
link_entry (s ∷ ss) slot name target (inl here) =
    subst (λ (o : Option (List ℕ)). Has (and_entry o s (entries_of ss)) name target) (sym here.1) (inl (refl, here.2))
link_entry (s ∷ ss) slot name target (inr more) = link_entry_by s ss name target s.name (link_entry ss slot name target more)

link_below_by : (h : Hashing) (path : List ℕ) (s : SlotParts) (ss : List SlotParts) (name : List ℕ) (target : Link) (o : Option (List ℕ)) → OneHolds h (shards_of path ss) name target
    → OneHolds h (and_shard path o s (shards_of path ss)) name target
link_below_by h path s ss name target None has = inr has
link_below_by h path s ss name target (Some n) has = has

link_below : (h : Hashing) (path : List ℕ) (ss : List SlotParts) (slot : ℕ) (next : Link) (name : List ℕ) (target : Link) → HasLink ss slot None next → IsLedTo (path ++ slot ∷ []) name
    → Leads h name target next (drop (length (path ++ slot ∷ [])) (hash_of name)) → OneHolds h (shards_of path ss) name target
link_below h path [] slot next name target link led leads = absurd link
link_below h path (s ∷ ss) slot next name target (inl here) led leads =
    subst (λ (o : Option (List ℕ)). OneHolds h (and_shard path o s (shards_of path ss)) name target) (sym here.1)
    (inl (inl (
      subst (λ (n : ℕ). IsLedTo (path ++ n ∷ []) name) (sym here.0) led,
      subst (λ (n : ℕ). Leads h name target s.link (drop (length (path ++ n ∷ [])) (hash_of name))) (sym here.0)
          (subst (λ (l : Link). Leads h name target l (drop (length (path ++ slot ∷ [])) (hash_of name))) (sym here.2) leads),
    )))
link_below h path (s ∷ ss) slot next name target (inr more) led leads = link_below_by h path s ss name target s.name (link_below h path ss slot next name target more led leads)

-- what waited is among the entries of the visit or below it, or there is a collision
abbrev Visited : Hashing → List EntryParts → List Waiting → List ℕ → Link → Type 0
Visited h entries below name target = (Has entries name target ⊎ OneHolds h below name target) ⊎ Collision h

pub plain_is : (es es' : List EntryParts) → plain es ≡ plain es' → es ≡ es'
plain_is es es' is = cc

pub shard_is : (ss ss' : List SlotParts) → shard ss ≡ shard ss' → ss ≡ ss'
shard_is ss ss' is = cc

pub not_both : (es : List EntryParts) (ss : List SlotParts) → plain es ≡ shard ss → ⊥
not_both es ss is = absurd cc

leads_down : OneParse → (h : Hashing) (next : Waiting) (ss : List SlotParts) (name : List ℕ) (target : Link) (hash : List ℕ) → NamesFolder h next.link (shard ss) → IsLedTo next.path name
    → drop (length next.path) (hash_of name) ≡ hash → Leads h name target next.link hash → Visited h (entries_of ss) (shards_of next.path ss) name target
leads_down one h next ss name target hash named led left (leads_here slot rest slots is_hash is_shard link) =
    elim (named_once one h next.link (shard slots) (shard ss) is_shard named) [
      | inl same ↦ inl (inl (link_entry ss slot name target (subst (λ (xs : List SlotParts). HasLink xs slot (Some name) target) (shard_is slots ss same) link)))
      | inr collision ↦ inr collision
    ]
leads_down one h next ss name target hash named led left (leads_below slot rest slots to is_hash is_shard link leads) =
    elim (named_once one h next.link (shard slots) (shard ss) is_shard named) [
      | inl same ↦
          let join = led_join next.path slot rest (hash_of name) led (left ∙ is_hash) in
          inl (inr (link_below h next.path ss slot to name target (subst (λ (xs : List SlotParts). HasLink xs slot None to) (shard_is slots ss same) link) join.0
          (subst (λ (xs : List ℕ). Leads h name target to xs) (sym join.1) leads)))
      | inr collision ↦ inr collision
    ]

-- a plain folder leads nowhere by a hash
pub leads_plain : OneParse → (h : Hashing) (from : Link) (es : List EntryParts) (name : List ℕ) (target : Link) (hash : List ℕ) → NamesFolder h from (plain es) → Leads h name target from hash → Collision h
leads_plain one h from es name target hash named (leads_here slot rest slots is_hash is_shard link) =
    elim (named_once one h from (plain es) (shard slots) named is_shard) [
      | inl same ↦ absurd (not_both es slots same)
      | inr collision ↦ collision
    ]
leads_plain one h from es name target hash named (leads_below slot rest slots to is_hash is_shard link leads) =
    elim (named_once one h from (plain es) (shard slots) named is_shard) [
      | inl same ↦ absurd (not_both es slots same)
      | inr collision ↦ collision
    ]

visit_down : OneParse → (h : Hashing) (next : Waiting) (f : FolderParts) (entries : List EntryParts) (below : List Waiting) (name : List ℕ) (target : Link) → NamesFolder h next.link f → IsVisit next f entries below
    → Holds h next name target → Visited h entries below name target
visit_down one h next (plain es) entries below name target named visit (inl has) = inr (leads_plain one h next.link es name target (drop (length next.path) (hash_of name)) named has.1)
visit_down one h next (plain es) entries below name target named visit (inr (root, (es', also, has))) =
    elim (named_once one h next.link (plain es') (plain es) also named) [
      | inl same ↦ inl (inl (subst (λ (xs : List EntryParts). Has xs name target) (plain_is es' es same ∙ sym visit.1) has))
      | inr collision ↦ inr collision
    ]
visit_down one h next (shard ss) entries below name target named visit (inl has) =
    subst (λ (xs : List EntryParts). Visited h xs below name target) (sym visit.1) (subst (λ (ws : List Waiting). Visited h (entries_of ss) ws name target) (sym visit.2)
    (leads_down one h next ss name target (drop (length next.path) (hash_of name)) named has.0 refl has.1))
visit_down one h next (shard ss) entries below name target named visit (inr (root, (es', also, has))) =
    elim (named_once one h next.link (plain es') (shard ss) also named) [
      | inl same ↦ absurd (not_both es' ss same)
      | inr collision ↦ inr collision
    ]

-- what the root has was listed, or remains, or there is a collision
all_down : OneParse → (h : Hashing) (root : Link) (listed : List EntryParts) (remain : List Waiting) (name : List ℕ) (target : Link) → Lists h root listed remain → HasEntry h root name target → Visited h listed remain name target
all_down one h root listed remain name target (lists_none none is) has =
    inl (inr (subst (λ (ws : List Waiting). OneHolds h ws name target) (sym is) (inl (root_holds h root name target has))))
all_down one h root listed remain name target (lists_more before old block entries lists takes is) has =
    let visits = takes.visits in
    let named : NamesFolder h takes.next.link visits.folder = (block, visits.is_folder) in
    let listed_so = λ (x : Has (before ++ entries) name target). subst (λ (es : List EntryParts). Has es name target) (sym is) x in
    let remains = λ (x : OneHolds h (takes.below ++ takes.others) name target). subst (λ (ws : List Waiting). OneHolds h ws name target) (sym takes.remain) x in
    elim (all_down one h root before old name target lists has) [
      | inr collision ↦ inr collision
      | inl (inl front) ↦ inl (inl (listed_so (has_front before entries name target front)))
      | inl (inr waits) ↦
          elim (subst (λ (ws : List Waiting). OneHolds h ws name target) takes.is_next waits) [
            | inr others ↦ inl (inr (remains (holds_back h takes.below takes.others name target others)))
            | inl here ↦
                elim (visit_down one h takes.next visits.folder entries takes.below name target named visits.is_visit here) [
                  | inr collision ↦ inr collision
                  | inl (inl entry) ↦ inl (inl (listed_so (has_back before entries name target entry)))
                  | inl (inr below) ↦ inl (inr (remains (holds_front h takes.below takes.others name target below)))
                ]
          ]
    ]

pub found_listed : OneParse → (h : Hashing) (root : Link) (listed : List EntryParts) (name : List ℕ) (target : Link) → Lists h root listed [] → HasEntry h root name target → Has listed name target ⊎ Collision h
found_listed one h root listed name target lists has =
    elim (all_down one h root listed [] name target lists has) [
      | inl (inl listed_is) ↦ inl listed_is
      | inl (inr remains) ↦ absurd remains
      | inr collision ↦ inr collision
    ]
