-- What folders say of a name is what their entries are.
use Rattle.std.proofs.Common.{◌≡◌, ◌<◌, ◌+◌, add-one, option_map, ℕ, zero, suc, true, false, List, [], ◌∷◌, length, Option, Some, None, Result, Ok, Err, refl, sym, ap, subst, ◌∙◌, arith, drop, inl, inr}
use Rattle.std.specs.Prelude.{◌==◌, ◌≢◌, nat_lt, bytes_eq, slice_index, MatchResult}
use Rattle.std.proofs.Math.Seq.{drop-cons}
use Rattle.std.proofs.lemmas.Bool.{cases_Bool}
use Rattle.std.proofs.lemmas.Bool.Decides.{nat_tests}
use Rattle.std.proofs.lemmas.Option.{same_Some}
use Rattle.std.proofs.lemmas.Slice.Eq.{bytes_eq-Decides}
use Rattle.ipld_cid.specs.Cid.{Link}
use Rattle.ipld_cid.specs.declared.cid.CidGeneric.{CidGeneric}
use Rattle.ipld_cid.specs.LinkOf.{link_of}
use Rattle.pb_wire.proofs.Steps.{same_ok}
use Rattle.unixfs_folders.specs.declared.saying.Saying as code
use Rattle.unixfs_folders.specs.SayingOf.{saying_of}
use Rattle.unixfs_folders.specs.Views.{IsMemory}
use Rattle.unixfs.specs.Files.{Hashing}
use Rattle.unixfs_folders.specs.declared.error.FolderErrorKind.{FolderErrorKind}
use Rattle.unixfs_folders.specs.Folders.{EntryParts, SlotParts, AreSlots, FolderParts, plain, shard, IsFolderIn, Has, Lacks, HasLink, LacksLink, hash_of, Leads, leads_here, leads_below, Misses, misses_here, misses_below, HasEntry, HasNoEntry}
use Rattle.unixfs_folders.specs.Sayings.{Saying, entry, nothing, deeper, named, said_by, said_in, said, Says}
use Rattle.unixfs_folders.specs.Lookups.{Descends, at_root, at_shard}

-- ---- plain folders

named_found : (name : List ℕ) (es : List EntryParts) (target : Link) → named name es ≡ entry target → Has es name target
named_found name [] target is = absurd cc
named_found name (e ∷ es) target is =
    elim (cases_Bool (bytes_eq e.name name)) [
      | inl same ↦ let here = rw same at is in inl ((bytes_eq-Decides e.name name).0 same, cc)
      | inr other ↦ let more = rw other at is in inr (named_found name es target more)
    ]

named_lacks : (name : List ℕ) (es : List EntryParts) → named name es ≡ nothing → Lacks es name
named_lacks name [] is = tt
named_lacks name (e ∷ es) is =
    elim (cases_Bool (bytes_eq e.name name)) [
      | inl same ↦ let here = rw same at is in absurd cc
      | inr other ↦ let more = rw other at is in ((λ same. let test = (bytes_eq-Decides e.name name).1 same in let clash : true ≡ false = sym test ∙ other in absurd cc), named_lacks name es more)
    ]

named_shallow : (name : List ℕ) (es : List EntryParts) (next : Link) → named name es ≡ deeper next → ⊥
named_shallow name [] next is = absurd cc
named_shallow name (e ∷ es) next is =
    elim (cases_Bool (bytes_eq e.name name)) [
      | inl same ↦ let here = rw same at is in absurd cc
      | inr other ↦ let more = rw other at is in named_shallow name es next more
    ]

-- ---- shards

by_found : (name : List ℕ) (depth : ℕ) (o : Option (List ℕ)) (link target : Link) → said_by name depth o link ≡ Ok (entry target) → (o ≡ Some name) × (link ≡ target)
unfolding said_by
by_found name depth None link target is =
    elim (cases_Bool (nat_lt depth 7)) [
      | inl above ↦ let here = rw above at is in absurd cc
      | inr last ↦ let here = rw last at is in absurd cc
    ]
by_found name depth (Some other) link target is =
    elim (cases_Bool (bytes_eq other name)) [
      | inl same ↦ let here = rw same at is in (ap (λ (n : List ℕ). Some n) ((bytes_eq-Decides other name).0 same), cc)
      | inr differs ↦ let here = rw differs at is in absurd cc
    ]

by_missing : (name : List ℕ) (depth : ℕ) (o : Option (List ℕ)) (link : Link) → said_by name depth o link ≡ Ok nothing → (other : List ℕ) × (o ≡ Some other) × (other ≢ name)
unfolding said_by
by_missing name depth None link is =
    elim (cases_Bool (nat_lt depth 7)) [
      | inl above ↦ let here = rw above at is in absurd cc
      | inr last ↦ let here = rw last at is in absurd cc
    ]
by_missing name depth (Some other) link is =
    elim (cases_Bool (bytes_eq other name)) [
      | inl same ↦ let here = rw same at is in absurd cc
      | inr differs ↦ (other, refl, (λ same. let test = (bytes_eq-Decides other name).1 same in let clash : true ≡ false = sym test ∙ differs in absurd cc))
    ]

by_deeper : (name : List ℕ) (depth : ℕ) (o : Option (List ℕ)) (link next : Link) → said_by name depth o link ≡ Ok (deeper next) → (o ≡ None) × (link ≡ next) × (depth < 7)
unfolding said_by
by_deeper name depth None link next is =
    elim (cases_Bool (nat_lt depth 7)) [
      | inl above ↦ let here = rw above at is in (refl, cc, grind (arith, nat_tests))
      | inr last ↦ let here = rw last at is in absurd cc
    ]
by_deeper name depth (Some other) link next is =
    elim (cases_Bool (bytes_eq other name)) [
      | inl same ↦ let here = rw same at is in absurd cc
      | inr differs ↦ let here = rw differs at is in absurd cc
    ]

slot_same : (a b : ℕ) → (a == b) ≡ true → a ≡ b
slot_same a b is = grind (arith, nat_tests)

slot_other : (a b : ℕ) → (a == b) ≡ false → a ≢ b
slot_other a b is = λ same. let e : a ≡ b = same in absurd (grind (arith, nat_tests))

in_found : (name : List ℕ) (depth slot : ℕ) (ss : List SlotParts) (target : Link) → said_in name depth slot ss ≡ Ok (entry target) → HasLink ss slot (Some name) target
in_found name depth slot [] target is = absurd cc
in_found name depth slot (s ∷ ss) target is =
    elim (cases_Bool (s.slot == slot)) [
      | inl same ↦ let here = rw same at is in let by = by_found name depth s.name s.link target here in inl (slot_same s.slot slot same, by.0, by.1)
      | inr other ↦ let more = rw other at is in inr (in_found name depth slot ss target more)
    ]

in_deeper : (name : List ℕ) (depth slot : ℕ) (ss : List SlotParts) (next : Link) → said_in name depth slot ss ≡ Ok (deeper next) → HasLink ss slot None next × (depth < 7)
in_deeper name depth slot [] next is = absurd cc
in_deeper name depth slot (s ∷ ss) next is =
    elim (cases_Bool (s.slot == slot)) [
      | inl same ↦ let here = rw same at is in let by = by_deeper name depth s.name s.link next here in (inl (slot_same s.slot slot same, by.0, by.1), by.2)
      | inr other ↦ let more = rw other at is in let rest = in_deeper name depth slot ss next more in (inr rest.0, rest.1)
    ]

-- no slot from `least` on is one below it
later : (name : List ℕ) (least slot : ℕ) (ss : List SlotParts) → AreSlots least ss → slot < least → LacksLink ss slot name
later name least slot [] are below = tt
later name least slot (s ∷ ss) are below =
    let from = are.0 in
    ((λ same. let e : s.slot ≡ slot = same in absurd (omega arith)), later name (suc s.slot) slot ss are.3 (omega arith))

in_missing : (name : List ℕ) (depth slot least : ℕ) (ss : List SlotParts) → AreSlots least ss → said_in name depth slot ss ≡ Ok nothing → LacksLink ss slot name
in_missing name depth slot least [] are is = tt
in_missing name depth slot least (s ∷ ss) are is =
    elim (cases_Bool (s.slot == slot)) [
      | inl same ↦
          let here = rw same at is in
          let e = slot_same s.slot slot same in
          ((λ _. by_missing name depth s.name s.link here), later name (suc s.slot) slot ss are.3 (omega arith))
      | inr other ↦ let more = rw other at is in ((λ same. absurd (slot_other s.slot slot other same)), in_missing name depth slot (suc s.slot) ss are.3 more)
    ]

-- ---- the hash of a name

hash_length : (name : List ℕ) → length (hash_of name) ≡ 8
hash_length name = refl

hash_at : (name : List ℕ) (depth : ℕ) → depth < 8 → drop depth (hash_of name) ≡ slice_index (hash_of name) depth ∷ drop (suc depth) (hash_of name)
hash_at name depth below = drop-cons (hash_of name) depth 0 (let long = hash_length name in omega arith)

drop_next : (xs : List ℕ) (n slot : ℕ) (rest : List ℕ) → drop n xs ≡ slot ∷ rest → drop (suc n) xs ≡ rest
drop_next [] zero slot rest is = absurd cc
drop_next [] (suc n) slot rest is = absurd cc
drop_next (x ∷ xs) zero slot rest is = cc
drop_next (x ∷ xs) (suc n) slot rest is = drop_next xs n slot rest is

-- ---- descents

-- what a shard leads to, the root leads to
pub leads_up : (h : Hashing) (root : Link) (name : List ℕ) (target : Link) (depth : ℕ) (at : Link) → Descends h root name depth at
    → Leads h name target at (drop depth (hash_of name)) → Leads h name target root (hash_of name)
leads_up h root name target depth at (at_root none is) leads =
    subst (λ (l : Link). Leads h name target l (hash_of name)) is (subst (λ (n : ℕ). Leads h name target at (drop n (hash_of name))) none leads)
leads_up h root name target depth at (at_shard above from slots slot rest walk is_shard is_hash link is) leads =
    let left : drop depth (hash_of name) ≡ rest = ap (λ (n : ℕ). drop n (hash_of name)) is ∙ drop_next (hash_of name) above slot rest is_hash in
    leads_up h root name target above from walk
    (leads_below slot rest slots at is_hash is_shard link (subst (λ (xs : List ℕ). Leads h name target at xs) left leads))

pub misses_up : (h : Hashing) (root : Link) (name : List ℕ) (depth : ℕ) (at : Link) → Descends h root name depth at
    → Misses h name at (drop depth (hash_of name)) → Misses h name root (hash_of name)
misses_up h root name depth at (at_root none is) misses =
    subst (λ (l : Link). Misses h name l (hash_of name)) is (subst (λ (n : ℕ). Misses h name at (drop n (hash_of name))) none misses)
misses_up h root name depth at (at_shard above from slots slot rest walk is_shard is_hash link is) misses =
    let left : drop depth (hash_of name) ≡ rest = ap (λ (n : ℕ). drop n (hash_of name)) is ∙ drop_next (hash_of name) above slot rest is_hash in
    misses_up h root name above from walk
    (misses_below slot rest slots at is_hash is_shard link (subst (λ (xs : List ℕ). Misses h name at xs) left misses))

-- only the root is at depth 0
rooted : (h : Hashing) (root : Link) (name : List ℕ) (depth : ℕ) (at : Link) → Descends h root name depth at → depth ≡ 0 → at ≡ root
rooted h root name depth at (at_root none is) zero_is = is
rooted h root name depth at (at_shard above from slots slot rest walk is_shard is_hash link is) zero_is = absurd (omega arith)

-- ---- answers

-- a plain folder stands at the root alone
plain_said : (name : List ℕ) (depth : ℕ) (es : List EntryParts) (saying : Saying) → said name depth (plain es) ≡ Ok saying → (depth ≡ 0) × (named name es ≡ saying)
unfolding said
plain_said name depth es saying is =
    elim (cases_Bool (depth == 0)) [
      | inl none ↦ let here = rw none at is in (slot_same depth 0 none, cc)
      | inr below ↦ let here = rw below at is in absurd cc
    ]

shard_said : (name : List ℕ) (depth : ℕ) (ss : List SlotParts) (saying : Saying) → said name depth (shard ss) ≡ Ok saying → said_in name depth (slice_index (hash_of name) depth) ss ≡ Ok saying
unfolding said
shard_said name depth ss saying is = is

entry_in : (h : Hashing) (root at : Link) (name : List ℕ) (depth : ℕ) (block : List ℕ) (target : Link) (f : FolderParts) → depth < 8 → IsFolderIn h at block f → said name depth f ≡ Ok (entry target)
    → Descends h root name depth at → HasEntry h root name target
entry_in h root at name depth block target (plain es) below is_folder is walk =
    let at_depth = plain_said name depth es (entry target) is in
    subst (λ (l : Link). HasEntry h l name target) (rooted h root name depth at walk at_depth.0)
    (inl (es, (block, is_folder), named_found name es target at_depth.1))
entry_in h root at name depth block target (shard ss) below is_folder is walk =
    let slot = slice_index (hash_of name) depth in
    inr (leads_up h root name target depth at walk
    (leads_here slot (drop (suc depth) (hash_of name)) ss (hash_at name depth below) (block, is_folder) (in_found name depth slot ss target (shard_said name depth ss (entry target) is))))

none_in : (h : Hashing) (root at : Link) (name : List ℕ) (depth : ℕ) (block : List ℕ) (f : FolderParts) → depth < 8 → IsFolderIn h at block f → said name depth f ≡ Ok nothing
    → Descends h root name depth at → HasNoEntry h root name
none_in h root at name depth block (plain es) below is_folder is walk =
    let at_depth = plain_said name depth es nothing is in
    subst (λ (l : Link). HasNoEntry h l name) (rooted h root name depth at walk at_depth.0)
    (inl (es, (block, is_folder), named_lacks name es at_depth.1))
none_in h root at name depth block (shard ss) below is_folder is walk =
    let slot = slice_index (hash_of name) depth in
    inr (misses_up h root name depth at walk
    (misses_here slot (drop (suc depth) (hash_of name)) ss (hash_at name depth below) (block, is_folder)
    (in_missing name depth slot 0 ss is_folder.is_folder.is_folder.are_slots (shard_said name depth ss nothing is))))

deeper_in : (h : Hashing) (root at : Link) (name : List ℕ) (depth : ℕ) (block : List ℕ) (next : Link) (f : FolderParts) → depth < 8 → IsFolderIn h at block f → said name depth f ≡ Ok (deeper next)
    → Descends h root name depth at → Descends h root name (suc depth) next
deeper_in h root at name depth block next (plain es) below is_folder is walk = absurd (named_shallow name es next (plain_said name depth es (deeper next) is).1)
deeper_in h root at name depth block next (shard ss) below is_folder is walk =
    let slot = slice_index (hash_of name) depth in
    let link = in_deeper name depth slot ss next (shard_said name depth ss (deeper next) is) in
    at_shard depth at ss slot (drop (suc depth) (hash_of name)) walk (block, is_folder) (hash_at name depth below) link.0 refl

room_in : (name : List ℕ) (depth : ℕ) (next : Link) (f : FolderParts) → said name depth f ≡ Ok (deeper next) → depth < 7
room_in name depth next (plain es) is = absurd (named_shallow name es next (plain_said name depth es (deeper next) is).1)
room_in name depth next (shard ss) is = (in_deeper name depth (slice_index (hash_of name) depth) ss next (shard_said name depth ss (deeper next) is)).1

pub entry_said : (h : Hashing) (root at : Link) (name : List ℕ) (depth : ℕ) (block : List ℕ) (target : Link) → depth < 8 → Says h at name depth block (entry target) → Descends h root name depth at → HasEntry h root name target
entry_said h root at name depth block target below says walk = entry_in h root at name depth block target says.folder below says.is_folder says.is_said walk

pub none_said : (h : Hashing) (root at : Link) (name : List ℕ) (depth : ℕ) (block : List ℕ) → depth < 8 → Says h at name depth block nothing → Descends h root name depth at → HasNoEntry h root name
none_said h root at name depth block below says walk = none_in h root at name depth block says.folder below says.is_folder says.is_said walk

pub deeper_said : (h : Hashing) (root at : Link) (name : List ℕ) (depth : ℕ) (block : List ℕ) (next : Link) → depth < 8 → Says h at name depth block (deeper next) → Descends h root name depth at → Descends h root name (suc depth) next
deeper_said h root at name depth block next below says walk = deeper_in h root at name depth block next says.folder below says.is_folder says.is_said walk

-- a shard below stands at most at the last depth
pub room : (h : Hashing) (at : Link) (name : List ℕ) (depth : ℕ) (block : List ℕ) (next : Link) → Says h at name depth block (deeper next) → depth < 7
room h at name depth block next says = room_in name depth next says.folder says.is_said

-- ---- the search

pub said_only : (r : Result code.Saying FolderErrorKind) (read : Result Saying FolderErrorKind) (s : Saying) → read ≡ Ok s
    → MatchResult r (λ x. read ≡ Ok (saying_of x)) (λ e. read ≡ Err e) → MatchResult r (λ x. saying_of x ≡ s) IsMemory
said_only (Ok x) read s is told = same_ok (λ (y : Saying). saying_of x ≡ y) (saying_of x) s (sym told ∙ is) refl
said_only (Err e) read s is told = absurd (let clash : ◌≡◌ {A = Result Saying FolderErrorKind} (Err e) (Ok s) = sym told ∙ is in cc)

-- the CID that is wanted
pub at_is : (o : Option (CidGeneric 64)) (at : CidGeneric 64) (x : Link) → o ≡ Some at → option_map (link_of {S = 64}) o ≡ Some x → link_of at ≡ x
at_is o at x is wanted = same_Some (link_of at) x (sym (ap (λ (p : Option (CidGeneric 64)). option_map (link_of {S = 64}) p) is) ∙ wanted)

pub room_more : (depth : ℕ) → depth < 7 → depth + 1 < 8
room_more depth below = omega arith

pub one_deeper : (h : Hashing) (root : Link) (name : List ℕ) (depth : ℕ) (at : Link) → Descends h root name (suc depth) at → Descends h root name (depth + 1) at
one_deeper h root name depth at walk = subst (λ (n : ℕ). Descends h root name n at) (sym (add-one depth)) walk
