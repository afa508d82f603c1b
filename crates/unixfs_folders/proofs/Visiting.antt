-- A visit adds what its links do, and a walk goes on with the shards below.
use Rattle.std.proofs.Common.{◌≡◌, ◌<◌, ℕ, suc, true, List, [], ◌∷◌, ◌++◌, length, Option, Some, None, Result, Ok, Err, refl, sym, ap, subst, ◌∙◌, arith, map, drop, take, inl, inr, append_assoc, add-one, get_or, ◌+◌}
use Rattle.std.specs.Prelude.{◌⊎◌, ◌==◌, nat_lt, bytes_eq, reverse, option_to_list, MatchOption, IfSome, IfOk, IfErr, MatchResult}
use Rattle.std.proofs.lemmas.List.{append-nil, reverse-append, reverse-reverse, map-append, drop_more}
use Rattle.std.proofs.lemmas.Bool.Decides.{nat_tests}
use Rattle.std.proofs.lemmas.Slice.Eq.{bytes_eq-Decides}
use Rattle.pb_wire.specs.Steps.{◌>>=◌}
use Rattle.pb_wire.proofs.Steps.{bind_ok, same_ok}
use Rattle.unixfs_folders.proofs.Choices.{or_error}
use Rattle.unixfs_folders.specs.declared.error.FolderErrorKind.{FolderErrorKind}
use Rattle.unixfs_folders.specs.declared.folder.ShardLink.{ShardLink}
use Rattle.unixfs_folders.specs.declared.visit.Place.{Place}
use Rattle.unixfs_folders.specs.declared.visit.Visit.{Visit}
use Rattle.unixfs_folders.specs.Faults.{IsFolderFault}
use Rattle.unixfs_folders.specs.Folders.{EntryParts, SlotParts, FolderParts, plain, shard, hash_of}
use Rattle.unixfs_folders.specs.Listing.{Waiting, IsLedTo, AllStand, and_entry, entries_of, and_shard, shards_of, AllFit, IsVisit, VisitParts, joined, then_joined, visited_by, visited_one, visited_from, visited, IsPlaceFault, IsListingFault}
use Rattle.unixfs_folders.specs.Views.{slot_parts, IsMemory}
use Rattle.unixfs_folders.specs.Walks.{waiting_of, remain_from, visit_parts}

-- ---- one link

-- nothing was added behind
pub entry_adds : (old : VisitParts) (entries : List EntryParts) (e : EntryParts) → entries ≡ old.entries ++ e ∷ []
    → joined old (record { entries = e ∷ []; below = [] }) ≡ record { entries = entries; below = old.below }
entry_adds old entries e is =
    ap (λ (ws : List Waiting). record { entries = old.entries ++ e ∷ []; below = ws }) (append-nil old.below) ∙ ap (λ (es : List EntryParts). record { entries = es; below = old.below }) (sym is)

pub shard_adds : (old : VisitParts) (below : List Waiting) (w : Waiting) → below ≡ old.below ++ w ∷ []
    → joined old (record { entries = []; below = w ∷ [] }) ≡ record { entries = old.entries; below = below }
shard_adds old below w is =
    ap (λ (es : List EntryParts). record { entries = es; below = old.below ++ w ∷ [] }) (append-nil old.entries) ∙ ap (λ (ws : List Waiting). record { entries = old.entries; below = ws }) (sym is)

-- ---- the links of a shard

step_by : (r rest : Result VisitParts FolderErrorKind) (old new : VisitParts) → (r >>= λ v. Ok (joined old v)) ≡ Ok new
    → ((r >>= λ v. rest >>= λ w. Ok (joined v w)) >>= λ w. Ok (joined old w)) ≡ (rest >>= λ w. Ok (joined new w))
step_by (Err e) rest old new is = absurd cc
step_by (Ok v) (Err e) old new is = refl
step_by (Ok v) (Ok w) old new is =
    let same : joined old v ≡ new = cc in
    ap (λ (es : List EntryParts). Ok (record { entries = es; below = old.below ++ (v.below ++ w.below) })) (sym (append_assoc old.entries v.entries w.entries))
    ∙ ap (λ (ws : List Waiting). Ok (record { entries = (old.entries ++ v.entries) ++ w.entries; below = ws })) (sym (append_assoc old.below v.below w.below))
    ∙ ap (λ (x : VisitParts). Ok (joined x w)) same

links_here : (links : List ShardLink) (i : ℕ) (l : ShardLink) → i < length links → l ≡ get_or links i l → map slot_parts (drop i links) ≡ slot_parts l ∷ map slot_parts (drop (i + 1) links)
links_here links i l more is = ap (λ (ls : List ShardLink). map slot_parts ls) (drop_more links i l more ∙ ap (λ (y : ShardLink). y ∷ drop (i + 1) links) (sym is))

pub link_added : (links : List ShardLink) (i : ℕ) (at : List ℕ) (l : ShardLink) (old new : VisitParts) (all : Result VisitParts FolderErrorKind) → i < length links → l ≡ get_or links i l
    → then_joined old (visited_one i at (slot_parts l)) ≡ Ok new
    → then_joined old (visited_from i at (map slot_parts (drop i links))) ≡ all
    → then_joined new (visited_from (i + 1) at (map slot_parts (drop (i + 1) links))) ≡ all
link_added links i at l old new all more is one so_far =
    ap (λ (n : ℕ). visited_from n at (map slot_parts (drop (i + 1) links)) >>= λ w. Ok (joined new w)) (add-one i)
    ∙ sym (step_by (visited_one i at (slot_parts l)) (visited_from (suc i) at (map slot_parts (drop (i + 1) links))) old new one)
    ∙ ap (λ (ss : List SlotParts). visited_from i at ss >>= λ w. Ok (joined old w)) (sym (links_here links i l more is)) ∙ so_far

-- ---- what remains

map_reverse : (ps : List Place) → map waiting_of (reverse ps) ≡ reverse (map waiting_of ps)
map_reverse [] = refl
map_reverse (p ∷ ps) =
    ap (map waiting_of) (reverse-append (p ∷ []) ps) ∙ map-append waiting_of (reverse ps) (p ∷ []) ∙ ap (λ (ws : List Waiting). ws ++ waiting_of p ∷ []) (map_reverse ps)
    ∙ sym (reverse-append (waiting_of p ∷ []) (map waiting_of ps))

-- nothing is left
none_left : (all : List Place) (n : ℕ) → n ≡ 0 → n ≡ length all → reverse (map waiting_of all) ≡ []
none_left [] n zero_is long = refl
none_left (p ∷ ps) n zero_is long = absurd (omega arith)

popped : (all rest : List Place) (o : Option Place) (n m : ℕ) → all ≡ rest ++ option_to_list o → n ≡ length all → MatchOption o ((n ≡ 0) × (m ≡ 0)) (λ _. m + 1 ≡ n)
    → remain_from o rest ≡ reverse (map waiting_of all)
popped all rest None n m is long none = sym (none_left all n none.0 long)
popped all rest (Some p) n m is long some =
    sym (ap (λ (ps : List Place). reverse (map waiting_of ps)) is ∙ ap reverse (map-append waiting_of rest (p ∷ [])) ∙ reverse-append (map waiting_of rest) (waiting_of p ∷ []))

pub went_on : (others below backward all rest : List Place) (o : Option Place) (n m : ℕ) → backward ≡ reverse below → all ≡ others ++ backward
    → all ≡ rest ++ option_to_list o → n ≡ length all → MatchOption o ((n ≡ 0) × (m ≡ 0)) (λ _. m + 1 ≡ n)
    → remain_from o rest ≡ map waiting_of below ++ reverse (map waiting_of others)
went_on others below backward all rest o n m turned joined_is popped_is long cases_are =
    popped all rest o n m popped_is long cases_are
    ∙ ap (λ (ps : List Place). reverse (map waiting_of ps)) (joined_is ∙ ap (λ (ps : List Place). others ++ ps) turned)
    ∙ ap reverse (map-append waiting_of others (reverse below)) ∙ reverse-append (map waiting_of others) (map waiting_of (reverse below))
    ∙ ap (λ (ws : List Waiting). reverse ws ++ reverse (map waiting_of others)) (map_reverse below)
    ∙ ap (λ (ws : List Waiting). ws ++ reverse (map waiting_of others)) (reverse-reverse (map waiting_of below))

pub first_is : (o : Option Place) (p : Place) (ps : List Place) (w : Waiting) (ws : List Waiting) → o ≡ Some p → remain_from o ps ≡ w ∷ ws → waiting_of p ≡ w
first_is o p ps w ws is remain_is =
    let both : waiting_of p ∷ reverse (map waiting_of ps) ≡ w ∷ ws = ap (λ (x : Option Place). remain_from x ps) (sym is) ∙ remain_is in
    cc

pub fault_is : (o : Option Place) (p : Place) (ps : List Place) (block : List ℕ) (e : FolderErrorKind) → o ≡ Some p
    → IsMemory e ⊎ (IsFolderFault (waiting_of p).link block e ⊎ IsPlaceFault (waiting_of p) block e) → IsMemory e ⊎ IsListingFault (remain_from o ps) block e
fault_is o p ps block e is fault = subst (λ (ws : List Waiting). IsMemory e ⊎ IsListingFault ws block e) (ap (λ (x : Option Place). remain_from x ps) (sym is)) fault

-- ---- the block

pub visits_found : (r : Result Visit FolderErrorKind) (read : Result VisitParts FolderErrorKind) (P : VisitParts → Type 0) → ((v : VisitParts) → read ≡ Ok v → P v)
    → MatchResult r (λ x. read ≡ Ok (visit_parts x)) (λ e. IsMemory e ⊎ (read ≡ Err e)) → IfOk r (λ x. P (visit_parts x))
visits_found (Ok x) read P sound told = sound (visit_parts x) told
visits_found (Err e) read P sound told = tt

pub visits_only : (r : Result Visit FolderErrorKind) (read : Result VisitParts FolderErrorKind) (v : VisitParts) → read ≡ Ok v
    → MatchResult r (λ x. read ≡ Ok (visit_parts x)) (λ e. IsMemory e ⊎ (read ≡ Err e)) → IfErr r IsMemory
visits_only (Ok x) read v is told = tt
visits_only (Err e) read v is (inl memory) = memory
visits_only (Err e) read v is (inr told) = absurd (let clash : ◌≡◌ {A = Result VisitParts FolderErrorKind} (Err e) (Ok v) = sym told ∙ is in cc)

-- what one slot adds
abbrev IsOne : List ℕ → SlotParts → VisitParts → Type 0
IsOne path s v = IfSome s.name (IsLedTo (path ++ s.slot ∷ [])) × (v.entries ≡ and_entry s.name s []) × (v.below ≡ and_shard path s.name s []) × AllFit v.below

one_sound_by : (i : ℕ) (path : List ℕ) (o : Option (List ℕ)) (s : SlotParts) (v : VisitParts) → visited_by i (path ++ s.slot ∷ []) o s ≡ Ok v
    → IfSome o (IsLedTo (path ++ s.slot ∷ [])) × (v.entries ≡ and_entry o s []) × (v.below ≡ and_shard path o s []) × AllFit v.below
unfolding visited_by
one_sound_by i path None s v is =
    let fits = or_error (nat_lt (length (path ++ s.slot ∷ [])) 8) _ _ v is in
    let small = fits.0 in
    same_ok (λ (x : VisitParts). Unit {0} × (x.entries ≡ []) × (x.below ≡ and_shard path None s []) × AllFit x.below)
    (record { entries = []; below = record { link = s.link; path = path ++ s.slot ∷ [] } ∷ [] }) v fits.1 (tt, refl, refl, (grind (arith, nat_tests), tt))
one_sound_by i path (Some name) s v is =
    let led = or_error (bytes_eq (take (length (path ++ s.slot ∷ [])) (hash_of name)) (path ++ s.slot ∷ [])) _ _ v is in
    same_ok (λ (x : VisitParts). IsLedTo (path ++ s.slot ∷ []) name × (x.entries ≡ and_entry (Some name) s []) × (x.below ≡ []) × AllFit x.below)
    (record { entries = record { name = name; link = s.link; tsize = s.tsize } ∷ []; below = [] }) v led.1 ((bytes_eq-Decides (take (length (path ++ s.slot ∷ [])) (hash_of name)) (path ++ s.slot ∷ [])).0 led.0, refl, refl, tt)

one_sound : (i : ℕ) (path : List ℕ) (s : SlotParts) (v : VisitParts) → visited_one i path s ≡ Ok v → IsOne path s v
unfolding visited_one
one_sound i path s v is = one_sound_by i path s.name s v is

entry_joined : (o : Option (List ℕ)) (s : SlotParts) (es : List EntryParts) → and_entry o s [] ++ es ≡ and_entry o s es
entry_joined None s es = refl
entry_joined (Some name) s es = refl

shard_joined : (path : List ℕ) (o : Option (List ℕ)) (s : SlotParts) (ws : List Waiting) → and_shard path o s [] ++ ws ≡ and_shard path o s ws
shard_joined path None s ws = refl
shard_joined path (Some name) s ws = refl

all_fit : (a b : List Waiting) → AllFit a → AllFit b → AllFit (a ++ b)
all_fit [] b front back = back
all_fit (w ∷ a) b front back = (front.0, all_fit a b front.1 back)

links_sound : (i : ℕ) (path : List ℕ) (ss : List SlotParts) (v : VisitParts) → visited_from i path ss ≡ Ok v
    → AllStand path ss × (v.entries ≡ entries_of ss) × (v.below ≡ shards_of path ss) × AllFit v.below
links_sound i path [] v is = same_ok (λ (x : VisitParts). Unit {0} × (x.entries ≡ []) × (x.below ≡ []) × AllFit x.below) (record { entries = []; below = [] }) v is (tt, refl, refl, tt)
links_sound i path (s ∷ ss) v is =
    let first = bind_ok (visited_one i path s) _ v is in
    let rest = bind_ok (visited_from (suc i) path ss) _ v first.2 in
    let one = one_sound i path s first.0 first.1 in
    let more = links_sound (suc i) path ss rest.0 rest.1 in
    same_ok (λ (x : VisitParts). AllStand path (s ∷ ss) × (x.entries ≡ entries_of (s ∷ ss)) × (x.below ≡ shards_of path (s ∷ ss)) × AllFit x.below) (joined first.0 rest.0) v rest.2 (
      (one.0, more.0),
      ap (λ (es : List EntryParts). es ++ rest.0.entries) one.1 ∙ ap (λ (es : List EntryParts). and_entry s.name s [] ++ es) more.1 ∙ entry_joined s.name s (entries_of ss),
      ap (λ (ws : List Waiting). ws ++ rest.0.below) one.2 ∙ ap (λ (ws : List Waiting). and_shard path s.name s [] ++ ws) more.2 ∙ shard_joined path s.name s (shards_of path ss),
      all_fit first.0.below rest.0.below one.3 more.3,
    )

none_long : (path : List ℕ) → (length path == 0) ≡ true → path ≡ []
none_long [] is = refl
none_long (p ∷ path) is = absurd (grind (arith, nat_tests))

pub visit_sound : (next : Waiting) (f : FolderParts) (v : VisitParts) → visited next.path f ≡ Ok v → IsVisit next f v.entries v.below
unfolding visited
visit_sound next (plain es) v is =
    let rooted = or_error (length next.path == 0) _ _ v is in
    same_ok (λ (x : VisitParts). (next.path ≡ []) × (x.entries ≡ es) × (x.below ≡ [])) (record { entries = es; below = [] }) v rooted.1 (none_long next.path rooted.0, refl, refl)
visit_sound next (shard ss) v is = links_sound 0 next.path ss v is

-- a visit is found
one_complete_by : (i : ℕ) (path : List ℕ) (o : Option (List ℕ)) (s : SlotParts) → IfSome o (IsLedTo (path ++ s.slot ∷ [])) → AllFit (and_shard path o s [])
    → visited_by i (path ++ s.slot ∷ []) o s ≡ Ok (record { entries = and_entry o s []; below = and_shard path o s [] })
unfolding visited_by
one_complete_by i path None s led fits =
    let small = fits.0 in
    let test : nat_lt (length (path ++ s.slot ∷ [])) 8 ≡ true = grind (arith, nat_tests) in
    rw test refl
one_complete_by i path (Some name) s led fits =
    let test = (bytes_eq-Decides (take (length (path ++ s.slot ∷ [])) (hash_of name)) (path ++ s.slot ∷ [])).1 led in
    rw test refl

one_complete : (i : ℕ) (path : List ℕ) (s : SlotParts) → IfSome s.name (IsLedTo (path ++ s.slot ∷ [])) → AllFit (and_shard path s.name s [])
    → visited_one i path s ≡ Ok (record { entries = and_entry s.name s []; below = and_shard path s.name s [] })
unfolding visited_one
one_complete i path s led fits = one_complete_by i path s.name s led fits

fit_first : (path : List ℕ) (o : Option (List ℕ)) (s : SlotParts) (ws : List Waiting) → AllFit (and_shard path o s ws) → AllFit (and_shard path o s []) × AllFit ws
fit_first path None s ws fits = ((fits.0, tt), fits.1)
fit_first path (Some name) s ws fits = (tt, fits)

links_complete : (i : ℕ) (path : List ℕ) (ss : List SlotParts) → AllStand path ss → AllFit (shards_of path ss) → visited_from i path ss ≡ Ok (record { entries = entries_of ss; below = shards_of path ss })
links_complete i path [] stand fits = refl
links_complete i path (s ∷ ss) stand fits =
    let parts = fit_first path s.name s (shards_of path ss) fits in
    ap (λ (r : Result VisitParts FolderErrorKind). r >>= λ v. visited_from (suc i) path ss >>= λ w. Ok (joined v w)) (one_complete i path s stand.0 parts.0)
    ∙ ap (λ (r : Result VisitParts FolderErrorKind). r >>= λ w. Ok (joined (record { entries = and_entry s.name s []; below = and_shard path s.name s [] }) w)) (links_complete (suc i) path ss stand.1 parts.1)
    ∙ ap (λ (es : List EntryParts). Ok (record { entries = es; below = and_shard path s.name s [] ++ shards_of path ss })) (entry_joined s.name s (entries_of ss))
    ∙ ap (λ (ws : List Waiting). Ok (record { entries = and_entry s.name s (entries_of ss); below = ws })) (shard_joined path s.name s (shards_of path ss))

pub visit_complete : (next : Waiting) (f : FolderParts) (entries : List EntryParts) (below : List Waiting) → IsVisit next f entries below → visited next.path f ≡ Ok (record { entries = entries; below = below })
unfolding visited
visit_complete next (plain es) entries below is =
    let rooted : (length next.path == 0) ≡ true = ap (λ (p : List ℕ). length p == 0) is.0 in
    rw (rooted, is.1, is.2) refl
visit_complete next (shard ss) entries below is =
    links_complete 0 next.path ss is.0 (subst AllFit is.2 is.3)
    ∙ ap (λ (es : List EntryParts). Ok (record { entries = es; below = shards_of next.path ss })) (sym is.1)
    ∙ ap (λ (ws : List Waiting). Ok (record { entries = entries; below = ws })) (sym is.2)
