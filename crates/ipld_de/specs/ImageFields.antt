-- Fields that read the entries of a map one after another.
use Rattle.std.specs.Prelude.{◌≡◌, ℕ, Bool, true, List, length, Option, None}
use Rattle.ipld_tree.specs.Tree.{Tree, Members, no_members, member}
use Rattle.ipld_de.specs.ImageReader.{BeginsEntry, BeginEntries, Follows, KeysAscend, entered, AllPass}

-- True if `bytes` begin with an accepted value, followed by `rest`. From any members, the fields
-- now read (`new`) the same as they read before (`old`) from the value under `key` and these
-- members.
abbrev pub ValueRead : {C : Type 0} → (Tree → List ℕ → List ℕ → Type 0) → (Tree → Bool) → (Members → Option C) → (Members → Option C) → List ℕ → List ℕ → List ℕ → Type 0
ValueRead begins accepts old new key bytes rest = (t : Tree) × begins t bytes rest × (accepts t ≡ true) × ((ms : Members) → new ms ≡ old (member key t ms))

-- True if `bytes` begin with an accepted entry under `key`, which comes after the key `last`,
-- followed by `rest`. From any members, the fields now read (`new`) the same as they read before
-- (`old`) from the entry and these members.
abbrev pub EntryRead : {C : Type 0} → (List ℕ → List ℕ → List ℕ → Type 0) → (Tree → List ℕ → List ℕ → Type 0) → (List ℕ → Tree → Bool) → (Members → Option C) → (Members → Option C)
    → Option (List ℕ) → List ℕ → List ℕ → List ℕ → Type 0
EntryRead begins_key begins accepts old new last key bytes rest =
    (t : Tree) × BeginsEntry begins_key begins (key, t) bytes rest × Follows last key × (accepts key t ≡ true) × ((ms : Members) → new ms ≡ old (member key t ms))

-- True if `bytes` begin with `count` accepted entries with ascending keys, followed by `rest`. From
-- any members, the fields now read (`new`) the same as they read before (`old`) from the entries
-- and these members.
abbrev pub EntriesRead : {C : Type 0} → (List ℕ → List ℕ → List ℕ → Type 0) → (Tree → List ℕ → List ℕ → Type 0) → (List ℕ → Tree → Bool) → (Members → Option C) → (Members → Option C)
    → ℕ → List ℕ → List ℕ → Type 0
EntriesRead begins_key begins accepts old new count bytes rest =
    (es : List (List ℕ × Tree)) × (length es ≡ count) × BeginEntries begins_key begins es bytes rest × KeysAscend None es
    × AllPass accepts (entered es no_members) × ((ms : Members) → new ms ≡ old (entered es ms))
