-- The shards of a folder (UnixFS specification, "HAMTDirectory"). At each depth a byte of the hash of
-- its name says in which of 256 slots an entry is. A slot with one entry leads to it, and a slot with
-- more leads to a shard of these, one byte deeper.
use Rattle.std.specs.Prelude.{◌≡◌, ◌⊎◌, ◌+◌, ◌-◌, ◌==◌, ℕ, zero, suc, true, List, [], ◌∷◌, ◌++◌, length, filter, flat_map, slice_index, Some, None}
use Rattle.std.specs.List.{All}
use Rattle.ipld_block.specs.Digest.{digest_by}
use Rattle.ipld_cid.specs.declared.cid.Version.{Version}
use Rattle.unixfs_folders.specs.Folders.{EntryParts, SlotParts, IsShard, hash_of}
use Rattle.unixfs_folders.specs.Listing.{IsLedTo}
use Rattle.unixfs_folders.specs.Names.{is_entry_name}
use Rattle.unixfs_build.specs.Blocks.{no_attributes}
use Rattle.unixfs_build.specs.Nodes.{MadeNode, shard_node}
use Rattle.unixfs_build.specs.declared.layout.Attributes.{Attributes}

-- the slot of a name in a shard at this depth
unfoldable pub slot_at : (depth : ℕ) → List ℕ → ℕ
slot_at depth name = slice_index (hash_of name) depth

-- the entries in a slot of a shard at this depth
abbrev pub in_slot : (depth slot : ℕ) → List EntryParts → List EntryParts
in_slot depth slot entries = filter (λ (e : EntryParts). slot_at depth e.name == slot) entries

-- the entries in so many slots from this one on
abbrev pub in_slots : (depth count slot : ℕ) → List EntryParts → List (List EntryParts)
in_slots depth zero slot entries = []
in_slots depth (suc count) slot entries = in_slot depth slot entries ∷ in_slots depth count (suc slot) entries

-- the entries of a shard at this depth, slot by slot
unfoldable pub by_slot : (depth : ℕ) → List EntryParts → List (List EntryParts)
by_slot depth entries = in_slots depth 256 0 entries

-- What a slot with these entries has: nothing, the link to the only one, or the link to the shard of
-- them, which `below` makes.
abbrev pub slot_with : (below : List EntryParts → MadeNode) → (slot : ℕ) → List EntryParts → List SlotParts
slot_with below slot [] = []
slot_with below slot (e ∷ []) = record { slot = slot; name = Some e.name; link = e.link; tsize = e.tsize } ∷ []
slot_with below slot (e ∷ f ∷ es) =
    record { slot = slot; name = None; link = (below (e ∷ f ∷ es)).link; tsize = Some (below (e ∷ f ∷ es)).total } ∷ []

-- what the slots from this one on have
abbrev pub slots_with : (below : List EntryParts → MadeNode) → (slot : ℕ) → List (List EntryParts) → List SlotParts
slots_with below slot [] = []
slots_with below slot (es ∷ rest) = slot_with below slot es ++ slots_with below (suc slot) rest

-- The shard with these entries. `levels` bytes of their hashes are left. Without one there is no
-- slot to which an entry belongs.
unfoldable pub shard_root : (levels : ℕ) → Version → Attributes → List EntryParts → MadeNode
shard_root zero version attributes entries = shard_node version attributes []
shard_root (suc levels) version attributes entries =
    shard_node version attributes (slots_with (shard_root levels version no_attributes) 0 (by_slot (7 - levels) entries))

-- the slots of that shard
abbrev pub slots_of : (levels : ℕ) → Version → List EntryParts → List SlotParts
slots_of levels version entries = slots_with (shard_root levels version no_attributes) 0 (by_slot (7 - levels) entries)

-- the nodes of the shard of a slot with these entries, if it has one, which `below` makes
abbrev pub nodes_with : (below : List EntryParts → List MadeNode) → List EntryParts → List MadeNode
nodes_with below [] = []
nodes_with below (e ∷ []) = []
nodes_with below (e ∷ f ∷ es) = below (e ∷ f ∷ es)

-- the nodes of the shards below the shard with these entries: each before those below it, and in the
-- order of the slots
unfoldable pub shard_below : (levels : ℕ) → Version → List EntryParts → List MadeNode
shard_below zero version entries = []
shard_below (suc levels) version entries =
    flat_map (nodes_with (λ (es : List EntryParts). shard_root levels version no_attributes es ∷ shard_below levels version es)) (by_slot (7 - levels) entries)

-- the nodes of the shard with these entries, from its own down
abbrev pub shard_nodes : (levels : ℕ) → Version → Attributes → List EntryParts → List MadeNode
shard_nodes levels version attributes entries = shard_root levels version attributes entries ∷ shard_below levels version entries

-- True if the names of these entries are valid.
abbrev pub AreNamed : List EntryParts → Type 0
AreNamed entries = All (λ (e : EntryParts). is_entry_name e.name ≡ true) entries

-- True of a slot with these entries, if `Below` is of the shard of them, if it has one.
abbrev pub HoldsIn : (Below : List EntryParts → Type 0) → List EntryParts → Type 0
HoldsIn Below [] = Unit {0}
HoldsIn Below (e ∷ []) = Unit {0}
HoldsIn Below (e ∷ f ∷ es) = Below (e ∷ f ∷ es)

-- True if whoever reads the blocks of the shard with these entries finds that they have these slots.
unfoldable pub AreShards : (levels : ℕ) → Version → Attributes → List EntryParts → Type 0
AreShards zero version attributes entries = ⊥
AreShards (suc levels) version attributes entries =
    IsShard digest_by (shard_root (suc levels) version attributes entries).link (slots_of levels version entries)
    × All (HoldsIn (AreShards levels version no_attributes)) (by_slot (7 - levels) entries)

-- True if the name of one of the entries has this hash.
abbrev pub HasHash : (hash : List ℕ) → List EntryParts → Type 0
HasHash hash [] = ⊥
HasHash hash (e ∷ es) = (hash_of e.name ≡ hash) ⊎ HasHash hash es

-- True if the names of two of the entries have the same hash.
abbrev pub HaveSameHash : List EntryParts → Type 0
HaveSameHash [] = ⊥
HaveSameHash (e ∷ es) = HasHash (hash_of e.name) es ⊎ HaveSameHash es

-- True if the hashes of the names begin with the same bytes, and so many bytes of them are left.
unfoldable pub AreLed : (levels : ℕ) → List EntryParts → Type 0
AreLed levels entries = (path : List ℕ) × (length path + levels ≡ 8) × All (λ (e : EntryParts). IsLedTo path e.name) entries
