-- The entries of the folder that a CID names (UnixFS specification, "Directory" and "HAMTDirectory").
-- Nothing here says where blocks come from: a block is that of a CID if it has the CID's digest.
use Rattle.std.specs.Prelude.{◌≡◌, ◌≢◌, ◌⊎◌, ◌<◌, ◌≤◌, ◌-◌, ◌/◌, ◌%◌, ◌^◌, ◌==◌, ℕ, suc, true, if◌then◌else◌, List, [], ◌∷◌, ◌++◌, map, replicate, slice_index, slice_set, bit_or, unwrap_or, Option, Some, None, IfSome}
use Rattle.ipld_cid.specs.Cid.{Link}
use Rattle.dag_pb.specs.Node.{LinkParts}
use Rattle.murmur3.specs.Murmur3.{murmur3_x64_64}
use Rattle.unixfs.specs.declared.data.DataType.TheVariants.{Directory, HamtShard}
use Rattle.unixfs.specs.Data.{DataParts}
use Rattle.unixfs.specs.Nodes.{IsParsed}
use Rattle.unixfs.specs.Files.{Hashing, IsBlockOf}
use Rattle.unixfs_folders.specs.Names.{is_entry_name, comes_before, digits}

-- ---- plain folders

-- an entry of a folder: its name, the CID to which it leads, and the size that its link claims
pub record EntryParts : Type 0 where
  pub name : List ℕ
  pub link : Link
  pub tsize : Option ℕ

-- the link of an entry in a plain folder
abbrev pub link_of_entry : EntryParts → LinkParts
link_of_entry e = record { hash = e.link; name = Some e.name; tsize = e.tsize }

-- True if the name comes after the one before it, if there is one.
abbrev pub ComesAfter : Option (List ℕ) → List ℕ → Type 0
ComesAfter None name = Unit {0}
ComesAfter (Some before) name = comes_before before name ≡ true

-- True if these are entries of a plain folder after the name `before`: their names are valid, and
-- ascend strictly by their bytes.
abbrev pub AreEntries : (before : Option (List ℕ)) → List EntryParts → Type 0
AreEntries before [] = Unit {0}
AreEntries before (e ∷ es) = (is_entry_name e.name ≡ true) × ComesAfter before e.name × AreEntries (Some e.name) es

-- True if the links and the message are those of a plain folder with these entries.
pub record IsPlain (links : List LinkParts) (message : DataParts) (entries : List EntryParts) : Type 0 where
  pub is_directory : message.data_type ≡ Directory
  pub are_links : links ≡ map link_of_entry entries
  pub are_entries : AreEntries None entries

-- ---- shards

-- What a slot of a shard has: an entry with its name, or, without a name, the shard below. `tsize`
-- is the size that the link claims.
pub record SlotParts : Type 0 where
  pub slot : ℕ
  pub name : Option (List ℕ)
  pub link : Link
  pub tsize : Option ℕ

-- the link of a slot: its name is the digits of the slot, and the name of the entry if it has one
abbrev pub link_of_slot : SlotParts → LinkParts
link_of_slot s = record { hash = s.link; name = Some (digits s.slot ++ unwrap_or s.name []); tsize = s.tsize }

-- True if these are slots of a shard from the slot `least` on: they ascend strictly, there are 256
-- of them at most, and the names of their entries are valid.
abbrev pub AreSlots : (least : ℕ) → List SlotParts → Type 0
AreSlots least [] = Unit {0}
AreSlots least (s ∷ ss) = (least ≤ s.slot) × (s.slot < 256) × IfSome s.name (λ name. is_entry_name name ≡ true) × AreSlots (suc s.slot) ss

-- a number of 256 bits, in 32 bytes with the high byte first, with the bit of a slot set
unfoldable pub set_bit : List ℕ → (slot : ℕ) → List ℕ
set_bit bits slot = slice_set bits (31 - slot / 8) (bit_or (slice_index bits (31 - slot / 8)) (2 ^ (slot % 8)))

-- the number with the bits of these slots set
abbrev pub set_bits : List ℕ → List SlotParts → List ℕ
set_bits bits [] = bits
set_bits bits (s ∷ ss) = set_bits (set_bit bits s.slot) ss

-- bytes without the zeros at their front
abbrev pub without_zeros : List ℕ → List ℕ
without_zeros [] = []
without_zeros (b ∷ bs) = if b == 0 then without_zeros bs else b ∷ bs

-- the bit field of a shard: the number with the bits of its slots, high byte first, without zero
-- bytes at its front
unfoldable pub bit_field : List SlotParts → List ℕ
bit_field slots = without_zeros (set_bits (replicate 32 0) slots)

-- True if the links and the message are those of a shard with these slots: 256 at most, by the hash
-- function murmur3-x64-64 (0x22).
pub record IsSharded (links : List LinkParts) (message : DataParts) (slots : List SlotParts) : Type 0 where
  pub is_shard : message.data_type ≡ HamtShard
  pub is_murmur3 : message.hash_type ≡ Some 0x22
  pub has_fanout : message.fanout ≡ Some 256
  pub are_links : links ≡ map link_of_slot slots
  pub are_slots : AreSlots 0 slots
  pub is_bit_field : unwrap_or message.content [] ≡ bit_field slots

-- ---- folders of CIDs

-- a folder, or a part of one, as its block has it
pub data FolderParts : Type 0 where
  plain : List EntryParts → FolderParts
  shard : List SlotParts → FolderParts

-- True if the links and the message are those of this folder.
abbrev pub IsFolderOf : List LinkParts → DataParts → FolderParts → Type 0
IsFolderOf links message (plain entries) = IsPlain links message entries
IsFolderOf links message (shard slots) = IsSharded links message slots

-- True if the block is a node of UnixFS that is this folder.
pub record IsFolder (block : List ℕ) (folder : FolderParts) : Type 0 where
  pub links : List LinkParts
  pub message : DataParts
  pub is_parsed : IsParsed block links message
  pub is_folder : IsFolderOf links message folder

-- True if the block is that of the CID, which is a node of DAG-PB (multicodec `dag-pb`, 0x70), and
-- is this folder.
pub record IsFolderIn (hashing : Hashing) (link : Link) (block : List ℕ) (folder : FolderParts) : Type 0 where
  pub is_dag_pb : link.codec ≡ 0x70
  pub is_block : IsBlockOf hashing link block
  pub is_folder : IsFolder block folder

-- True if a block of the CID is this folder.
abbrev pub NamesFolder : Hashing → Link → FolderParts → Type 0
NamesFolder hashing link folder = (block : List ℕ) × IsFolderIn hashing link block folder

-- True if the CID names a shard with these slots.
abbrev pub IsShard : Hashing → Link → List SlotParts → Type 0
IsShard hashing link slots = NamesFolder hashing link (shard slots)

-- ---- entries

-- True if one of the entries has this name and leads to this CID.
abbrev pub Has : List EntryParts → List ℕ → Link → Type 0
Has [] name target = ⊥
Has (e ∷ es) name target = ((e.name ≡ name) × (e.link ≡ target)) ⊎ Has es name target

-- True if no entry has this name.
abbrev pub Lacks : List EntryParts → List ℕ → Type 0
Lacks [] name = Unit {0}
Lacks (e ∷ es) name = (e.name ≢ name) × Lacks es name

-- True if this slot has a link to this CID, of an entry with this name, or of a shard without one.
abbrev pub HasLink : List SlotParts → (slot : ℕ) → Option (List ℕ) → Link → Type 0
HasLink [] slot name target = ⊥
HasLink (s ∷ ss) slot name target = ((s.slot ≡ slot) × (s.name ≡ name) × (s.link ≡ target)) ⊎ HasLink ss slot name target

-- True if this slot has no entry with this name and no shard: it has nothing, or another entry.
abbrev pub LacksLink : List SlotParts → (slot : ℕ) → List ℕ → Type 0
LacksLink [] slot name = Unit {0}
LacksLink (s ∷ ss) slot name = (s.slot ≡ slot → (other : List ℕ) × (s.name ≡ Some other) × (other ≢ name)) × LacksLink ss slot name

-- the hash of a name, a slot a byte: murmur3-x64-64, high byte first
abbrev pub hash_of : List ℕ → List ℕ
hash_of name = murmur3_x64_64 name

-- True if the name leads from a shard to the target, by what is left of its hash.
pub data Leads (hashing : Hashing) (name : List ℕ) (target : Link) : Link → (hash : List ℕ) → Type 0 where
  leads_here : {from : Link} {hash : List ℕ} (slot : ℕ) (rest : List ℕ) (slots : List SlotParts)
      → hash ≡ slot ∷ rest → IsShard hashing from slots → HasLink slots slot (Some name) target → Leads hashing name target from hash
  leads_below : {from : Link} {hash : List ℕ} (slot : ℕ) (rest : List ℕ) (slots : List SlotParts) (next : Link)
      → hash ≡ slot ∷ rest → IsShard hashing from slots → HasLink slots slot None next → Leads hashing name target next rest → Leads hashing name target from hash

-- True if the name leads from a shard, by what is left of its hash, to a slot that has neither an
-- entry with this name nor a shard.
pub data Misses (hashing : Hashing) (name : List ℕ) : Link → (hash : List ℕ) → Type 0 where
  misses_here : {from : Link} {hash : List ℕ} (slot : ℕ) (rest : List ℕ) (slots : List SlotParts)
      → hash ≡ slot ∷ rest → IsShard hashing from slots → LacksLink slots slot name → Misses hashing name from hash
  misses_below : {from : Link} {hash : List ℕ} (slot : ℕ) (rest : List ℕ) (slots : List SlotParts) (next : Link)
      → hash ≡ slot ∷ rest → IsShard hashing from slots → HasLink slots slot None next → Misses hashing name next rest → Misses hashing name from hash

-- True if the CID names a plain folder with this entry.
abbrev pub IsPlainEntry : Hashing → Link → List ℕ → Link → Type 0
IsPlainEntry hashing folder name target = (entries : List EntryParts) × NamesFolder hashing folder (plain entries) × Has entries name target

-- True if the CID names a plain folder without an entry of this name.
abbrev pub IsNoPlainEntry : Hashing → Link → List ℕ → Type 0
IsNoPlainEntry hashing folder name = (entries : List EntryParts) × NamesFolder hashing folder (plain entries) × Lacks entries name

-- True if the folder of the CID, plain or sharded, has an entry with this name, which leads to the
-- target.
abbrev pub HasEntry : Hashing → Link → List ℕ → Link → Type 0
HasEntry hashing folder name target = IsPlainEntry hashing folder name target ⊎ Leads hashing name target folder (hash_of name)

-- True if the folder of the CID, plain or sharded, has no entry with this name.
abbrev pub HasNoEntry : Hashing → Link → List ℕ → Type 0
HasNoEntry hashing folder name = IsNoPlainEntry hashing folder name ⊎ Misses hashing name folder (hash_of name)
