-- An entry takes six bytes of its block, and those of its name.
use Rattle.std.proofs.Common.{◌≡◌, ℕ, ◌+◌, ◌*◌, ◌≤◌, List, [], ◌∷◌, ◌++◌, length, Option, Some, None, sym, ap, subst, arith, length-append, inl, inr}
use Rattle.std.specs.Prelude.{◌⊎◌, map, unwrap_or}
use Rattle.ipld_block.specs.Digest.{digest_by}
use Rattle.ipld_cid.specs.Varint.{IsLeb128}
use Rattle.pb_wire.specs.Wire.{IsContent}
use Rattle.dag_pb.specs.Node.{LinkParts, IsName, IsLinks, NodeParts, IsNode}
use Rattle.unixfs.specs.Data.{DataParts}
use Rattle.unixfs_folders.specs.Folders.{EntryParts, link_of_entry, SlotParts, link_of_slot, FolderParts, plain, shard, IsFolderOf, IsFolder}
use Rattle.unixfs_folders.specs.Names.{digits}
use Rattle.unixfs_folders.specs.Listing.{Waiting, and_entry, entries_of, IsVisit, Takes}
use Rattle.kombilad_c.specs.Folder.{names_of}

-- ---- fields

has_byte : (n : ℕ) (bytes : List ℕ) → IsLeb128 n bytes → 1 ≤ length bytes
has_byte n [] is = absurd is
has_byte n (b ∷ bytes) is = omega arith

content_room : (field : ℕ) (content bytes : List ℕ) → IsContent field content bytes → 2 + length content ≤ length bytes
content_room field content bytes is =
    let key = has_byte (8 * field + 2) is.key is.key_encoded.encoded in
    let size = has_byte (length content) is.size is.size_encoded.encoded in
    let all = ap length is.encoded in
    let front = length-append is.key (is.size ++ content) in
    let back = length-append is.size content in
    omega (arith, key, size, all, front, back)

-- ---- links

-- what a link with a name takes
abbrev room_of : Option (List ℕ) → ℕ
room_of None = 0
room_of (Some name) = 6 + length name

abbrev room_of_all : List LinkParts → ℕ
room_of_all [] = 0
room_of_all (l ∷ ls) = room_of l.name + room_of_all ls

message_room : (o : Option (List ℕ)) (field hash name tsize message : List ℕ) (cid : List ℕ) → IsContent 1 cid hash → IsName o name → message ≡ hash ++ (name ++ tsize) → IsContent 2 message field → room_of o ≤ length field
message_room None field hash name tsize message cid is_hash is_name is is_field = omega arith
message_room (Some n) field hash name tsize message cid is_hash is_name is is_field =
    let all = content_room 2 message field is_field in
    let first = content_room 1 cid hash is_hash in
    let second = content_room 2 n name is_name.1 in
    let whole = ap length is in
    let front = length-append hash (name ++ tsize) in
    let back = length-append name tsize in
    omega (arith, all, first, second, whole, front, back)

links_room : (ls : List LinkParts) (bytes : List ℕ) → IsLinks ls bytes → room_of_all ls ≤ length bytes
links_room [] bytes is = omega arith
links_room (l ∷ ls) bytes is =
    let begins = is.1 in
    let link = begins.message_encoded in
    let here = message_room l.name begins.field link.hash link.name link.tsize begins.message link.cid link.hash_encoded link.name_encoded link.encoded begins.field_encoded in
    let more = links_room ls is.0 is.2 in
    let all = ap length begins.encoded in
    let parts = length-append begins.field is.0 in
    omega (arith, here, more, all, parts)

node_within : (links content bytes : List ℕ) → (bytes ≡ links ++ content) ⊎ (bytes ≡ content ++ links) → length links ≤ length bytes
node_within links content bytes (inl is) = let all = ap length is in let parts = length-append links content in omega (arith, all, parts)
node_within links content bytes (inr is) = let all = ap length is in let parts = length-append content links in omega (arith, all, parts)

node_room : (node : NodeParts) (bytes : List ℕ) → IsNode node bytes → room_of_all node.links ≤ length bytes
node_room node bytes is =
    let some = links_room node.links is.links is.links_encoded in
    let within = node_within is.links is.content bytes is.encoded in
    omega (arith, some, within)

-- ---- entries

-- what entries take
abbrev pub taken_by : List EntryParts → ℕ
taken_by es = 6 * length es + length (names_of es)

plain_room : (es : List EntryParts) → taken_by es ≤ room_of_all (map link_of_entry es)
plain_room [] = omega arith
plain_room (e ∷ es) = let more = plain_room es in let parts = length-append e.name (names_of es) in omega (arith, more, parts)

slot_room : (o : Option (List ℕ)) (s : SlotParts) (es : List EntryParts) (rest : ℕ) → taken_by es ≤ rest → taken_by (and_entry o s es) ≤ 6 + length (digits s.slot ++ unwrap_or o []) + rest
slot_room None s es rest more = omega (arith, more)
slot_room (Some name) s es rest more =
    let parts = length-append name (names_of es) in
    let named = length-append (digits s.slot) name in
    omega (arith, more, parts, named)

shard_room : (ss : List SlotParts) → taken_by (entries_of ss) ≤ room_of_all (map link_of_slot ss)
shard_room [] = omega arith
shard_room (s ∷ ss) = slot_room s.name s (entries_of ss) (room_of_all (map link_of_slot ss)) (shard_room ss)

visit_room : (next : Waiting) (links : List LinkParts) (message : DataParts) (folder : FolderParts) (entries : List EntryParts) (below : List Waiting) → IsFolderOf links message folder → IsVisit next folder entries below
    → taken_by entries ≤ room_of_all links
visit_room next links message (plain es) entries below is visit =
    subst (λ (ls : List LinkParts). taken_by entries ≤ room_of_all ls) (sym is.are_links) (subst (λ (x : List EntryParts). taken_by x ≤ room_of_all (map link_of_entry es)) (sym visit.1) (plain_room es))
visit_room next links message (shard ss) entries below is visit =
    subst (λ (ls : List LinkParts). taken_by entries ≤ room_of_all ls) (sym is.are_links) (subst (λ (x : List EntryParts). taken_by x ≤ room_of_all (map link_of_slot ss)) (sym visit.1) (shard_room ss))

folder_room : (next : Waiting) (block : List ℕ) (folder : FolderParts) (entries : List EntryParts) (below : List Waiting) → IsFolder block folder → IsVisit next folder entries below → taken_by entries ≤ length block
folder_room next block folder entries below is visit =
    let some = visit_room next is.links is.message folder entries below is.is_folder visit in
    let within = node_room is.is_parsed.node block is.is_parsed.is_node in
    let same = ap room_of_all is.is_parsed.are_links in
    omega (arith, some, within, same)

-- the entries that a walk takes from a block
pub block_room : (old new : List Waiting) (block : List ℕ) (entries : List EntryParts) → Takes digest_by old new block entries → taken_by entries ≤ length block
block_room old new block entries takes = folder_room takes.next block takes.visits.folder entries takes.below takes.visits.is_folder.is_folder takes.visits.is_visit
