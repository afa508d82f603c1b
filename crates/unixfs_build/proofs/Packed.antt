-- The nodes that are made for folders and symbolic links.
use Rattle.std.proofs.Common.{◌≡◌, ◌<◌, ◌≤◌, ◌+◌, ◌^◌, ℕ, List, [], ◌∷◌, length, map, take, Some, None, Ok, Err, refl, sym, ap, subst, ◌∙◌, arith}
use Rattle.std.specs.Prelude.{Result, IfOk, IfErr}
use Rattle.std.specs.List.{sum_by}
use Rattle.std.proofs.Math.ListN.{get_or}
use Rattle.std.proofs.lemmas.List.Sums.{sum_by_more_le, sum_by-cons}
use Rattle.ipld_block.specs.Digest.{digest_by}
use Rattle.ipld_cid.specs.Cid.{Link}
use Rattle.ipld_cid.specs.LinkOf.{link_of}
use Rattle.ipld_cid.specs.declared.cid.Version.{Version}
use Rattle.dag_pb.specs.Node.{LinkParts, NodeParts, IsNode}
use Rattle.dag_pb.specs.Views.{parts_of_link}
use Rattle.dag_pb.specs.Writing as pb
use Rattle.dag_pb.specs.declared.link.PbLink.{PbLink}
use Rattle.unixfs.specs.Data.{DataParts, IsData}
use Rattle.unixfs.specs.Nodes.{IsParsed}
use Rattle.unixfs.specs.Writing.{data_bytes}
use Rattle.unixfs_folders.specs.FileTrees.{IsSymlink}
use Rattle.unixfs_folders.specs.Folders.{EntryParts, SlotParts, plain, link_of_entry, link_of_slot, AreEntries, AreSlots, NamesFolder, IsShard}
use Rattle.unixfs_build.specs.Blocks.{sha_link}
use Rattle.unixfs_build.specs.Nodes.{MadeNode, tsize_of, tsizes_of, block_with, node_with, plain_message, symlink_message, shard_message}
use Rattle.unixfs_build.specs.Packing.{IsNodeFault}
use Rattle.unixfs_build.specs.Views.{made}
use Rattle.unixfs_build.specs.declared.error.BuildError.{BuildError}
use Rattle.unixfs_build.specs.declared.folder_node.NodeBlock.{NodeBlock}
use Rattle.unixfs_build.specs.declared.layout.Attributes.{Attributes}

abbrev node_of : Link → ℕ → List ℕ → MadeNode
node_of link total bytes = record { link = link; total = total; bytes = bytes }

pub node_is : (version : Version) (message : DataParts) (links : List LinkParts) (link : Link) (total len : ℕ) (encoded block : List ℕ) → encoded ≡ data_bytes message
    → block ≡ pb.node_bytes (record { links = links; content = Some encoded }) → link ≡ sha_link version 0x70 block → total ≡ len + tsizes_of links → len ≡ length block
    → record { link = link; total = total; bytes = block } ≡ node_with version message links
unfolding node_with block_with
node_is version message links link total len encoded block data_is block_is link_is total_is len_is =
    let same : block ≡ block_with message links = block_is ∙ ap (λ (d : List ℕ). pb.node_bytes (record { links = links; content = Some d })) data_is in
    let all : total ≡ length (block_with message links) + tsizes_of links = omega (arith, total_is, len_is, ap length same) in
    ap (λ (l : Link). node_of l total block) (link_is ∙ ap (λ (b : List ℕ). sha_link version 0x70 b) same)
    ∙ ap (λ (n : ℕ). node_of (sha_link version 0x70 (block_with message links)) n block) all
    ∙ ap (λ (b : List ℕ). node_of (sha_link version 0x70 (block_with message links)) (length (block_with message links) + tsizes_of links) b) same

pub node_long : (version : Version) (message : DataParts) (links : List LinkParts) (len : ℕ) (encoded block : List ℕ) → encoded ≡ data_bytes message
    → block ≡ pb.node_bytes (record { links = links; content = Some encoded }) → len ≡ length block → 2 ^ 64 ≤ len + tsizes_of links → 2 ^ 64 ≤ (node_with version message links).total
unfolding node_with block_with
node_long version message links len encoded block data_is block_is len_is long =
    let same : block ≡ block_with message links = block_is ∙ ap (λ (d : List ℕ). pb.node_bytes (record { links = links; content = Some d })) data_is in
    omega (arith, len_is, ap length same, long)

pub is_parsed : (block encoded : List ℕ) (links : List LinkParts) (message : DataParts) (node : NodeParts) → IsNode node block → node.content ≡ Some encoded → IsData message encoded → links ≡ node.links → IsParsed block links message
is_parsed block encoded links message node is_node content is_data links_are = record {
  node = node;
  message = encoded;
  is_node = is_node;
  has_message = content;
  is_data = is_data;
  are_links = links_are;
}

-- the CID of a node that was made
made_link : (version : Version) (message : DataParts) (links : List LinkParts) (node : MadeNode) → node ≡ node_with version message links → node.link ≡ sha_link version 0x70 node.bytes
unfolding node_with
made_link version message links node is =
    ap (λ (n : MadeNode). n.link) is ∙ ap (λ (b : List ℕ). sha_link version 0x70 b) (sym (ap (λ (n : MadeNode). n.bytes) is))

pub names_plain : (version : Version) (attributes : Attributes) (entries : List EntryParts) (node : MadeNode) → node ≡ node_with version (plain_message attributes) (map link_of_entry entries)
    → IsParsed node.bytes (map link_of_entry entries) (plain_message attributes) → AreEntries None entries → NamesFolder digest_by node.link (plain entries)
names_plain version attributes entries node is parsed are =
    subst (λ (l : Link). NamesFolder digest_by l (plain entries)) (sym (made_link version (plain_message attributes) (map link_of_entry entries) node is)) (
      node.bytes,
      record {
        is_dag_pb = refl;
        is_block = refl;
        is_folder = record {
          links = map link_of_entry entries;
          message = plain_message attributes;
          is_parsed = parsed;
          is_folder = record { is_directory = refl; are_links = refl; are_entries = are };
        };
      },
    )

pub names_shard : (version : Version) (attributes : Attributes) (slots : List SlotParts) (node : MadeNode) → node ≡ node_with version (shard_message attributes slots) (map link_of_slot slots)
    → IsParsed node.bytes (map link_of_slot slots) (shard_message attributes slots) → AreSlots 0 slots → IsShard digest_by node.link slots
names_shard version attributes slots node is parsed are =
    subst (λ (l : Link). IsShard digest_by l slots) (sym (made_link version (shard_message attributes slots) (map link_of_slot slots) node is)) (
      node.bytes,
      record {
        is_dag_pb = refl;
        is_block = refl;
        is_folder = record {
          links = map link_of_slot slots;
          message = shard_message attributes slots;
          is_parsed = parsed;
          is_folder = record { is_shard = refl; is_murmur3 = refl; has_fanout = refl; are_links = refl; are_slots = are; is_bit_field = refl };
        };
      },
    )

pub names_symlink : (version : Version) (attributes : Attributes) (target : List ℕ) (node : MadeNode) → node ≡ node_with version (symlink_message attributes target) []
    → IsParsed node.bytes [] (symlink_message attributes target) → IsSymlink digest_by node.link target
names_symlink version attributes target node is parsed =
    subst (λ (l : Link). IsSymlink digest_by l target) (sym (made_link version (symlink_message attributes target) [] node is)) (record {
      block = node.bytes;
      message = symlink_message attributes target;
      is_dag_pb = refl;
      is_block = refl;
      is_parsed = parsed;
      is_symlink = refl;
      is_target = refl;
    })

-- ---- the sizes that links claim

abbrev claimed : PbLink → ℕ
claimed link = tsize_of (parts_of_link link)

claims : (links : List PbLink) → tsizes_of (map parts_of_link links) ≡ sum_by claimed links
claims [] = refl
claims (l ∷ ls) = omega (arith, claims ls, sum_by-cons (λ (n : ℕ). n) (claimed l) (map tsize_of (map parts_of_link ls)), sum_by-cons claimed l ls)

pub too_large : (links : List PbLink) (item other : PbLink) (i len total size : ℕ) → i < length links → item ≡ get_or links i other → total ≡ len + tsizes_of (map parts_of_link (take i links))
    → size ≡ claimed item → (total + size < 2 ^ 64 → ⊥) → 2 ^ 64 ≤ len + tsizes_of (map parts_of_link links)
too_large links item other i len total size inside is so_far size_is large =
    omega (arith, so_far, claims (take i links), sum_by_more_le claimed links i other inside, claims links, ap claimed is, size_is, large)

-- ---- results

pub fault_is : (version : Version) (attributes : Attributes) (message other : DataParts) (links others : List LinkParts) (result : Result NodeBlock BuildError) → message ≡ other → links ≡ others
    → IfErr result (IsNodeFault attributes (node_with version message links)) → IfErr result (IsNodeFault attributes (node_with version other others))
fault_is version attributes message other links others (Ok block) same also fault = tt
fault_is version attributes message other links others (Err error) same also fault =
    subst (λ (m : DataParts). IsNodeFault attributes (node_with version m others) error) same (subst (λ (ls : List LinkParts). IsNodeFault attributes (node_with version message ls) error) also fault)

-- the block of this message and these links was made
abbrev IsMade : Version → DataParts → List LinkParts → NodeBlock → Type 0
IsMade version message links block = (made block ≡ node_with version message links) × IsParsed block.data.items links message

moved : (version : Version) (message other : DataParts) (links others : List LinkParts) (block : NodeBlock) → message ≡ other → links ≡ others → IsMade version message links block → IsMade version other others block
moved version message other links others block same also is =
    subst (λ (m : DataParts). IsMade version m others block) same (subst (λ (ls : List LinkParts). IsMade version message ls block) also is)

pub plain_named : (version : Version) (attributes : Attributes) (entries : List EntryParts) (message : DataParts) (links : List LinkParts) (result : Result NodeBlock BuildError)
    → message ≡ plain_message attributes → links ≡ map link_of_entry entries → AreEntries None entries
    → IfOk result (λ block. made block ≡ node_with version message links) → IfOk result (λ block. IsParsed block.data.items links message)
    → IfOk result (λ block. NamesFolder digest_by (link_of block.cid) (plain entries))
plain_named version attributes entries message links (Ok block) message_is links_are are exact parsed =
    let is = moved version message (plain_message attributes) links (map link_of_entry entries) block message_is links_are (exact, parsed) in
    names_plain version attributes entries (made block) is.0 is.1 are
plain_named version attributes entries message links (Err error) message_is links_are are exact parsed = tt

pub shard_named : (version : Version) (attributes : Attributes) (slots : List SlotParts) (message : DataParts) (links : List LinkParts) (result : Result NodeBlock BuildError)
    → message ≡ shard_message attributes slots → links ≡ map link_of_slot slots → AreSlots 0 slots
    → IfOk result (λ block. made block ≡ node_with version message links) → IfOk result (λ block. IsParsed block.data.items links message)
    → IfOk result (λ block. IsShard digest_by (link_of block.cid) slots)
shard_named version attributes slots message links (Ok block) message_is links_are are exact parsed =
    let is = moved version message (shard_message attributes slots) links (map link_of_slot slots) block message_is links_are (exact, parsed) in
    names_shard version attributes slots (made block) is.0 is.1 are
shard_named version attributes slots message links (Err error) message_is links_are are exact parsed = tt

pub symlink_named : (version : Version) (attributes : Attributes) (target : List ℕ) (message : DataParts) (links : List LinkParts) (result : Result NodeBlock BuildError)
    → message ≡ symlink_message attributes target → links ≡ []
    → IfOk result (λ block. made block ≡ node_with version message links) → IfOk result (λ block. IsParsed block.data.items links message)
    → IfOk result (λ block. IsSymlink digest_by (link_of block.cid) target)
symlink_named version attributes target message links (Ok block) message_is links_are exact parsed =
    let is = moved version message (symlink_message attributes target) links [] block message_is links_are (exact, parsed) in
    names_symlink version attributes target (made block) is.0 is.1
symlink_named version attributes target message links (Err error) message_is links_are exact parsed = tt
