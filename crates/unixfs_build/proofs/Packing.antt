-- What is so of the root of a folder that was made.
use Rattle.std.proofs.Common.{◌≡◌, ◌<◌, ℕ, zero, suc, Global, true, false, List, [], ◌∷◌, length, Option, Some, None, Ok, Err, inl, inr, sym, ap, subst, ◌∙◌, arith}
use Rattle.std.specs.Prelude.{nat_lt, if◌then◌else◌, Bool, Result, IfOk, IfErr, OnOk, slice_index_or, map, Vec}
use Rattle.std.proofs.lemmas.Bool.{ltb-true}
use Rattle.ipld_block.specs.Digest.{digest_by}
use Rattle.ipld_cid.specs.Cid.{Link}
use Rattle.ipld_cid.specs.declared.cid.Version.{Version}
use Rattle.unixfs_folders.specs.Folders.{EntryParts, plain, AreEntries, NamesFolder, Has, Lacks, HasEntry, HasNoEntry}
use Rattle.unixfs_folders.specs.Names.{is_entry_name}
use Rattle.unixfs_build.specs.Nodes.{MadeNode, plain_node}
use Rattle.unixfs_build.specs.Packing.{listed_sizes, folder_root, folder_below, folder_nodes, IsNodeFault, IsShardFault, shard_not_made, shard_same_hash, IsFolderFault, root_not_made, same_hash}
use Rattle.unixfs_build.specs.Shards.{shard_root, shard_below, shard_nodes, AreNamed, AreShards}
use Rattle.unixfs_build.specs.Views.{made}
use Rattle.unixfs_build.specs.declared.error.BuildError.{BuildError}
use Rattle.unixfs_build.specs.declared.folder_node.NodeBlock.{NodeBlock}
use Rattle.unixfs_build.specs.declared.layout.Attributes.{Attributes}
use Rattle.unixfs_build.proofs.Sharding.{all_lead, all_miss}

-- ---- names

name_at : (before : Option (List ℕ)) (es : List EntryParts) → AreEntries before es → (k : ℕ) (d : EntryParts) → k < length es → is_entry_name (slice_index_or es k d).name ≡ true
name_at before [] are k d less = absurd (omega arith)
name_at before (e ∷ es) are zero d less = are.0
name_at before (e ∷ es) are (suc k) d less = name_at (Some e.name) es are.2 k d (omega arith)

pub are_named : (es : List EntryParts) → AreEntries None es → AreNamed es
are_named es are = λ k d less. name_at None es are k d less

-- ---- which root it is

root_if : (version : Version) (attributes : Attributes) (above : ℕ) (es : List EntryParts) (long : Bool) → long ≡ nat_lt above (listed_sizes es)
    → (if long then shard_root 8 version attributes es else plain_node version attributes es) ≡ folder_root version attributes above es
unfolding folder_root
root_if version attributes above es long is = ap (λ (b : Bool). if b then shard_root 8 version attributes es else plain_node version attributes es) is

below_if : (version : Version) (above : ℕ) (es : List EntryParts) (long : Bool) → long ≡ nat_lt above (listed_sizes es)
    → (if long then shard_below 8 version es else []) ≡ folder_below version above es
unfolding folder_below
below_if version above es long is = ap (λ (b : Bool). if b then shard_below 8 version es else []) is

pub sharded_root : (version : Version) (attributes : Attributes) (above : ℕ) (es : List EntryParts) (long : Bool) → long ≡ nat_lt above (listed_sizes es) → long ≡ true
    → shard_root 8 version attributes es ≡ folder_root version attributes above es
sharded_root version attributes above es long is on =
    ap (λ (b : Bool). if b then shard_root 8 version attributes es else plain_node version attributes es) (sym on) ∙ root_if version attributes above es long is

pub plain_root : (version : Version) (attributes : Attributes) (above : ℕ) (es : List EntryParts) (long : Bool) → long ≡ nat_lt above (listed_sizes es) → long ≡ false
    → plain_node version attributes es ≡ folder_root version attributes above es
plain_root version attributes above es long is off =
    ap (λ (b : Bool). if b then shard_root 8 version attributes es else plain_node version attributes es) (sym off) ∙ root_if version attributes above es long is

sharded_below : (version : Version) (above : ℕ) (es : List EntryParts) (long : Bool) → long ≡ nat_lt above (listed_sizes es) → long ≡ true → shard_below 8 version es ≡ folder_below version above es
sharded_below version above es long is on = ap (λ (b : Bool). if b then shard_below 8 version es else []) (sym on) ∙ below_if version above es long is

plain_below : (version : Version) (above : ℕ) (es : List EntryParts) (long : Bool) → long ≡ nat_lt above (listed_sizes es) → long ≡ false → [] ≡ folder_below version above es
plain_below version above es long is off = ap (λ (b : Bool). if b then shard_below 8 version es else []) (sym off) ∙ below_if version above es long is

-- ---- a sharded folder

pub sharded_nodes : (version : Version) (attributes : Attributes) (above : ℕ) (es : List EntryParts) (long : Bool) (result : Result (Vec NodeBlock Global) BuildError) → long ≡ nat_lt above (listed_sizes es) → long ≡ true
    → IfOk result (λ blocks. map made blocks.items ≡ shard_nodes 8 version attributes es) → IfOk result (λ blocks. map made blocks.items ≡ folder_nodes version attributes above es)
sharded_nodes version attributes above es long (Ok blocks) is on nodes =
    nodes ∙ ap (λ (n : MadeNode). n ∷ shard_below 8 version es) (sharded_root version attributes above es long is on)
    ∙ ap (λ (ns : List MadeNode). folder_root version attributes above es ∷ ns) (sharded_below version above es long is on)
sharded_nodes version attributes above es long (Err error) is on nodes = tt

sharded_has : (version : Version) (attributes : Attributes) (es : List EntryParts) (name : List ℕ) (target : Link) → AreShards 8 version attributes es → Has es name target
    → HasEntry digest_by (shard_root 8 version attributes es).link name target
sharded_has version attributes es name target shards has = inr (all_lead 8 version name target attributes es (omega arith) shards has)

sharded_lacks : (version : Version) (attributes : Attributes) (es : List EntryParts) (name : List ℕ) → AreShards 8 version attributes es → Lacks es name
    → HasNoEntry digest_by (shard_root 8 version attributes es).link name
sharded_lacks version attributes es name shards lacks = inr (all_miss 8 version name attributes es (omega arith) shards lacks)

pub sharded_entries : (version : Version) (attributes : Attributes) (above : ℕ) (es : List EntryParts) (long : Bool) (result : Result (Vec NodeBlock Global) BuildError) (name : List ℕ) (target : Link)
    → long ≡ nat_lt above (listed_sizes es) → long ≡ true → OnOk result (AreShards 8 version attributes es) → Has es name target → OnOk result (HasEntry digest_by (folder_root version attributes above es).link name target)
sharded_entries version attributes above es long (Ok blocks) name target is on shards has =
    subst (λ (n : MadeNode). HasEntry digest_by n.link name target) (sharded_root version attributes above es long is on) (sharded_has version attributes es name target shards has)
sharded_entries version attributes above es long (Err error) name target is on shards has = tt

pub sharded_others : (version : Version) (attributes : Attributes) (above : ℕ) (es : List EntryParts) (long : Bool) (result : Result (Vec NodeBlock Global) BuildError) (name : List ℕ)
    → long ≡ nat_lt above (listed_sizes es) → long ≡ true → OnOk result (AreShards 8 version attributes es) → Lacks es name → OnOk result (HasNoEntry digest_by (folder_root version attributes above es).link name)
sharded_others version attributes above es long (Ok blocks) name is on shards lacks =
    subst (λ (n : MadeNode). HasNoEntry digest_by n.link name) (sharded_root version attributes above es long is on) (sharded_lacks version attributes es name shards lacks)
sharded_others version attributes above es long (Err error) name is on shards lacks = tt

fault_of : (version : Version) (attributes : Attributes) (above : ℕ) (es : List EntryParts) (long : Bool) (error : BuildError) → long ≡ nat_lt above (listed_sizes es) → long ≡ true
    → IsShardFault 8 version attributes es error → IsFolderFault version attributes above es error
fault_of version attributes above es long error is on (shard_not_made fault) =
    root_not_made (subst (λ (n : MadeNode). IsNodeFault attributes n error) (sharded_root version attributes above es long is on) fault)
fault_of version attributes above es long error is on (shard_same_hash same have) = same_hash same (ltb-true above (listed_sizes es) (sym is ∙ on)) have

pub sharded_fault : (version : Version) (attributes : Attributes) (above : ℕ) (es : List EntryParts) (long : Bool) (result : Result (Vec NodeBlock Global) BuildError) → long ≡ nat_lt above (listed_sizes es) → long ≡ true
    → IfErr result (IsShardFault 8 version attributes es) → IfErr result (IsFolderFault version attributes above es)
sharded_fault version attributes above es long (Ok blocks) is on fault = tt
sharded_fault version attributes above es long (Err error) is on fault = fault_of version attributes above es long error is on fault

-- ---- a plain folder

pub plain_nodes : (version : Version) (attributes : Attributes) (above : ℕ) (es : List EntryParts) (long : Bool) (root : MadeNode) (nodes below : List MadeNode) → long ≡ nat_lt above (listed_sizes es) → long ≡ false
    → nodes ≡ root ∷ below → root ≡ plain_node version attributes es → below ≡ [] → nodes ≡ folder_nodes version attributes above es
plain_nodes version attributes above es long root nodes below is off nodes_are root_is none =
    nodes_are ∙ ap (λ (n : MadeNode). n ∷ below) (root_is ∙ plain_root version attributes above es long is off)
    ∙ ap (λ (ns : List MadeNode). folder_root version attributes above es ∷ ns) (none ∙ plain_below version above es long is off)

pub plain_entries : (version : Version) (attributes : Attributes) (above : ℕ) (es : List EntryParts) (long : Bool) (root : MadeNode) (name : List ℕ) (target : Link) → long ≡ nat_lt above (listed_sizes es) → long ≡ false
    → root ≡ plain_node version attributes es → NamesFolder digest_by root.link (plain es) → Has es name target → HasEntry digest_by (folder_root version attributes above es).link name target
plain_entries version attributes above es long root name target is off root_is folder has =
    inl (es, subst (λ (n : MadeNode). NamesFolder digest_by n.link (plain es)) (root_is ∙ plain_root version attributes above es long is off) folder, has)

pub plain_others : (version : Version) (attributes : Attributes) (above : ℕ) (es : List EntryParts) (long : Bool) (root : MadeNode) (name : List ℕ) → long ≡ nat_lt above (listed_sizes es) → long ≡ false
    → root ≡ plain_node version attributes es → NamesFolder digest_by root.link (plain es) → Lacks es name → HasNoEntry digest_by (folder_root version attributes above es).link name
plain_others version attributes above es long root name is off root_is folder lacks =
    inl (es, subst (λ (n : MadeNode). NamesFolder digest_by n.link (plain es)) (root_is ∙ plain_root version attributes above es long is off) folder, lacks)

pub plain_fault : (version : Version) (attributes : Attributes) (above : ℕ) (es : List EntryParts) (long : Bool) (error : BuildError) → long ≡ nat_lt above (listed_sizes es) → long ≡ false
    → IsNodeFault attributes (plain_node version attributes es) error → IsFolderFault version attributes above es error
plain_fault version attributes above es long error is off fault =
    root_not_made (subst (λ (n : MadeNode). IsNodeFault attributes n error) (plain_root version attributes above es long is off) fault)
