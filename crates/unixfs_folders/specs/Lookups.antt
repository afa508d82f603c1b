-- The search for an entry of a folder by its name, block by block.
use Rattle.std.specs.Prelude.{◌≡◌, ◌⊎◌, ℕ, suc, List, ◌∷◌, drop, option_map, Option, Some, None}
use Rattle.ipld_cid.specs.Cid.{Link}
use Rattle.ipld_cid.specs.LinkOf.{link_of}
use Rattle.unixfs.specs.Files.{Hashing}
use Rattle.unixfs_folders.specs.declared.error.FolderErrorKind.{FolderErrorKind}
use Rattle.unixfs_folders.specs.declared.error.FolderErrorKind.TheVariants.{Finished}
use Rattle.unixfs_folders.specs.declared.lookup.Lookup.{Lookup}
use Rattle.unixfs_folders.specs.declared.lookup.LookupStep.{LookupStep}
use Rattle.unixfs_folders.specs.declared.lookup.LookupStep.TheVariants.{Found, Missing, Below}
use Rattle.unixfs_folders.specs.Folders.{SlotParts, IsShard, HasLink, hash_of, HasEntry, HasNoEntry}
use Rattle.unixfs_folders.specs.Sayings.{IsFault}

-- the state of a search: the name, the depth of the folder that is wanted, and its CID
pub record LookupParts : Type 0 where
  pub name : List ℕ
  pub depth : ℕ
  pub wanted : Option Link

-- the model of a search
abbrev pub lookup_parts : Lookup → LookupParts
lookup_parts l = record { name = l.name.now; depth = l.depth; wanted = option_map link_of l.wanted }

-- True if the hash of the name leads from the root to this shard, or to the root itself, over so
-- many links.
pub data Descends (hashing : Hashing) (root : Link) (name : List ℕ) : (depth : ℕ) → Link → Type 0 where
  at_root : {depth : ℕ} {at : Link} → depth ≡ 0 → at ≡ root → Descends hashing root name depth at
  at_shard : {depth : ℕ} {at : Link} (above : ℕ) (from : Link) (slots : List SlotParts) (slot : ℕ) (rest : List ℕ)
      → Descends hashing root name above from → IsShard hashing from slots → drop above (hash_of name) ≡ slot ∷ rest
      → HasLink slots slot None at → depth ≡ suc above → Descends hashing root name depth at

-- True if a search for an entry of this folder has come this far.
abbrev pub LooksIn : Hashing → Link → LookupParts → Type 0
LooksIn hashing root state = (at : Link) × (state.wanted ≡ Some at) × Descends hashing root state.name state.depth at

-- True if this is the answer to a block, and the state of the search after it. An entry that is
-- found is one of the folder where the search began, and if none is found it has none.
abbrev pub Answers : Hashing → (old new : LookupParts) → LookupStep → Type 0
Answers hashing old new (Found cid) = (new.wanted ≡ None) × ((root : Link) → LooksIn hashing root old → HasEntry hashing root old.name (link_of cid))
Answers hashing old new Missing = (new.wanted ≡ None) × ((root : Link) → LooksIn hashing root old → HasNoEntry hashing root old.name)
Answers hashing old new Below = (new.depth ≡ suc old.depth) × ((root : Link) → LooksIn hashing root old → LooksIn hashing root new)

-- True if this is the reason why a search doesn't take a block.
abbrev pub IsLookupFault : LookupParts → List ℕ → FolderErrorKind → Type 0
IsLookupFault state block error =
    ((error ≡ Finished) × (state.wanted ≡ None))
    ⊎ ((at : Link) × (state.wanted ≡ Some at) × IsFault at state.name state.depth block error)
