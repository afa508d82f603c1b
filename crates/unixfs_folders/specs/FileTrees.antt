-- A tree of files, folders and symbolic links, and the CIDs that name it.
use Rattle.std.specs.Prelude.{◌≡◌, ◌⊎◌, ℕ, List, [], ◌∷◌, Some}
use Rattle.ipld_cid.specs.Cid.{Link}
use Rattle.unixfs.specs.declared.data.DataType.TheVariants.{Symlink}
use Rattle.unixfs.specs.Data.{DataParts}
use Rattle.unixfs.specs.Files.{Hashing, IsBlockOf, Names, Collision}
use Rattle.unixfs.specs.Nodes.{IsParsed}
use Rattle.unixfs_folders.specs.Folders.{EntryParts, FolderParts, NamesFolder, HasEntry}

-- True if a block of the CID is a symbolic link to this target.
pub record IsSymlink (hashing : Hashing) (link : Link) (target : List ℕ) : Type 0 where
  pub block : List ℕ
  pub message : DataParts
  pub is_dag_pb : link.codec ≡ 0x70
  pub is_block : IsBlockOf hashing link block
  pub is_parsed : IsParsed block [] message
  pub is_symlink : message.data_type ≡ Symlink
  pub is_target : message.content ≡ Some target

-- ---- trees

mutual
  -- a file with these bytes, a symbolic link to this target, or a folder with these members
  pub data FileTree : Type 0 where
    file : List ℕ → FileTree
    symlink : List ℕ → FileTree
    folder : Members → FileTree

  -- the trees in a folder, with their names
  pub data Members : Type 0 where
    no_members : Members
    member : List ℕ → FileTree → Members → Members

-- True if a member has this name, and a tree that satisfies `Q`.
abbrev pub HasMember : (FileTree → Type 0) → List ℕ → Members → Type 0
HasMember Q name no_members = ⊥
HasMember Q name (member own tree others) = ((own ≡ name) × Q tree) ⊎ HasMember Q name others

-- True if a member has this name.
abbrev pub IsNamed : List ℕ → Members → Type 0
IsNamed name ms = HasMember (λ tree. Unit {0}) name ms

abbrev mutual
  -- True if the other tree has all that this one has: the same bytes, the same target, or in a folder
  -- for each member one with the same name, which has all that this member has.
  pub IsIn : FileTree → FileTree → Type 0
  IsIn (file content) (file other) = content ≡ other
  IsIn (file content) (symlink other) = ⊥
  IsIn (file content) (folder others) = ⊥
  IsIn (symlink target) (file other) = ⊥
  IsIn (symlink target) (symlink other) = target ≡ other
  IsIn (symlink target) (folder others) = ⊥
  IsIn (folder ms) (file other) = ⊥
  IsIn (folder ms) (symlink other) = ⊥
  IsIn (folder ms) (folder others) = AreIn ms others

  pub AreIn : Members → Members → Type 0
  AreIn no_members others = Unit {0}
  AreIn (member name tree ms) others = HasMember (IsIn tree) name others × AreIn ms others

-- True if each of two trees has all that the other has. The order of members doesn't count.
abbrev pub AreSame : FileTree → FileTree → Type 0
AreSame tree other = IsIn tree other × IsIn other tree

-- ---- the trees of CIDs

-- True if the CID names a folder.
abbrev pub IsFolderRoot : Hashing → Link → Type 0
IsFolderRoot hashing root = (parts : FolderParts) × NamesFolder hashing root parts

-- True if each entry of the folder of a CID has the name of a member, unless two blocks that differ
-- have one digest.
abbrev pub IsWhole : Hashing → Link → Members → Type 0
IsWhole hashing root ms = (name : List ℕ) (target : Link) → HasEntry hashing root name target → IsNamed name ms ⊎ Collision hashing

abbrev mutual
  -- True if the CID names this tree. Of a folder each member is an entry that leads to a CID which
  -- names its tree, and there are no other entries.
  pub NamesTree : Hashing → FileTree → Link → Type 0
  NamesTree hashing (file content) root = Names hashing root content
  NamesTree hashing (symlink target) root = IsSymlink hashing root target
  NamesTree hashing (folder ms) root = IsFolderRoot hashing root × NamesMembers hashing ms root × IsWhole hashing root ms

  pub NamesMembers : Hashing → Members → Link → Type 0
  NamesMembers hashing no_members root = Unit {0}
  NamesMembers hashing (member name tree ms) root =
      ((target : Link) × HasEntry hashing root name target × NamesTree hashing tree target) × NamesMembers hashing ms root

-- True if these entries have the names of the members, in order, and lead to CIDs that name their
-- trees.
abbrev pub AreOf : Hashing → List EntryParts → Members → Type 0
AreOf hashing [] no_members = Unit {0}
AreOf hashing [] (member name tree ms) = ⊥
AreOf hashing (e ∷ es) no_members = ⊥
AreOf hashing (e ∷ es) (member name tree ms) = (e.name ≡ name) × NamesTree hashing tree e.link × AreOf hashing es ms
