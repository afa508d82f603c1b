-- A CID names one tree, and what is packed or listed is the tree that its root names.
use Rattle.std.proofs.Common.{◌≡◌, ℕ, true, false, List, [], ◌∷◌, refl, sym, ap, subst, ◌∙◌, inl, inr, arith}
use Rattle.std.specs.Prelude.{◌⊎◌, bytes_eq}
use Rattle.std.proofs.lemmas.Bool.{cases_Bool}
use Rattle.std.proofs.lemmas.Option.{same_Some}
use Rattle.std.proofs.lemmas.Slice.Eq.{bytes_eq-Decides}
use Rattle.ipld_cid.specs.Cid.{Link}
use Rattle.dag_pb.specs.Node.{LinkParts}
use Rattle.unixfs.specs.declared.data.DataType.{DataType}
use Rattle.unixfs.specs.declared.data.DataType.TheVariants.{Raw, Directory, File, Metadata, Symlink, HamtShard}
use Rattle.unixfs.specs.Data.{DataParts}
use Rattle.unixfs.specs.Files.{Hashing, IsBlockOf, Collision, IsFileType, Names, names}
use Rattle.unixfs.specs.Nodes.{IsParsed}
use Rattle.unixfs_folders.specs.Folders.{EntryParts, FolderParts, plain, shard, IsFolderOf, IsFolderIn, Has, Lacks, leads_here, leads_below, misses_here, misses_below, HasEntry, HasNoEntry}
use Rattle.unixfs_folders.specs.Listing.{Waiting, from_root, Lists, lists_none, lists_more}
use Rattle.unixfs_folders.specs.FileTrees.{IsSymlink, FileTree, file, symlink, folder, Members, no_members, member, HasMember, IsNamed, IsIn, AreIn, AreSame, IsFolderRoot, IsWhole, NamesTree, NamesMembers, AreOf}
use Rattle.unixfs_folders.proofs.Answering.{entry_once, one_or_none}
use Rattle.unixfs_folders.proofs.Listings.{OneParse, either, one_block, listed_found, found_listed}

-- ---- one node

-- a node of UnixFS that a CID names
record Node (h : Hashing) (link : Link) : Type 0 where
  block : List ℕ
  links : List LinkParts
  message : DataParts
  is_dag_pb : link.codec ≡ 0x70
  is_block : IsBlockOf h link block
  is_parsed : IsParsed block links message

one_message : OneParse → (h : Hashing) (link : Link) (a b : Node h link) → (a.message ≡ b.message) ⊎ Collision h
one_message one h link a b =
    either (one_block h link a.block b.block a.is_block b.is_block) (λ same.
    inl (one b.block a.links b.links a.message b.message (subst (λ (x : List ℕ). IsParsed x a.links a.message) same a.is_parsed) b.is_parsed).1)

abbrev node_of_symlink : (h : Hashing) (link : Link) (target : List ℕ) → IsSymlink h link target → Node h link
node_of_symlink h link target is =
    record { block = is.block; links = []; message = is.message; is_dag_pb = is.is_dag_pb; is_block = is.is_block; is_parsed = is.is_parsed }

abbrev node_of_folder : (h : Hashing) (link : Link) → IsFolderRoot h link → Node h link
node_of_folder h link is =
    let found = is.1.1 in
    record { block = is.1.0; links = found.is_folder.links; message = found.is_folder.message; is_dag_pb = found.is_dag_pb; is_block = found.is_block; is_parsed = found.is_folder.is_parsed }

-- ---- the type of a node

abbrev IsFolderType : DataType → Type 0
IsFolderType Raw = ⊥
IsFolderType Directory = Unit {0}
IsFolderType File = ⊥
IsFolderType Metadata = ⊥
IsFolderType Symlink = ⊥
IsFolderType HamtShard = Unit {0}

type_of_folder : (links : List LinkParts) (message : DataParts) (f : FolderParts) → IsFolderOf links message f → IsFolderType message.data_type
type_of_folder links message (plain es) is = subst IsFolderType (sym is.is_directory) tt
type_of_folder links message (shard ss) is = subst IsFolderType (sym is.is_shard) tt

folder_type : (h : Hashing) (link : Link) (is : IsFolderRoot h link) → IsFolderType (node_of_folder h link is).message.data_type
folder_type h link is = let found = is.1.1.is_folder in type_of_folder found.links found.message is.0 found.is_folder

file_or_folder : (t : DataType) → IsFileType t → IsFolderType t → ⊥
file_or_folder Raw is also = also
file_or_folder Directory is also = is
file_or_folder File is also = also
file_or_folder Metadata is also = is
file_or_folder Symlink is also = is
file_or_folder HamtShard is also = is

codecs : (codec : ℕ) → codec ≡ 0x55 → codec ≡ 0x70 → ⊥
codecs codec raw dag_pb = omega arith

-- what names a file is no other node
file_type : OneParse → (h : Hashing) (link : Link) (content : List ℕ) → Names h link content → (n : Node h link) → IsFileType n.message.data_type ⊎ Collision h
file_type one h link content (names head children size rest (inl raw) all e) n = absurd (codecs link.codec raw.is_raw n.is_dag_pb)
file_type one h link content (names head children size rest (inr part) all e) n =
    let node : Node h link = record { block = part.block; links = part.links; message = part.parts; is_dag_pb = part.is_dag_pb; is_block = part.is_block; is_parsed = part.is_parsed } in
    either (one_message one h link node n) (λ same. inl (subst (λ (d : DataParts). IsFileType d.data_type) same part.is_file.is_file))

no_file_symlink : OneParse → (h : Hashing) (link : Link) (content target : List ℕ) → Names h link content → IsSymlink h link target → Collision h
no_file_symlink one h link content target named is =
    elim (file_type one h link content named (node_of_symlink h link target is)) [
      | inl wrong ↦ absurd (let no : ⊥ = subst IsFileType is.is_symlink wrong in no)
      | inr collision ↦ collision
    ]

no_file_folder : OneParse → (h : Hashing) (link : Link) (content : List ℕ) → Names h link content → IsFolderRoot h link → Collision h
no_file_folder one h link content named is =
    elim (file_type one h link content named (node_of_folder h link is)) [
      | inl wrong ↦ absurd (file_or_folder (node_of_folder h link is).message.data_type wrong (folder_type h link is))
      | inr collision ↦ collision
    ]

no_symlink_folder : OneParse → (h : Hashing) (link : Link) (target : List ℕ) → IsSymlink h link target → IsFolderRoot h link → Collision h
no_symlink_folder one h link target is also =
    elim (one_message one h link (node_of_folder h link also) (node_of_symlink h link target is)) [
      | inl same ↦
          let wrong : IsFolderType is.message.data_type = subst (λ (d : DataParts). IsFolderType d.data_type) same (folder_type h link also) in
          absurd (let no : ⊥ = subst IsFolderType is.is_symlink wrong in no)
      | inr collision ↦ collision
    ]

one_target : OneParse → (h : Hashing) (link : Link) (target other : List ℕ) → IsSymlink h link target → IsSymlink h link other → (target ≡ other) ⊎ Collision h
one_target one h link target other is also =
    either (one_message one h link (node_of_symlink h link target is) (node_of_symlink h link other also)) (λ same.
    inl (same_Some target other (sym is.is_target ∙ ap (λ (d : DataParts). d.content) same ∙ also.is_target)))

-- ---- one tree

-- a CID names one content
abbrev pub OneContent : Type 0
OneContent = (h : Hashing) (link : Link) (content other : List ℕ) → Names h link content → Names h link other → (content ≡ other) ⊎ Collision h

-- the member with a name has the tree that the CID of its entry names
such_member : OneParse → (h : Hashing) (Q : FileTree → Type 0) (root : Link) (name : List ℕ) (target : Link) → HasEntry h root name target
    → ((u : FileTree) → NamesTree h u target → Q u ⊎ Collision h) → (ms : Members) → IsNamed name ms → NamesMembers h ms root → HasMember Q name ms ⊎ Collision h
such_member one h Q root name target has then no_members is named = absurd is
such_member one h Q root name target has then (member own tree others) (inl same) named =
    let entry : HasEntry h root name named.0.0 = subst (λ (n : List ℕ). HasEntry h root n named.0.0) same.0 named.0.1 in
    either (entry_once one h root name named.0.0 target entry has) (λ targets.
    either (then tree (subst (λ (l : Link). NamesTree h tree l) targets named.0.2)) (λ q. inl (inl (same.0, q))))
such_member one h Q root name target has then (member own tree others) (inr more) named =
    either (such_member one h Q root name target has then others more named.1) (λ found. inl (inr found))

mutual
  tree_in : OneParse → OneContent → (h : Hashing) (t u : FileTree) (root : Link) → NamesTree h t root → NamesTree h u root → IsIn t u ⊎ Collision h
  tree_in one content h (file a) (file b) root n m = content h root a b n m
  tree_in one content h (file a) (symlink b) root n m = inr (no_file_symlink one h root a b n m)
  tree_in one content h (file a) (folder bs) root n m = inr (no_file_folder one h root a n m.0)
  tree_in one content h (symlink a) (file b) root n m = inr (no_file_symlink one h root b a m n)
  tree_in one content h (symlink a) (symlink b) root n m = one_target one h root a b n m
  tree_in one content h (symlink a) (folder bs) root n m = inr (no_symlink_folder one h root a n m.0)
  tree_in one content h (folder ms) (file b) root n m = inr (no_file_folder one h root b m n.0)
  tree_in one content h (folder ms) (symlink b) root n m = inr (no_symlink_folder one h root b m n.0)
  tree_in one content h (folder ms) (folder bs) root n m = members_in one content h ms bs root n.1 m.1 m.2

  members_in : OneParse → OneContent → (h : Hashing) (ms bs : Members) (root : Link) → NamesMembers h ms root → NamesMembers h bs root → IsWhole h root bs → AreIn ms bs ⊎ Collision h
  members_in one content h no_members bs root n m whole = inl tt
  members_in one content h (member name tree ms) bs root n m whole =
      let target = n.0.0 in
      either (whole name target n.0.1) (λ is.
      either (such_member one h (IsIn tree) root name target n.0.1 (λ u named. tree_in one content h tree u target n.0.2 named) bs is m) (λ here.
      either (members_in one content h ms bs root n.1 m whole) (λ more. inl (here, more))))

pub one_tree : OneParse → OneContent → (h : Hashing) (root : Link) (t u : FileTree) → NamesTree h t root → NamesTree h u root → AreSame t u ⊎ Collision h
one_tree one content h root t u n m =
    either (tree_in one content h t u root n m) (λ there.
    either (tree_in one content h u t root m n) (λ back. inl (there, back)))

-- ---- folders that are made, and folders that are listed

-- an entry with a name, or none
has_or_lacks : (es : List EntryParts) (name : List ℕ) → ((target : Link) × Has es name target) ⊎ Lacks es name
has_or_lacks [] name = inr tt
has_or_lacks (e ∷ es) name =
    elim (cases_Bool (bytes_eq e.name name)) [
      | inl same ↦ inl (e.link, inl ((bytes_eq-Decides e.name name).0 same, refl))
      | inr differ ↦ elim (has_or_lacks es name) [
        | inl found ↦ inl (found.0, inr found.1)
        | inr none ↦ inr (λ same. let test = (bytes_eq-Decides e.name name).1 same in let clash : true ≡ false = sym test ∙ differ in absurd cc, none)
      ]
    ]

member_of : (h : Hashing) (es : List EntryParts) (ms : Members) (name : List ℕ) (target : Link) → AreOf h es ms → Has es name target → IsNamed name ms
member_of h [] no_members name target are has = absurd has
member_of h [] (member own tree ms) name target are has = absurd has
member_of h (e ∷ es) no_members name target are has = absurd are
member_of h (e ∷ es) (member own tree ms) name target are (inl here) = inl (sym are.0 ∙ here.0, tt)
member_of h (e ∷ es) (member own tree ms) name target are (inr more) = inr (member_of h es ms name target are.2 more)

members_named : (h : Hashing) (root : Link) (es : List EntryParts) (ms : Members) → ((name : List ℕ) (target : Link) → Has es name target → HasEntry h root name target) → AreOf h es ms → NamesMembers h ms root
members_named h root [] no_members each are = tt
members_named h root [] (member own tree ms) each are = absurd are
members_named h root (e ∷ es) no_members each are = absurd are
members_named h root (e ∷ es) (member own tree ms) each are = (
  (e.link, subst (λ (n : List ℕ). HasEntry h root n e.link) are.0 (each e.name e.link (inl (refl, refl))), are.1),
  members_named h root es ms (λ name target has. each name target (inr has)) are.2,
)

entry_in_folder : (h : Hashing) (root : Link) (name : List ℕ) (target : Link) → HasEntry h root name target → IsFolderRoot h root
entry_in_folder h root name target (inl entry) = (plain entry.0, entry.1)
entry_in_folder h root name target (inr (leads_here slot rest slots is named link)) = (shard slots, named)
entry_in_folder h root name target (inr (leads_below slot rest slots next is named link more)) = (shard slots, named)

none_in_folder : (h : Hashing) (root : Link) (name : List ℕ) → HasNoEntry h root name → IsFolderRoot h root
none_in_folder h root name (inl none) = (plain none.0, none.1)
none_in_folder h root name (inr (misses_here slot rest slots is named link)) = (shard slots, named)
none_in_folder h root name (inr (misses_below slot rest slots next is named link more)) = (shard slots, named)

made_folder : (h : Hashing) (root : Link) (es : List EntryParts) → ((name : List ℕ) (target : Link) → Has es name target → HasEntry h root name target)
    → ((name : List ℕ) → Lacks es name → HasNoEntry h root name) → IsFolderRoot h root
made_folder h root [] each none = none_in_folder h root [] (none [] tt)
made_folder h root (e ∷ es) each none = entry_in_folder h root e.name e.link (each e.name e.link (inl (refl, refl)))

pub made_tree : OneParse → (h : Hashing) (root : Link) (es : List EntryParts) (ms : Members) → AreOf h es ms → ((name : List ℕ) (target : Link) → Has es name target → HasEntry h root name target)
    → ((name : List ℕ) → Lacks es name → HasNoEntry h root name) → NamesTree h (folder ms) root
made_tree one h root es ms are each none = (
  made_folder h root es each none,
  members_named h root es ms each are,
  λ name target has.
      elim (has_or_lacks es name) [
        | inl found ↦ inl (member_of h es ms name found.0 are found.1)
        | inr lacks ↦ inr (one_or_none one h root name target has (none name lacks))
      ],
)

-- a listing of which a step was made is one of a folder
listed_folder : (h : Hashing) (root : Link) (listed : List EntryParts) (remain : List Waiting) → Lists h root listed remain → (remain ≡ from_root root ∷ []) ⊎ IsFolderRoot h root
listed_folder h root listed remain (lists_none none is) = inl is
listed_folder h root listed remain (lists_more before old block entries lists takes e) =
    elim (listed_folder h root before old lists) [
      | inl first ↦
          let both : takes.next ∷ takes.others ≡ from_root root ∷ [] = sym takes.is_next ∙ first in
          let same : takes.next ≡ from_root root = cc in
          inr (takes.visits.folder, (block, subst (λ (w : Waiting). IsFolderIn h w.link block takes.visits.folder) same takes.visits.is_folder))
      | inr found ↦ inr found
    ]

ended_folder : (h : Hashing) (root : Link) (listed : List EntryParts) → Lists h root listed [] → IsFolderRoot h root
ended_folder h root listed lists =
    elim (listed_folder h root listed [] lists) [
      | inl is ↦ absurd cc
      | inr found ↦ found
    ]

pub listed_tree : OneParse → (h : Hashing) (root : Link) (listed : List EntryParts) (ms : Members) → Lists h root listed [] → AreOf h listed ms → NamesTree h (folder ms) root
listed_tree one h root listed ms lists are = (
  ended_folder h root listed lists,
  members_named h root listed ms (λ name target has. listed_found h root listed [] name target lists has) are,
  λ name target has. either (found_listed one h root listed name target lists has) (λ found. inl (member_of h listed ms name target are found)),
)
