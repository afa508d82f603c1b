-- The bytes that a CID names as a file (UnixFS specification). Nothing here says where blocks come
-- from: a block is that of a CID if it has the CID's digest.
use Rattle.std.specs.Prelude.{◌≡◌, ◌≢◌, ◌⊎◌, ◌+◌, ◌-◌, ◌<◌, ◌≤◌, ℕ, List, [], ◌∷◌, ◌++◌, length, take, drop, sum, unwrap_or, option_map, Option, Some, None, IfSome}
use Rattle.ipld_cid.specs.Cid.{Link}
use Rattle.dag_pb.specs.Node.{LinkParts}
use Rattle.unixfs.specs.declared.data.DataType.{DataType}
use Rattle.unixfs.specs.declared.data.DataType.TheVariants.{Raw, Directory, File, Metadata, Symlink, HamtShard}
use Rattle.unixfs.specs.Data.{DataParts}
use Rattle.unixfs.specs.Nodes.{IsParsed}

-- hash functions: for the code of a function and some bytes the digest, or nothing if there is no
-- function with this code
abbrev pub Hashing : Type 0
Hashing = ℕ → List ℕ → Option (List ℕ)

-- True if the block has the digest of the CID.
abbrev pub IsBlockOf : Hashing → Link → List ℕ → Type 0
IsBlockOf hashing link block = hashing link.code block ≡ Some link.digest

-- two blocks that differ, with one digest
pub record Collision (hashing : Hashing) : Type 0 where
  pub code : ℕ
  pub digest : List ℕ
  pub block : List ℕ
  pub other : List ℕ
  pub differ : block ≢ other
  pub has : hashing code block ≡ Some digest
  pub has_too : hashing code other ≡ Some digest

-- a part of a file: its CID, and how many bytes of the file it names, if its parent says so
pub record Child : Type 0 where
  pub link : Link
  pub size : Option ℕ

-- the whole file that a CID names, as a part of itself
abbrev pub whole : Link → Child
whole root = record { link = root; size = None }

-- True if there are this many bytes, if a number is given.
abbrev pub HasSize : Option ℕ → ℕ → Type 0
HasSize None n = Unit {0}
HasSize (Some size) n = size ≡ n

-- True if a node of this type is a file or a part of one.
abbrev pub IsFileType : DataType → Type 0
IsFileType Raw = Unit {0}
IsFileType Directory = ⊥
IsFileType File = Unit {0}
IsFileType Metadata = ⊥
IsFileType Symlink = ⊥
IsFileType HamtShard = ⊥

-- the parts to which these links lead, with these sizes
abbrev pub children_of : List LinkParts → List ℕ → List Child
children_of [] sizes = []
children_of (l ∷ ls) [] = []
children_of (l ∷ ls) (n ∷ ns) = record { link = l.hash; size = Some n } ∷ children_of ls ns

-- True if the links and the message are those of a file: these bytes of its own, these children,
-- and this many bytes altogether.
pub record IsFileOf (links : List LinkParts) (parts : DataParts) (head : List ℕ) (children : List Child) (size : ℕ) : Type 0 where
  pub is_file : IsFileType parts.data_type
  pub is_head : head ≡ unwrap_or parts.content []
  pub same_number : length links ≡ length parts.blocksizes
  pub are_children : children ≡ children_of links parts.blocksizes
  pub is_size : size ≡ length head + sum parts.blocksizes
  pub is_filesize : IfSome parts.filesize (λ n. n ≡ size)

-- True if the block of the CID is a file of exactly its bytes (multicodec `raw`, 0x55).
pub record IsRawPart (hashing : Hashing) (link : Link) (head : List ℕ) (children : List Child) (size : ℕ) : Type 0 where
  pub is_raw : link.codec ≡ 0x55
  pub is_block : IsBlockOf hashing link head
  pub no_children : children ≡ []
  pub is_size : size ≡ length head

-- True if the block of the CID is a node of a file (multicodec `dag-pb`, 0x70).
pub record IsFilePart (hashing : Hashing) (link : Link) (head : List ℕ) (children : List Child) (size : ℕ) : Type 0 where
  pub block : List ℕ
  pub links : List LinkParts
  pub parts : DataParts
  pub is_dag_pb : link.codec ≡ 0x70
  pub is_block : IsBlockOf hashing link block
  pub is_parsed : IsParsed block links parts
  pub is_file : IsFileOf links parts head children size

-- True if the block of the CID has these bytes of the file itself, and these children. It stands
-- for this many bytes.
abbrev pub IsPart : Hashing → Link → List ℕ → List Child → ℕ → Type 0
IsPart hashing link head children size = IsRawPart hashing link head children size ⊎ IsFilePart hashing link head children size

mutual
  -- True if the CID names these bytes.
  pub data Names (hashing : Hashing) : Link → List ℕ → Type 0 where
    names : {link : Link} {content : List ℕ} (head : List ℕ) (children : List Child) (size : ℕ) (rest : List ℕ)
        → IsPart hashing link head children size → NamesAll hashing children rest → content ≡ head ++ rest → Names hashing link content

  -- True if the children name these bytes, one after the other, each as many as its size.
  pub data NamesAll (hashing : Hashing) : List Child → List ℕ → Type 0 where
    no_child : {content : List ℕ} → content ≡ [] → NamesAll hashing [] content
    one_child : {child : Child} {children : List Child} {content : List ℕ} (first rest : List ℕ)
        → Names hashing child.link first → HasSize child.size (length first) → NamesAll hashing children rest → content ≡ first ++ rest
        → NamesAll hashing (child ∷ children) content

-- a range of the bytes of a file: the number of bytes before it, and the number of bytes in it at
-- most, if it doesn't go to the end
pub record Range : Type 0 where
  pub start : ℕ
  pub count : Option ℕ

-- the range of all bytes
abbrev pub everything : Range
everything = record { start = 0; count = None }

-- this many bytes at most, if there is a number
abbrev pub at_most : Option ℕ → List ℕ → List ℕ
at_most None bytes = bytes
at_most (Some n) bytes = take n bytes

-- the bytes in a range
abbrev pub slice : Range → List ℕ → List ℕ
slice range bytes = at_most range.count (drop range.start bytes)

-- the range in what follows the first n bytes
abbrev pub past : ℕ → Range → Range
past n range = record { start = range.start - n; count = option_map (λ (count : ℕ). count - (n - range.start)) range.count }

-- True if none of the first n bytes is in the range: it begins after them, or has no bytes.
abbrev pub IsOutside : ℕ → Range → Type 0
IsOutside n range = ((0 < range.start) × (n ≤ range.start)) ⊎ (range.count ≡ Some 0)

-- How far a walk over a range of a file has come: the bytes of the range that it took, the parts
-- that remain, and the range in them. A bad block can't be a step of it. A part that is outside of
-- the range is skipped by the size that the block above it states.
pub data Walks (hashing : Hashing) (root : Link) (range : Range) : List ℕ → List Child → Range → Type 0 where
  starts : {taken : List ℕ} {remain : List Child} {left : Range} → taken ≡ [] → remain ≡ whole root ∷ [] → left ≡ range → Walks hashing root range taken remain left
  takes : {taken : List ℕ} {remain : List Child} {left : Range} (before : List ℕ) (next : Child) (others : List Child) (was : Range) (head : List ℕ) (children : List Child) (size : ℕ)
      → Walks hashing root range before (next ∷ others) was → IsPart hashing next.link head children size → HasSize next.size size
      → taken ≡ before ++ slice was head → remain ≡ children ++ others → left ≡ past (length head) was → Walks hashing root range taken remain left
  skips : {taken : List ℕ} {remain : List Child} {left : Range} (next : Child) (was : Range) (size : ℕ)
      → Walks hashing root range taken (next ∷ remain) was → next.size ≡ Some size → IsOutside size was → left ≡ past size was → Walks hashing root range taken remain left

-- the part of a content that a walk over a range has yet to take
pub record Untaken (hashing : Hashing) (range : Range) (content taken : List ℕ) (remain : List Child) (left : Range) : Type 0 where
  pub rest : List ℕ
  pub named : NamesAll hashing remain rest
  pub is : slice range content ≡ taken ++ slice left rest
