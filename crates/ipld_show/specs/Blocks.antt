-- Blocks of DAG-CBOR that represent blocks of other codecs.
use Rattle.std.specs.Prelude.{◌≡◌, ◌≢◌, ℕ, true, List, [], ◌++◌, Option, Some, None, Result, Ok, Err, codes}
use Rattle.std.specs.Io.KnownBytes.{Appends}
use Rattle.std.specs.declared.io.ErrorKind.TheVariants.{OutOfMemory as NoMemory}
use Rattle.sha2.specs.Sha256.{sha256}
use Rattle.ipld_cid.specs.Cid.{Link}
use Rattle.ipld_cid.specs.declared.cid.Version.TheVariants.{V1}
use Rattle.ipld_tree.specs.Path.{segments}
use Rattle.ipld_tokens.specs.Item.{Item}
use Rattle.ipld_tree.specs.Tree.{Tree}
use Rattle.ipld_tree.specs.Tree as tree
use Rattle.dag_cbor_format.specs.Trace.{error_in}
use Rattle.dag_cbor_format.specs.Canonical.{canonical}
use Rattle.dag_cbor_blocks.specs.declared.tape.TapeEntry.{TapeEntry}
use Rattle.dag_cbor_tape.specs.Canonical.{Orders}
use Rattle.dag_cbor_tape.specs.Describes.{Describes}
use Rattle.dag_json.specs.Encodes.{EncodesTreeIn}
use Rattle.dag_json.specs.Tape.{IsTape}
use Rattle.dag_json.specs.TapeReading.{IsTooLong}
use Rattle.dag_pb.specs.Node.{NodeParts, IsNode}
use Rattle.ipld_block.specs.Blocks.{IsInvalid}
use Rattle.ipld_block.specs.declared.codec.BlockCodec.{BlockCodec}
use Rattle.ipld_block.specs.declared.codec.BlockCodec.TheVariants.{DagCbor, DagPb, DagJson, Raw}
use Rattle.ipld_block.specs.declared.error.CheckError.{CheckError}
use Rattle.ipld_block.specs.declared.error.CheckError.TheVariants.{Memory as OutOfMemory, Invalid as IsInvalidBlock}
use Rattle.ipld_show.specs.AtPath.{found, at_segments, LeadsTo}
use Rattle.ipld_show.specs.DataItem.{DataItem, BeginsWithItem}
use Rattle.ipld_show.specs.JsonText.{IsJson, IsJsonError}
use Rattle.ipld_show.specs.Node.{node_tree}
use Rattle.ipld_show.specs.TreeText.{IsTreeText}
use Rattle.ipld_show.specs.declared.error.ShowError.{ShowError}
use Rattle.ipld_show.specs.declared.error.ShowError.TheVariants.{Memory, Write, Invalid, TooLong, Reserved}

-- True if the bytes are a node of DAG-PB, and the block is the canonical encoding of its tree.
pub record StandsForNode (bytes block : List ℕ) : Type 0 where
  pub node : NodeParts
  pub is_node : IsNode node bytes
  pub encodes : canonical (node_tree node) ≡ Some block

-- True if the bytes are DAG-JSON of a tree, with or without floats, and the block is the canonical
-- block of the item that the tape of this tree describes. The block is valid, with floats allowed.
pub record StandsForJson (bytes block : List ℕ) : Type 0 where
  pub tree : Tree
  pub encodes : EncodesTreeIn true tree bytes
  -- the tape of the tree, over these contents
  pub contents : List ℕ
  pub entries : List TapeEntry
  pub tape : IsTape contents tree entries
  -- the item that the tape describes, and its bytes in the order of the tape
  pub item : Item 64
  pub in_turn : List ℕ
  pub describes : Describes contents item entries in_turn
  pub orders : Orders item in_turn block
  pub is_block : error_in true block ≡ None

-- True if the codec is DAG-JSON, and the tape of the tree that the bytes encode has an entry with a
-- length of 2^32 or more.
abbrev pub HasLongTape : BlockCodec → List ℕ → Type 0
HasLongTape DagJson bytes = (t : Tree) × EncodesTreeIn true t bytes × IsTooLong t
HasLongTape _ bytes = ⊥

-- True if the error is that of a failed allocation or of a tape that is too long, or the bytes are
-- not a block of the codec and it is their error, with its offset.
abbrev pub IsNoBlock : BlockCodec → List ℕ → ShowError → Type 0
IsNoBlock codec bytes Memory = Unit {0}
IsNoBlock codec bytes (Invalid why) = IsInvalid codec bytes why
IsNoBlock codec bytes TooLong = HasLongTape codec bytes
IsNoBlock codec bytes _ = ⊥

-- True if the error is that of a failed allocation, or the bytes are not a block of DAG-PB and it
-- is their error.
abbrev pub IsNoNode : List ℕ → ShowError → Type 0
IsNoNode bytes error = IsNoBlock DagPb bytes error

-- True if `block` is a block of DAG-CBOR with the tree of `bytes`, a block of the codec. For
-- DAG-CBOR it is the bytes themselves, if they are valid. For DAG-PB and DAG-JSON it is the
-- canonical block of their tree, and for raw that of the bytes as a byte string.
abbrev pub IsCborOf : BlockCodec → List ℕ → List ℕ → Type 0
IsCborOf DagCbor bytes block = (block ≡ bytes) × (error_in true bytes ≡ None)
IsCborOf DagPb bytes block = StandsForNode bytes block
IsCborOf DagJson bytes block = StandsForJson bytes block
IsCborOf Raw bytes block = canonical (tree.bytes bytes) ≡ Some block

-- True if a block of DAG-CBOR that represents `bytes`, a block of the codec, is the encoding of the
-- data item `d`.
abbrev pub IsItemOf : BlockCodec → List ℕ → DataItem → Type 0
IsItemOf codec bytes d = (block : List ℕ) × IsCborOf codec bytes block × BeginsWithItem d block []

-- True if `P` holds for the data item of the block, or an allocation failed, or the block's tape is
-- too long, or the bytes are not a block of the codec and the result is their error.
abbrev pub OfBlock : {T : Type 0} → BlockCodec → List ℕ → Result T ShowError → (DataItem → Type 0) → Type 0
OfBlock codec bytes (Err Memory) P = Unit {0}
OfBlock codec bytes (Err (Invalid why)) P = IsInvalid codec bytes why
OfBlock codec bytes (Err TooLong) P = HasLongTape codec bytes
OfBlock codec bytes r P = (d : DataItem) × IsItemOf codec bytes d × P d

-- True if the text of the tree of the item at the path was appended, or the error is that of the
-- writer or of a failed allocation. Also true if the path leads to nothing at the segment in the
-- error.
abbrev pub IsTreeAt : DataItem → List ℕ → Result (Unit {0}) ShowError → Option (List ℕ) → Option (List ℕ) → Type 0
IsTreeAt d path (Ok _) old new = (e : DataItem) × (at_segments 0 (segments path) d ≡ found e) × (t : List ℕ) × IsTreeText e t × Appends old new t
IsTreeAt d path (Err Memory) old new = Unit {0}
IsTreeAt d path (Err (Write kind)) old new = kind ≢ NoMemory
IsTreeAt d path (Err error) old new = LeadsTo (at_segments 0 (segments path) d) (Err error)

-- True if the DAG-JSON of the item at the path and a line feed were appended, or the error is that
-- of the writer or of a failed allocation. Also true if the path leads to nothing at the segment in
-- the error, or the error has the offset of a reserved map in the item at the path.
abbrev pub IsJsonAt : DataItem → List ℕ → Result (Unit {0}) ShowError → Option (List ℕ) → Option (List ℕ) → Type 0
IsJsonAt d path (Ok _) old new = (e : DataItem) × (at_segments 0 (segments path) d ≡ found e) × (t : List ℕ) × IsJson e t × Appends old new (t ++ codes "\n")
IsJsonAt d path (Err Memory) old new = Unit {0}
IsJsonAt d path (Err (Write kind)) old new = kind ≢ NoMemory
IsJsonAt d path (Err (Reserved n)) old new = (e : DataItem) × (at_segments 0 (segments path) d ≡ found e) × IsJsonError e (Reserved n)
IsJsonAt d path (Err error) old new = LeadsTo (at_segments 0 (segments path) d) (Err error)

-- True if the error is the reason that the DAG-JSON of an item and a line feed weren't written.
-- Either a map in the item is reserved and nothing was written, or the writer or an allocation
-- failed.
abbrev pub IsLineError : DataItem → ShowError → Option (List ℕ) → Option (List ℕ) → Type 0
IsLineError d (Write kind) old new = kind ≢ NoMemory
IsLineError d (Reserved n) old new = IsJsonError d (Reserved n) × (new ≡ old)
IsLineError d error old new = IsJsonError d error

-- True if nothing was written, or the error is that of the writer or of a failed allocation.
abbrev pub IsUnwritten : ShowError → Option (List ℕ) → Option (List ℕ) → Type 0
IsUnwritten Memory old new = Unit {0}
IsUnwritten (Write kind) old new = Unit {0}
IsUnwritten _ old new = new ≡ old

-- True if `made` is the error for the error of the check: `Memory` if an allocation failed, and
-- otherwise the same error in the block.
abbrev pub IsShown : CheckError → ShowError → Type 0
IsShown OutOfMemory made = made ≡ Memory
IsShown (IsInvalidBlock why) made = made ≡ Invalid why

-- the CID of a block of the codec with this code: version 1, with the SHA2-256 digest of the bytes
abbrev pub cid_of_block : ℕ → List ℕ → Link
cid_of_block code bytes = record { version = V1; codec = code; code = 0x12; digest = sha256 bytes }

-- True if the bytes are not a block of the codec, the error is theirs, and nothing was written.
-- Also true if the error is that of the writer or of a failed allocation.
abbrev pub IsCidError : BlockCodec → List ℕ → ShowError → Option (List ℕ) → Option (List ℕ) → Type 0
IsCidError codec bytes Memory old new = Unit {0}
IsCidError codec bytes (Write kind) old new = kind ≢ NoMemory
IsCidError codec bytes (Invalid why) old new = IsInvalid codec bytes why × (new ≡ old)
IsCidError codec bytes _ old new = ⊥
