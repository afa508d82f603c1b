-- The blocks of the known codecs: their links and their errors.
use Rattle.std.specs.Prelude.{◌≡◌, ◌≢◌, ⊤, ℕ, List, [], Some, None, Ok, Err, true, false}
use Rattle.ipld_cid.specs.Cid.{Link}
use Rattle.dag_cbor_blocks.specs.declared.block_error.BlockError.{BlockError}
use Rattle.dag_cbor_blocks.specs.declared.block_error.BlockErrorKind.{BlockErrorKind}
use Rattle.dag_cbor_blocks.specs.declared.block_error.BlockErrorKind.TheVariants.{Cbor as OfFormat, TooDeep, TooMany}
use Rattle.dag_cbor_format.specs.declared.error.CborError.{CborError}
use Rattle.dag_cbor_format.specs.declared.error.CborError.TheVariants.{Memory as CborMemory}
use Rattle.dag_cbor_format.specs.KeysAscend.{is_sorted}
use Rattle.dag_cbor_format.specs.Trace.{error_in, error_offset, links_read}
use Rattle.dag_json.specs.Codec.{links_in, IsBlockError}
use Rattle.dag_json.specs.Encodes.{EncodesTreeIn}
use Rattle.dag_json.specs.declared.read_error.ReadError.{ReadError}
use Rattle.dag_json.specs.declared.read_error.ReadErrorKind.TheVariants.{Memory as JsonMemory}
use Rattle.dag_pb.specs.declared.error.PbError.{PbError}
use Rattle.dag_pb.specs.declared.error.PbErrorKind.TheVariants.{Memory as PbMemory}
use Rattle.dag_pb.specs.NodeReading.{links_found}
use Rattle.ipld_tree.specs.Tree.{Tree}
use Rattle.ipld_block.specs.declared.codec.BlockCodec.{BlockCodec}
use Rattle.ipld_block.specs.declared.codec.BlockCodec.TheVariants.{DagCbor, DagPb, DagJson, Raw}
use Rattle.ipld_block.specs.declared.error.CheckError.{CheckError}
use Rattle.ipld_block.specs.declared.error.CheckError.TheVariants.{Memory, Invalid}
use Rattle.ipld_block.specs.declared.error.InvalidBlock.{InvalidBlock}
use Rattle.ipld_block.specs.declared.error.InvalidBlock.TheVariants.{Cbor, Pb, Json, NotCanonical}

-- True if `bytes` are a block of this codec and `links` are its links. DAG-CBOR has all links of
-- the block, DAG-PB those of the node, and DAG-JSON those of the tree. DAG-CBOR and DAG-JSON may
-- have floats. Raw bytes have no links (DAG-CBOR, DAG-PB and DAG-JSON specifications).
abbrev pub HasLinks : BlockCodec → List ℕ → List Link → Type 0
HasLinks DagCbor bytes links = links_read true bytes ≡ Some links
HasLinks DagPb bytes links = links_found bytes ≡ Ok links
HasLinks DagJson bytes links = links_in true bytes ≡ Some links
HasLinks Raw bytes links = links ≡ []

-- True if the bytes are a block of this codec (DAG-CBOR, DAG-PB and DAG-JSON specifications).
-- DAG-CBOR and DAG-JSON may have floats. Any bytes are a block of raw.
abbrev pub IsBlock : BlockCodec → List ℕ → Type 0
IsBlock DagCbor bytes = error_in true bytes ≡ None
IsBlock DagPb bytes = (links : List Link) × (links_found bytes ≡ Ok links)
IsBlock DagJson bytes = (t : Tree) × EncodesTreeIn true t bytes
IsBlock Raw bytes = ⊤

-- True if the bytes are not a block of DAG-CBOR, with floats allowed, and `error` is their first
-- error, with its offset.
abbrev pub IsNoCbor : List ℕ → BlockError → Type 0
IsNoCbor bytes error =
    (first : CborError) × (error.kind ≡ OfFormat first) × (error_in true bytes ≡ Some first) × (error.offset ≡ error_offset true bytes)

-- True if the bytes are not a block of the codec, for this reason and at this offset (DAG-CBOR,
-- DAG-PB and DAG-JSON specifications). The reason is not a failed allocation. No bytes are invalid
-- for raw.
abbrev pub IsInvalid : BlockCodec → List ℕ → InvalidBlock → Type 0
IsInvalid DagCbor bytes (Cbor error) = IsNoCbor bytes error
IsInvalid DagCbor bytes (Pb error) = ⊥
IsInvalid DagCbor bytes (Json error) = ⊥
IsInvalid DagCbor bytes NotCanonical = ⊥
IsInvalid DagPb bytes (Cbor error) = ⊥
IsInvalid DagPb bytes (Pb error) = links_found bytes ≡ Err error
IsInvalid DagPb bytes (Json error) = ⊥
IsInvalid DagPb bytes NotCanonical = ⊥
IsInvalid DagJson bytes (Cbor error) = ⊥
IsInvalid DagJson bytes (Pb error) = ⊥
IsInvalid DagJson bytes (Json error) = IsBlockError true bytes error
IsInvalid DagJson bytes NotCanonical = ⊥
IsInvalid Raw bytes why = ⊥

-- True if the bytes are not a block of DAG-CBOR, for this reason and at this offset, or are a block
-- that has a map with unsorted keys (DAG-CBOR specification).
abbrev pub IsNotCanonical : List ℕ → InvalidBlock → Type 0
IsNotCanonical bytes (Cbor error) = IsNoCbor bytes error
IsNotCanonical bytes (Pb error) = ⊥
IsNotCanonical bytes (Json error) = ⊥
IsNotCanonical bytes NotCanonical = is_sorted true bytes ≡ Some false

-- True if an allocation failed, or if `P` is true of the reason why the bytes are invalid.
abbrev pub IfInvalid : CheckError → (InvalidBlock → Type 0) → Type 0
IfInvalid Memory P = Unit {0}
IfInvalid (Invalid why) P = P why

-- True if an error of this kind counts as out of memory: a failed allocation, `TooDeep` or
-- `TooMany`.
abbrev pub IsOutOfMemory : BlockErrorKind → Type 0
IsOutOfMemory (OfFormat first) = first ≡ CborMemory
IsOutOfMemory TooDeep = Unit {0}
IsOutOfMemory TooMany = Unit {0}

-- True if the second error represents this error of DAG-CBOR: as `Memory` if it counts as out of
-- memory, and otherwise as `Invalid` with the same error.
abbrev pub MadeOfCbor : BlockError → CheckError → Type 0
MadeOfCbor error Memory = IsOutOfMemory error.kind
MadeOfCbor error (Invalid why) = (why ≡ Cbor error) × ((first : CborError) × (error.kind ≡ OfFormat first) × (first ≢ CborMemory))

-- True if the second error represents this error of DAG-PB: as `Memory` if an allocation failed,
-- and otherwise as `Invalid` with the same error.
abbrev pub MadeOfPb : PbError → CheckError → Type 0
MadeOfPb error Memory = error.kind ≡ PbMemory
MadeOfPb error (Invalid why) = (why ≡ Pb error) × (error.kind ≢ PbMemory)

-- True if the second error represents this error of DAG-JSON: as `Memory` if an allocation failed,
-- and otherwise as `Invalid` with the same error.
abbrev pub MadeOfJson : ReadError → CheckError → Type 0
MadeOfJson error Memory = error.kind ≡ JsonMemory
MadeOfJson error (Invalid why) = (why ≡ Json error) × (error.kind ≢ JsonMemory)
