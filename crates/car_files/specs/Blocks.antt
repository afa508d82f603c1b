-- The links and the errors of blocks, by the codes of their codecs.
use Rattle.std.specs.Prelude.{◌≡◌, ◌⊎◌, ℕ, Bool, true, Some, None, List, []}
use Rattle.std.specs.Option.{unwrap_or, option_map_or}
use Rattle.std.specs.Result.{result_unwrap_or}
use Rattle.ipld_cid.specs.Cid.{Link}
use Rattle.dag_cbor_format.specs.Trace.{links_read}
use Rattle.dag_json.specs.Codec as json
use Rattle.dag_pb.specs.NodeReading.{links_found}
use Rattle.ipld_block.specs.Blocks.{HasLinks, IsInvalid}
use Rattle.ipld_block.specs.Codes.{codec_of_code}
use Rattle.ipld_block.specs.declared.codec.BlockCodec.{BlockCodec}
use Rattle.ipld_block.specs.declared.codec.BlockCodec.TheVariants.{DagCbor, DagPb, DagJson, Raw}
use Rattle.ipld_block.specs.declared.error.InvalidBlock.{InvalidBlock}

-- the setting that blocks may have floats
abbrev pub with_floats : Bool
with_floats = true

-- the links of a block of this codec, or an empty list if the bytes are not such a block
abbrev pub links_by : BlockCodec → List ℕ → List Link
links_by DagCbor bytes = unwrap_or (links_read with_floats bytes) []
links_by DagPb bytes = result_unwrap_or (links_found bytes) []
links_by DagJson bytes = unwrap_or (json.links_in true bytes) []
links_by Raw bytes = []

-- the links of a block of the codec with this code. The list is empty if blocks of that codec
-- aren't read or the bytes are not such a block.
unfoldable pub links_in : ℕ → List ℕ → List Link
links_in code bytes = option_map_or (λ codec. links_by codec bytes) (codec_of_code code) []

-- True if blocks of the codec with this code are read, and these are the links of the block
-- (DAG-CBOR, DAG-PB and DAG-JSON specifications).
abbrev pub BlockHas : ℕ → List ℕ → List Link → Type 0
BlockHas code bytes links = (codec : BlockCodec) × (codec_of_code code ≡ Some codec) × HasLinks codec bytes links

-- True if blocks of the codec with this code are read, and `why` is the error in the bytes, with
-- its offset.
abbrev pub BlockFault : ℕ → List ℕ → InvalidBlock → Type 0
BlockFault code bytes why = (codec : BlockCodec) × (codec_of_code code ≡ Some codec) × IsInvalid codec bytes why

-- True if the bytes are a block of the codec with this code, or blocks of that codec aren't read.
abbrev pub IsBlockOf : ℕ → List ℕ → Type 0
IsBlockOf code bytes = (codec_of_code code ≡ None) ⊎ BlockHas code bytes (links_in code bytes)
