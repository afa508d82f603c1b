-- Codecs and hash functions by their codes in the multicodec table.
use Rattle.std.specs.Prelude.{ℕ, ◌≡◌, ◌≢◌, ◌==◌, if◌then◌else◌, List, codes, Option, Some, None}
use Rattle.ipld_block.specs.declared.codec.BlockCodec.{BlockCodec}
use Rattle.ipld_block.specs.declared.codec.BlockCodec.TheVariants.{DagCbor, DagPb, DagJson, Raw}

-- the codec with this code, or nothing if its blocks are not read
abbrev pub codec_of_code : ℕ → Option BlockCodec
codec_of_code code =
    if code == 0x71 then Some DagCbor
    else if code == 0x70 then Some DagPb
    else if code == 0x0129 then Some DagJson
    else if code == 0x55 then Some Raw
    else None

-- the name of a common codec in the multicodec table, by its code, or nothing for other codes
unfoldable pub codec_name_of : ℕ → Option (List ℕ)
codec_name_of code =
    if code == 0x51 then Some (codes "cbor")
    else if code == 0x55 then Some (codes "raw")
    else if code == 0x70 then Some (codes "dag-pb")
    else if code == 0x71 then Some (codes "dag-cbor")
    else if code == 0x72 then Some (codes "libp2p-key")
    else if code == 0x78 then Some (codes "git-raw")
    else if code == 0x85 then Some (codes "dag-jose")
    else if code == 0x90 then Some (codes "eth-block")
    else if code == 0xb0 then Some (codes "bitcoin-block")
    else if code == 0x0129 then Some (codes "dag-json")
    else if code == 0x0200 then Some (codes "json")
    else None

-- True if the codec has this name in the multicodec table. Without a codec it is true if the name
-- is not `dag-cbor`, `dag-pb`, `dag-json` or `raw`.
abbrev pub NamesCodec : List ℕ → Option BlockCodec → Type 0
NamesCodec name (Some DagCbor) = name ≡ codes "dag-cbor"
NamesCodec name (Some DagPb) = name ≡ codes "dag-pb"
NamesCodec name (Some DagJson) = name ≡ codes "dag-json"
NamesCodec name (Some Raw) = name ≡ codes "raw"
NamesCodec name None = (name ≢ codes "dag-cbor") × (name ≢ codes "dag-pb") × (name ≢ codes "dag-json") × (name ≢ codes "raw")

-- the name of a common hash function in the multicodec table, by its code, or nothing for others
unfoldable pub hash_name_of : ℕ → Option (List ℕ)
hash_name_of code =
    if code == 0 then Some (codes "identity")
    else if code == 0x11 then Some (codes "sha1")
    else if code == 0x12 then Some (codes "sha2-256")
    else if code == 0x13 then Some (codes "sha2-512")
    else if code == 0x14 then Some (codes "sha3-512")
    else if code == 0x16 then Some (codes "sha3-256")
    else if code == 0x1b then Some (codes "keccak-256")
    else if code == 0x1e then Some (codes "blake3")
    else if code == 0x56 then Some (codes "dbl-sha2-256")
    else if code == 0xb220 then Some (codes "blake2b-256")
    else if code == 0xb260 then Some (codes "blake2s-256")
    else None
