-- The C structs of CIDs.
use Rattle.std.specs.Prelude.{ℕ, ◌++◌, ◌-◌, List, length, take, replicate}
use Rattle.ipld_cid.specs.declared.cid.Version.{Version}
use Rattle.ipld_cid.specs.declared.cid.Version.TheVariants.{V0, V1}
use Rattle.ipld_cid.specs.Cid.{Link}
use Rattle.ipld_cid.specs.Bytes.{bytes_of}
use Rattle.kombilad_c.specs.declared.cid_record.CidBytes.{CidBytes}
use Rattle.kombilad_c.specs.declared.cid_record.CidParts.{CidParts}

-- The length of the bytes, and the bytes with zeros up to 87 bytes
abbrev pub record_with : List ℕ → CidBytes
record_with bytes = record { len = length bytes; bytes = bytes ++ replicate (87 - length bytes) 0 }

-- The length of a CID's bytes, and the bytes with zeros up to 87 bytes.
abbrev pub record_of : Link → CidBytes
record_of link = record_with (bytes_of link)

-- the bytes of a CID in a record
abbrev pub bytes_in : CidBytes → List ℕ
bytes_in row = take row.len row.bytes

abbrev pub number_of : Version → ℕ
number_of V0 = 0
number_of V1 = 1

-- The parts of a CID: its version, codec, hash code, and the length of its digest.
abbrev pub parts_of : Link → CidParts
parts_of link = record { version = number_of link.version; codec = link.codec; hash = link.code; digest_len = length link.digest }
