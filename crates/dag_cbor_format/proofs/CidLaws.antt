-- The laws of CIDs, of those whose digests have at most 64 bytes.
use Rattle.std.proofs.Common.{arith}
use Rattle.ipld_cid.proofs.Encodings.{encoded_is_read, has_encoding, encoded_is_valid, one_encoding}
use Rattle.dag_cbor_format.proofs.ItemHeaderLaws.{CidLaws}

pub cid_laws : CidLaws
cid_laws = record {
  reads = encoded_is_read 64;
  encodes = λ link. has_encoding 64 link (omega arith);
  valid = encoded_is_valid 64;
  once = one_encoding 64;
}
