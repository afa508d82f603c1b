use Rattle.std.proofs.Common.{arith}
use Rattle.ipld_cid.proofs.MultihashEncodings.{read_hash_is_encoded, encoded_hash_is_read, has_hash_encoding, encoded_hash_is_valid, one_hash_encoding, one_hash, hash_trailing}
use Rattle.ipld_cid.proofs.laws.multihash_bytes_law.Goals as goal

pub returns : goal.returns
returns g c = record {
  read_is_encoded = read_hash_is_encoded g.row.S;
  encoded_is_read = encoded_hash_is_read g.row.S;
  each_has_an_encoding = λ hash. has_hash_encoding g.row.S hash (omega (arith, g.S.fits));
  encoded_is_valid = encoded_hash_is_valid g.row.S;
  one_encoding = one_hash_encoding g.row.S;
  one_meaning = one_hash g.row.S;
  trailing = hash_trailing g.row.S;
}
