use Rattle.std.proofs.Common.{arith}
use Rattle.ipld_cid.proofs.Encodings.{read_is_encoded, encoded_is_read, has_encoding, encoded_is_valid, one_encoding, one_meaning, trailing, trailing_only, cut, no_front}
use Rattle.ipld_cid.proofs.laws.cid_bytes_law.Goals as goal

pub returns : goal.returns
returns g c = record {
  read_is_encoded = read_is_encoded g.row.S;
  encoded_is_read = encoded_is_read g.row.S;
  each_has_an_encoding = λ link. has_encoding g.row.S link (omega (arith, g.S.fits));
  encoded_is_valid = encoded_is_valid g.row.S;
  one_encoding = one_encoding g.row.S;
  one_meaning = one_meaning g.row.S;
  trailing = trailing g.row.S;
  trailing_only = trailing_only g.row.S;
  cut = cut g.row.S;
  no_front = no_front g.row.S;
}
