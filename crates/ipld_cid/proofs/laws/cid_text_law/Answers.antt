use Rattle.std.proofs.Common.{arith}
use Rattle.ipld_cid.proofs.TextReadings.{text_is_encoded, text_is_read, has_text, read_text-text_of, one_text, one_link, v0_rejected}
use Rattle.ipld_cid.proofs.laws.cid_text_law.Goals as goal

pub returns : goal.returns
returns g c = record {
  read_is_encoded = text_is_encoded g.row.S;
  encoded_is_read = text_is_read g.row.S;
  each_has_a_text = λ link valid v1. has_text g.row.S link (omega (arith, g.S.fits)) v1 valid;
  round_trip = λ link valid v1. read_text-text_of g.row.S link (omega (arith, g.S.fits)) v1 valid;
  one_text = one_text g.row.S;
  one_meaning = one_link g.row.S;
  no_version_0 = v0_rejected g.row.S;
}
