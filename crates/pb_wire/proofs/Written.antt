-- What is written for a field is the field.
use Rattle.std.proofs.Common.{ℕ, zero, suc, ◌+◌, ◌*◌, ◌/◌, ◌<◌, ◌≤◌, ◌^◌, List, length, inl, inr, refl, arith, append_assoc}
use Rattle.std.proofs.lemmas.Bool.{cases_lt, lt-ltb, le-ltb}
use Rattle.ipld_cid.specs.Varint.{groups_of, varint_of}
use Rattle.ipld_cid.proofs.Varints.{varint_encodes}
use Rattle.pb_wire.specs.Wire.{IsVarint, IsNumber, IsContent, IsFixed32}
use Rattle.pb_wire.specs.Writing.{number_bytes, content_head, content_bytes, fixed32_bytes}

-- the groups of a number are no more than there is room for
groups_few : (more n : ℕ) → length (groups_of more n) ≤ suc more
groups_few zero n = omega arith
groups_few (suc more) n =
    elim (cases_lt n 128) [
      | inl small ↦ rw (lt-ltb n 128 small) (omega arith)
      | inr large ↦ let few = groups_few more (n / 128) in rw (le-ltb n 128 large) (omega arith)
    ]

-- the shortest varint is a varint
pub varint_written : (n : ℕ) → n < 2 ^ 64 → IsVarint n (varint_of n)
unfolding varint_of
varint_written n fits =
    let is = varint_encodes n fits in
    record { below = fits; short = groups_few 9 n; encoded = is.encoded }

pub number_written : (field n : ℕ) → 8 * field + 0 < 2 ^ 64 → n < 2 ^ 64 → IsNumber field n (number_bytes (8 * field + 0) n)
unfolding number_bytes
number_written field n known fits = record {
  key = varint_of (8 * field + 0);
  value = varint_of n;
  key_encoded = varint_written (8 * field + 0) known;
  value_encoded = varint_written n fits;
  encoded = refl;
}

pub content_written : (field : ℕ) (c : List ℕ) → 8 * field + 2 < 2 ^ 64 → length c < 2 ^ 64 → IsContent field c (content_bytes (8 * field + 2) c)
unfolding content_bytes content_head
content_written field c known fits = record {
  key = varint_of (8 * field + 2);
  size = varint_of (length c);
  key_encoded = varint_written (8 * field + 2) known;
  size_encoded = varint_written (length c) fits;
  encoded = append_assoc (varint_of (8 * field + 2)) (varint_of (length c)) c;
}

pub fixed32_written : (field n : ℕ) → 8 * field + 5 < 2 ^ 64 → n < 2 ^ 32 → IsFixed32 field n (fixed32_bytes (8 * field + 5) n)
unfolding fixed32_bytes
fixed32_written field n known fits = record { key = varint_of (8 * field + 5); below = fits; key_encoded = varint_written (8 * field + 5) known; encoded = refl }
