-- The bytes of an index, and the entries that they encode (CARv2, "Index format"). Numbers are in
-- little-endian order.
use Rattle.std.specs.Prelude.{◌≡◌, ◌≤◌, ◌<◌, ℕ, ◌+◌, ◌*◌, ◌^◌, List, [], ◌++◌, length}
use Rattle.std.specs.List.{All}
use Rattle.ipld_car.specs.Index.{rows, format_code}
use Rattle.ipld_car.specs.IndexNumbers.{le32, le64}
use Rattle.ipld_car.specs.declared.index.entry.IndexEntry.{IndexEntry}
use Rattle.ipld_car.specs.declared.index.format.IndexFormat.{IndexFormat}
use Rattle.ipld_car.specs.declared.index.format.IndexFormat.TheVariants.{IndexSorted, MultihashIndexSorted}

-- True if the entry has the hash function with this code, and a digest of `digest_len` bytes.
abbrev pub IsOf : ℕ → ℕ → IndexEntry → Type 0
IsOf code digest_len entry = (entry.hash.code ≡ code) × (length entry.hash.digest ≡ digest_len)

-- True if the bytes are the rows of a hash function with digests of one length (CARv2, "Index
-- format", MultihashIndexSorted). They are the length of a row, the length of all rows, and the
-- rows. The digests have at most 64 bytes.
pub record IsBucket (code : ℕ) (bytes : List ℕ) (entries : List IndexEntry) : Type 0 where
  pub digest_len : ℕ
  pub short : digest_len ≤ 64
  pub own : All (IsOf code digest_len) entries
  pub fits : (digest_len + 8) * length entries < 2 ^ 64
  pub encoded : bytes ≡ le32 (digest_len + 8) ++ le64 ((digest_len + 8) * length entries) ++ rows entries

-- True if the bytes are `n` parts, one after the other, and the entries are those of all parts.
pub data Parts (IsPart : List ℕ → List IndexEntry → Type 0) : ℕ → List ℕ → List IndexEntry → Type 0 where
  none : Parts IsPart 0 [] []
  more : (n : ℕ) (front part : List ℕ) (entries own : List IndexEntry) → Parts IsPart n front entries → IsPart part own
      → Parts IsPart (n + 1) (front ++ part) (entries ++ own)

-- True if the bytes are the rows of a hash function: its code, the number of digest lengths, and
-- the rows by length (CARv2, "Index format", MultihashIndexSorted).
pub record IsHash (bytes : List ℕ) (entries : List IndexEntry) : Type 0 where
  pub code : ℕ
  pub count : ℕ
  pub buckets : List ℕ
  pub parts : Parts (IsBucket code) count buckets entries
  pub in_range : (code < 2 ^ 64) × (count < 2 ^ 32)
  pub encoded : bytes ≡ le64 code ++ le32 count ++ buckets

-- True if the bytes are a part of an index in this format: the rows with digests of one length, or
-- those of a hash function. In IndexSorted each hash has the code 0.
abbrev pub IsPart : IndexFormat → List ℕ → List IndexEntry → Type 0
IsPart IndexSorted = IsBucket 0
IsPart MultihashIndexSorted = IsHash

-- True if the bytes are an index of the entries in this format: the code of the format, the number
-- of its parts, and the parts (CARv2, "Index format").
pub record IsIndex (format : IndexFormat) (bytes : List ℕ) (entries : List IndexEntry) : Type 0 where
  pub count : ℕ
  pub behind : List ℕ
  pub parts : Parts (IsPart format) count behind entries
  pub in_range : count < 2 ^ 32
  pub encoded : bytes ≡ format_code format ++ le32 count ++ behind
