-- The first error of bytes that are not an index with sorted entries, in the order of the bytes. The bytes before it begin such an index. Bytes that end too early have
-- the error of an unexpected end, whatever could follow them.
use Rattle.std.specs.Prelude.{◌≡◌, ◌≢◌, ◌≤◌, ◌<◌, ◌+◌, ◌*◌, ◌^◌, ℕ, List, [], ◌∷◌, ◌++◌, length, IfSome, Option}
use Rattle.ipld_cid.specs.Varint.{IsVarint}
use Rattle.ipld_cid.specs.declared.error.CidError.TheVariants.{NotShortest as VarintNotShortest, VarintTooLarge}
use Rattle.ipld_car.specs.Index.{row, format_code, format_number}
use Rattle.ipld_car.specs.IndexLayout.{IsOf, IsBucket, IsHash, IsPart, Parts}
use Rattle.ipld_car.specs.IndexNumbers.{le32, le64}
use Rattle.ipld_car.specs.IndexOrder.{AreSorted}
use Rattle.ipld_car.specs.IndexReading.{AreInOrder, AreRows}
use Rattle.ipld_car.specs.Lengths.{BeginsVarint, IsNoVarint}
use Rattle.ipld_car.specs.Taking.{IsReadError}
use Rattle.ipld_car.specs.declared.index.entry.IndexEntry.{IndexEntry}
use Rattle.ipld_car.specs.declared.index.error.IndexError.{IndexError}
use Rattle.ipld_car.specs.declared.index.format.IndexFormat.{IndexFormat}
use Rattle.ipld_car.specs.declared.index.format.IndexFormat.TheVariants.{IndexSorted, MultihashIndexSorted}
use Rattle.ipld_car.specs.declared.index.error.IndexError.TheVariants.{Memory, Read, UnexpectedEnd, FormatNotShortest, FormatTooLarge, Format, Width, Length, NotSorted}

-- True if the error is a failed allocation, or an error of the reader that fits `IsReadError`. The
-- bytes do not cause these. It is true of any other error if the bytes are not known, or if
-- `IsWrong` is true of them and of the error.
abbrev pub Blames : (List ℕ → IndexError → Type 0) → Option (List ℕ) → IndexError → Type 0
Blames IsWrong known Memory = Unit {0}
Blames IsWrong known (Read error) = IsReadError error
Blames IsWrong known error = IfSome known (λ bytes. IsWrong bytes error)

-- True if the error is `UnexpectedEnd` and the bytes, if they are known, are fewer than `count`. It
-- is also true if an allocation or the reader failed.
abbrev pub EndsWithin : ℕ → Option (List ℕ) → IndexError → Type 0
EndsWithin count known Memory = Unit {0}
EndsWithin count known (Read error) = IsReadError error
EndsWithin count known UnexpectedEnd = IfSome known (λ bytes. length bytes < count)
EndsWithin count known _ = ⊥

-- True if the error is `NotSorted` and the entries are not sorted, or if it is a failed allocation.
abbrev pub IsUnsorted : List IndexEntry → IndexError → Type 0
IsUnsorted entries Memory = Unit {0}
IsUnsorted entries NotSorted = AreSorted entries → ⊥
IsUnsorted entries _ = ⊥

-- True if fewer than `count` parts at the front are valid, and the next part is invalid with this
-- error. The entries of the valid parts are in order after those in `before`.
pub record FirstWrong (AreParts : ℕ → List ℕ → List IndexEntry → Type 0) (IsWrongPart : List IndexEntry → List ℕ → IndexError → Type 0) (count : ℕ)
    (before : List IndexEntry) (bytes : List ℕ) (error : IndexError) : Type 0 where
  pub right : ℕ
  pub front : List ℕ
  pub back : List ℕ
  pub entries : List IndexEntry
  pub fewer : right < count
  pub are_parts : AreParts right front entries
  pub in_order : AreInOrder (before ++ entries)
  pub is_wrong : IsWrongPart (before ++ entries) back error
  pub split : bytes ≡ front ++ back

-- True if `error` is the first error of a row: the bytes end within it, or the entries are not
-- sorted once its entry follows those in `before`.
pub data WrongRow (code digest_len : ℕ) (before : List IndexEntry) : List ℕ → IndexError → Type 0 where
  row_ends : (bytes : List ℕ) → length bytes < digest_len + 8 → WrongRow code digest_len before bytes UnexpectedEnd
  unsorted : (entry : IndexEntry) (rest : List ℕ) → IsOf code digest_len entry → entry.offset < 2 ^ 64 → (AreSorted (before ++ entry ∷ []) → ⊥)
      → WrongRow code digest_len before (row entry ++ rest) NotSorted

-- True if `error` is the first error of the rows with digests of one length. The bytes end within
-- the length of a row, or within the length of all rows. Or the length of a row is not from 8 to
-- 72, the length of all rows is not a multiple of it, or a row is invalid.
pub data WrongBucket (code : ℕ) (before : List IndexEntry) : List ℕ → IndexError → Type 0 where
  width_ends : (bytes : List ℕ) → length bytes < 4 → WrongBucket code before bytes UnexpectedEnd
  wrong_width : (width : ℕ) (rest : List ℕ) → width < 2 ^ 32 → ((digest_len : ℕ) → digest_len ≤ 64 → width ≢ digest_len + 8)
      → WrongBucket code before (le32 width ++ rest) (Width width)
  length_ends : (digest_len : ℕ) (rest : List ℕ) → digest_len ≤ 64 → length rest < 8 → WrongBucket code before (le32 (digest_len + 8) ++ rest) UnexpectedEnd
  wrong_length : (digest_len len : ℕ) (rest : List ℕ) → digest_len ≤ 64 → len < 2 ^ 64 → ((count : ℕ) → len ≢ (digest_len + 8) * count)
      → WrongBucket code before (le32 (digest_len + 8) ++ (le64 len ++ rest)) (Length len)
  wrong_row : (digest_len count : ℕ) (rest : List ℕ) (error : IndexError) → digest_len ≤ 64 → (digest_len + 8) * count < 2 ^ 64
      → FirstWrong (AreRows code digest_len) (WrongRow code digest_len) count before rest error
      → WrongBucket code before (le32 (digest_len + 8) ++ (le64 ((digest_len + 8) * count) ++ rest)) error

-- True if `error` is the first error of the rows of a hash function. The bytes end within its code
-- or the number of digest lengths, or the rows with one of these lengths are invalid.
pub data WrongHash (before : List IndexEntry) : List ℕ → IndexError → Type 0 where
  hash_ends : (bytes : List ℕ) → length bytes < 12 → WrongHash before bytes UnexpectedEnd
  wrong_bucket : (code count : ℕ) (rest : List ℕ) (error : IndexError) → code < 2 ^ 64 → count < 2 ^ 32
      → FirstWrong (Parts (IsBucket code)) (WrongBucket code) count before rest error → WrongHash before (le64 code ++ (le32 count ++ rest)) error

-- True if `error` is the first error of a part of an index in this format.
abbrev pub WrongPart : IndexFormat → List IndexEntry → List ℕ → IndexError → Type 0
WrongPart IndexSorted = WrongBucket 0
WrongPart MultihashIndexSorted = WrongHash

-- True if `error` is the first error of the code of the format. The bytes end within its varint,
-- the varint is not in its shortest form or encodes 2^64 or more, or the code is not that of a
-- format that is read.
pub data WrongFormat : List ℕ → IndexError → Type 0 where
  format_ends : (bytes : List ℕ) → BeginsVarint bytes → WrongFormat bytes UnexpectedEnd
  format_not_shortest : (bytes rest : List ℕ) → IsNoVarint bytes VarintNotShortest → WrongFormat (bytes ++ rest) FormatNotShortest
  format_too_large : (bytes rest : List ℕ) → IsNoVarint bytes VarintTooLarge → WrongFormat (bytes ++ rest) FormatTooLarge
  other_format : (code : ℕ) (bytes rest : List ℕ) → IsVarint code bytes → ((format : IndexFormat) → code ≢ format_number format) → WrongFormat (bytes ++ rest) (Format code)

-- True if `error` is the first error of bytes that are not an index with sorted entries. The code
-- of the format is invalid, the bytes end within the number of parts, or a part is invalid.
pub data WrongIndex : List ℕ → IndexError → Type 0 where
  wrong_format : (bytes : List ℕ) (error : IndexError) → WrongFormat bytes error → WrongIndex bytes error
  count_ends : (format : IndexFormat) (rest : List ℕ) → length rest < 4 → WrongIndex (format_code format ++ rest) UnexpectedEnd
  wrong_part : (format : IndexFormat) (count : ℕ) (rest : List ℕ) (error : IndexError) → count < 2 ^ 32
      → FirstWrong (Parts (IsPart format)) (WrongPart format) count [] rest error → WrongIndex (format_code format ++ (le32 count ++ rest)) error
