-- The index of a CAR of version 2 (CARv2, "Index format"). It is written in the format
-- MultihashIndexSorted. Its numbers are in little-endian order.
use Rattle.std.specs.Prelude.{ℕ, ◌+◌, ◌*◌, List, [], ◌∷◌, ◌++◌, length}
use Rattle.std.specs.List.{flat_map}
use Rattle.ipld_car.specs.IndexNumbers.{le32, le64}
use Rattle.ipld_car.specs.declared.index.entry.IndexEntry.{IndexEntry}
use Rattle.ipld_cid.specs.Multihash.{HashParts}
use Rattle.ipld_car.specs.declared.index.format.IndexFormat.{IndexFormat}
use Rattle.ipld_car.specs.declared.index.format.IndexFormat.TheVariants.{IndexSorted, MultihashIndexSorted}
use Rattle.ipld_car.specs.declared.index.Bucket.{Bucket}
use Rattle.ipld_car.specs.declared.index.HashBuckets.{HashBuckets}
use Rattle.ipld_car.specs.declared.index.CarIndex.{CarIndex}

-- a row: the digest, and the number of bytes of the payload before the section
unfoldable pub row : IndexEntry → List ℕ
row entry = entry.hash.digest ++ le64 entry.offset

abbrev pub rows : List IndexEntry → List ℕ
rows entries = flat_map row entries

-- the rows with digests of one length: the length of a row, the length of all rows, and the rows
unfoldable pub bucket_bytes : Bucket → List ℕ
bucket_bytes bucket =
    le32 (bucket.digest_len + 8) ++ le64 ((bucket.digest_len + 8) * length bucket.entries.items) ++ rows bucket.entries.items

abbrev pub buckets_bytes : List Bucket → List ℕ
buckets_bytes buckets = flat_map bucket_bytes buckets

-- the rows of a hash function: its code, the number of digest lengths, and the rows by length
unfoldable pub hash_bytes : HashBuckets → List ℕ
hash_bytes hash = le64 hash.code ++ le32 (length hash.buckets.items) ++ buckets_bytes hash.buckets.items

abbrev pub hashes_bytes : List HashBuckets → List ℕ
hashes_bytes hashes = flat_map hash_bytes hashes

-- the code of a format
abbrev pub format_number : IndexFormat → ℕ
format_number IndexSorted = 0x0400
format_number MultihashIndexSorted = 0x0401

-- the code of a format as a varint
unfoldable pub format_code : IndexFormat → List ℕ
format_code IndexSorted = 0x80 ∷ 0x08 ∷ []
format_code MultihashIndexSorted = 0x81 ∷ 0x08 ∷ []

-- the hash that an index in this format has for a block whose CID has the hash
abbrev pub stored_hash : IndexFormat → HashParts → HashParts
stored_hash IndexSorted hash = record { code = 0; digest = hash.digest }
stored_hash MultihashIndexSorted hash = hash

-- The bytes of an index: the code of the format, the number of hash functions, and their rows, by
-- the length of the digest (CARv2, "Index format", MultihashIndexSorted).
abbrev pub index_bytes : CarIndex → List ℕ
index_bytes index = format_code MultihashIndexSorted ++ le32 (length index.hashes.items) ++ hashes_bytes index.hashes.items
