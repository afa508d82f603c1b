-- The entries of an index that is to be written, by hash function and by the length of the digest.
use Rattle.std.specs.Prelude.{nat_lt, Bool, ℕ, ◌≢◌, ◌<◌, List, [], ◌∷◌, length, filter, map}
use Rattle.std.specs.List.{All, flat_map}
use Rattle.ipld_car.specs.IndexLayout.{IsOf}
use Rattle.ipld_car.specs.declared.index.entry.IndexEntry.{IndexEntry}
use Rattle.ipld_car.specs.declared.index.Bucket.{Bucket}
use Rattle.ipld_car.specs.declared.index.HashBuckets.{HashBuckets}
use Rattle.ipld_car.specs.declared.index.CarIndex.{CarIndex}

-- whether the digest of the entry has at least one byte
abbrev pub has_digest : IndexEntry → Bool
has_digest entry = nat_lt 0 (length entry.hash.digest)

-- the entries that an index has: those with a digest of at least one byte
abbrev pub indexed : List IndexEntry → List IndexEntry
indexed entries = filter has_digest entries

-- the entries of a hash function, in the order of the index
abbrev pub entries_of_hash : HashBuckets → List IndexEntry
entries_of_hash hash = flat_map (λ (bucket : Bucket). bucket.entries.items) hash.buckets.items

-- the entries, in the order of the index
abbrev pub entries_in : CarIndex → List IndexEntry
entries_in index = flat_map entries_of_hash index.hashes.items

-- True if no two neighbours in the list are equal.
abbrev pub AreApart : List ℕ → Type 0
AreApart [] = Unit {0}
AreApart (n ∷ []) = Unit {0}
AreApart (n ∷ m ∷ ns) = (n ≢ m) × AreApart (m ∷ ns)

-- the lengths of the digests of a hash function, in the order of the index
abbrev pub lengths_of : HashBuckets → List ℕ
lengths_of hash = map (λ (bucket : Bucket). bucket.digest_len) hash.buckets.items

-- the codes of the hash functions, in the order of the index
abbrev pub codes_of : CarIndex → List ℕ
codes_of index = map (λ (hash : HashBuckets). hash.code) index.hashes.items

-- True if all entries of a hash function are grouped with those that have the same digest length.
abbrev pub AreGroupedHash : HashBuckets → Type 0
AreGroupedHash hash = All (λ (bucket : Bucket). All (IsOf hash.code bucket.digest_len) bucket.entries.items) hash.buckets.items

-- True if all entries are grouped with those that have the same hash function and digest length.
abbrev pub AreGrouped : CarIndex → Type 0
AreGrouped index = All AreGroupedHash index.hashes.items

-- True if no two neighbouring groups have the same digest length, and no group is empty.
pub record IsSplitHash (hash : HashBuckets) : Type 0 where
  pub apart : AreApart (lengths_of hash)
  pub some : All (λ (bucket : Bucket). 0 < length bucket.entries.items) hash.buckets.items

-- True if no two neighbouring groups have the same hash function, no two neighbouring groups in one
-- of them have the same digest length, and no group is empty. So if the entries are grouped and
-- sorted, the codes ascend, and so do the digest lengths of a hash function.
pub record IsSplit (index : CarIndex) : Type 0 where
  pub apart : AreApart (codes_of index)
  pub split : All (λ (hash : HashBuckets). IsSplitHash hash × (0 < length hash.buckets.items)) index.hashes.items
