-- The entries with a given hash.
use Rattle.std.specs.Prelude.{◌≡◌, ◌≢◌, ℕ, List, length, slice_range}
use Rattle.std.specs.List.{AllWithin}
use Rattle.ipld_cid.specs.Multihash.{HashParts}
use Rattle.ipld_car.specs.declared.index.entry.IndexEntry.{IndexEntry}

-- True if the entries in `found` are consecutive in `entries` and have the hash, and no other entry
-- has it.
pub record FindsAll (hash : HashParts) (entries found : List IndexEntry) : Type 0 where
  pub start : ℕ
  pub end : ℕ
  pub is_found : found ≡ slice_range entries start end
  pub has : AllWithin (λ (e : IndexEntry). e.hash ≡ hash) entries start end
  pub before : AllWithin (λ (e : IndexEntry). e.hash ≢ hash) entries 0 start
  pub behind : AllWithin (λ (e : IndexEntry). e.hash ≢ hash) entries end (length entries)
