-- The order of the entries of a sorted index: by the hash of the CID, and then by the offset
-- (CARv2, "Index format"). Hashes are ordered by the code of the function, then by the length of
-- the digest, then by its bytes.
use Rattle.std.specs.Prelude.{List}
use Rattle.std.specs.declared.cmp.Ordering.{Ordering}
use Rattle.std.specs.List.Sorted.{IsSorted}
use Rattle.std.specs.Ordering.{nat_cmp, then_cmp, on}
use Rattle.ipld_cid.specs.Order.{hash_cmp}
use Rattle.ipld_car.specs.declared.index.entry.IndexEntry.{IndexEntry}

abbrev pub entry_cmp : IndexEntry → IndexEntry → Ordering
entry_cmp = then_cmp (on (λ e. e.hash) hash_cmp) (on (λ e. e.offset) nat_cmp)

-- True if no entry comes before its predecessor in the order.
abbrev pub AreSorted : List IndexEntry → Type 0
AreSorted entries = IsSorted entry_cmp entries
