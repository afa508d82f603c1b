use Rattle.std.proofs.Common.{rules, ◌≡◌, ◌≤◌, max, length, ltb, leb, refl, arith}
use Rattle.std.specs.Ordering.{ordering_index}
use Rattle.std.proofs.lemmas.List.Sorted.{IsPartitionPoint-from_clause}
use Rattle.ipld_cid.specs.Order.{hash_cmp}
use Rattle.ipld_car.proofs.index.Finding.{below_first, up_to_last, finds, first_test, last_test}
use Rattle.ipld_car.specs.declared.index.entry.IndexEntry.{IndexEntry}
use Rattle.ipld_car.proofs.index.lookup.entries_of.Goals as goal

pub returns : goal.returns
returns c = λ s.
    let h = c.args.hash.now in
    let xs = c.args.entries.now in
    let start = c.partition_point-start.result in
    let last = c.partition_point-end.result in
    let first = IsPartitionPoint-from_clause (λ (e : IndexEntry). ltb (ordering_index (hash_cmp e.hash h)) 1) xs start c.partition_point-start.ensures.partitioned (below_first h xs s)
    (λ a r f' k. first_test r _ f' (hash_cmp a.0.now.hash h) (search rules)) in
    let behind = IsPartitionPoint-from_clause (λ (e : IndexEntry). leb (ordering_index (hash_cmp e.hash h)) 1) xs last c.partition_point-end.ensures.partitioned (up_to_last h xs s)
    (λ a r f' k. last_test r _ f' (hash_cmp a.0.now.hash h) (search rules)) in
    let is : c.max.result ≡ max last start = c.max.ensures in
    let fits : start ≤ length xs = c.partition_point-start.ensures.bound in
    let ends : last ≤ length xs = c.partition_point-end.ensures.bound in
    finds h xs start last c.max.result _ first behind (omega (arith, max)) (omega (arith, max)) (λ more. omega (arith, max)) (omega (arith, max)) refl
