use Rattle.std.proofs.Common.{rules, ◌≡◌, filter, subst, sym, ◌∙◌, List, Result, Ok, Err, IfOk}
use Rattle.std.proofs.lemmas.Fn.{filter_same}
use Rattle.std.specs.List.Sorted.{IsPermutation}
use Rattle.ipld_car.specs.IndexGrouping.{entries_in, has_digest, indexed}
use Rattle.ipld_car.specs.declared.index.CarIndex.{CarIndex}
use Rattle.ipld_car.specs.declared.index.entry.IndexEntry.{IndexEntry}
use Rattle.ipld_car.proofs.index.CarIndex.new.Goals as goal

-- the index has the sorted entries, which are those that were kept
has_all : {E : Type 0} (given kept sorted : List IndexEntry) (result : Result CarIndex E) → kept ≡ filter has_digest given → IsPermutation kept sorted
    → IfOk result (λ index. entries_in index ≡ sorted) → IfOk result (λ index. IsPermutation (indexed given) (entries_in index))
has_all given kept sorted (Ok index) k p same = subst (λ xs. IsPermutation xs (entries_in index)) k (subst (IsPermutation kept) (sym same) p)
has_all given kept sorted (Err e) k p same = tt

pub returns-then-is_one_bucket-clause-same : goal.returns-then-is_one_bucket-clause-same
returns-then-is_one_bucket-clause-same c =
    let kept : c.retain.new.self.items ≡ filter has_digest c.args.entries.items = filter_same _ _ _ (λ x b f' k. search rules) _ _ c.retain.ensures.filtered in
    has_all c.args.entries.items c.retain.new.self.items c.sort_unstable.new.self.items c.of_bucket.result kept c.sort_unstable.ensures.permutation c.of_bucket.ensures.same

pub returns-clause-same : goal.returns-clause-same
returns-clause-same c =
    let kept : c.retain.new.self.items ≡ filter has_digest c.args.entries.items = filter_same _ _ _ (λ x b f' k. search rules) _ _ c.retain.ensures.filtered in
    has_all c.args.entries.items c.retain.new.self.items c.sort_unstable.new.self.items c.of_entries.result kept c.sort_unstable.ensures.permutation
    (subst (λ (xs : List IndexEntry). IfOk c.of_entries.result (λ index. entries_in index ≡ xs)) c.deref-2.ensures.value c.of_entries.ensures.same)
