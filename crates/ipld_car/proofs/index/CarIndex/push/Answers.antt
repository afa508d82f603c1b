use Rattle.std.proofs.Common.{◌≡◌, ◌≢◌, ◌<◌, ◌++◌, List, length, None, ap, subst, sym, ◌∙◌, rules, refl, [], ◌∷◌, ◌-◌, vec_len, arith}
use Rattle.std.proofs.lemmas.Option.{slice_get_read}
use Rattle.ipld_car.specs.IndexGrouping.{entries_of_hash, IsSplitHash}
use Rattle.ipld_car.specs.declared.index.CarIndex.{CarIndex}
use Rattle.ipld_car.specs.declared.index.HashBuckets.{HashBuckets}
use Rattle.ipld_car.proofs.index.Grouping.{set_last, map_ok, map2_ok, all_get, no_lengths, same_set, Split, split_set, split_push, split_first}
use Rattle.ipld_car.proofs.index.CarIndex.push.Goals as goal
use Rattle.ipld_car.proofs.index.CarIndex.push.Goals.{in_default-via-in-Some+else-last_mut-code, in_default-via-in-None-1}

pub returns-in-Some-clause-behind : goal.returns-in-Some-clause-behind
returns-in-Some-clause-behind c =
    let held = c.args.self.now.hashes in
    let some = c.in-Some.ensures.variant.0 refl in
    map_ok c.push.result
    (set_last entries_of_hash held.items (vec_len held - 1) c.in-Some.last.now c.push.new.self (c.args.entry.now ∷ [])
    (search rules) (slice_get_read held.items (vec_len held) (vec_len held - 1) c.in-Some.last.now (search rules) (omega arith) c.in-Some.ensures.value))
    c.push.ensures.behind

abbrev IsWhole : HashBuckets → Type 0
IsWhole hash = IsSplitHash hash × (0 < length hash.buckets.items)

pub returns-in-Some-clause-split : goal.returns-in-Some-clause-split
returns-in-Some-clause-split c =
    let held = c.args.self.now.hashes in
    let some = c.in-Some.ensures.variant.0 refl in
    let last = slice_get_read held.items (vec_len held) (vec_len held - 1) c.in-Some.last.now (search rules) (omega arith) c.in-Some.ensures.value in
    map2_ok c.push.result (λ grows more s.
    let whole : IsWhole c.in-Some.last.now = all_get IsWhole held.items (vec_len held - 1) c.in-Some.last.now last s.split in
    let t = split_set (λ (h : HashBuckets). h.code) IsWhole held.items (vec_len held - 1) c.in-Some.last.now c.push.new.self (search rules) last c.push.ensures.code
    (grows whole.0, more) (s.apart, s.split) in
    record { apart = t.0; split = t.1 }) c.push.ensures.split c.push.ensures.some

pub returns-in_ok-push-in_default-2-clause-split : goal.returns-in_ok-push-in_default-2-clause-split
returns-in_ok-push-in_default-2-clause-split c = λ s.
    let held = c.args.self.now.hashes in
    let made = c.push-in_default.new.self in
    let whole : IsWhole made = (c.in_ok-push-in_default.ensures.split (no_lengths _ c.new.ensures.items), c.in_ok-push-in_default.ensures.some) in
    elim c.in_default.branch [
      | in_default-via-in-Some+else-last_mut-code w ↦
          let some = w.in-Some.ensures.variant.0 refl in
          let last = slice_get_read held.items (vec_len held) (vec_len held - 1) w.in-Some.last.now (search rules) (omega arith) w.in-Some.ensures.value in
          let same : c.in_default.self.hashes.items ≡ held.items =
          ap (λ (x : CarIndex). x.hashes.items) w.self-is ∙ same_set held.items (vec_len held - 1) w.in-Some.last.now last in
          let all : c.push-in_default-2.new.self.items ≡ held.items ++ made ∷ [] =
          c.in_ok-push-in_default-2.ensures.items ∙ ap (λ (hs : List HashBuckets). hs ++ made ∷ []) same in
          let other : w.in-Some.last.now.code ≢ made.code = λ e. w.if-last_mut-code.false (e ∙ c.push-in_default.ensures.code) in
          let t = subst (Split (λ (h : HashBuckets). h.code) IsWhole) (sym all)
          (split_push (λ (h : HashBuckets). h.code) IsWhole held.items (vec_len held - 1) w.in-Some.last.now made (search rules) last other whole (s.apart, s.split)) in
          record { apart = t.0; split = t.1 }
      | in_default-via-in-None-1 w ↦
          let none : c.last_mut.result ≡ None = search rules in
          let empty : length held.items ≡ 0 = search rules in
          let all : c.push-in_default-2.new.self.items ≡ held.items ++ made ∷ [] =
          c.in_ok-push-in_default-2.ensures.items ∙ ap (λ (x : CarIndex). x.hashes.items ++ made ∷ []) w.self-is in
          let t = subst (Split (λ (h : HashBuckets). h.code) IsWhole) (sym all) (split_first (λ (h : HashBuckets). h.code) IsWhole held.items made empty whole) in
          record { apart = t.0; split = t.1 }
    ]
