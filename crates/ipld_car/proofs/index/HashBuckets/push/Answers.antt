use Rattle.std.proofs.Common.{◌≡◌, ◌<◌, ◌++◌, List, length, None, ap, subst, sym, ◌∙◌, rules, refl, [], ◌∷◌, ◌-◌, vec_len, arith}
use Rattle.std.proofs.lemmas.Option.{slice_get_read}
use Rattle.ipld_car.specs.declared.index.Bucket.{Bucket}
use Rattle.ipld_car.specs.declared.index.HashBuckets.{HashBuckets}
use Rattle.ipld_car.proofs.index.Grouping.{set_last, same_set, Split, split_set, split_push, split_first, pushed_some}
use Rattle.ipld_car.proofs.index.HashBuckets.push.Goals as goal
use Rattle.ipld_car.proofs.index.HashBuckets.push.Goals.{in_default-via-in-Some+else-last_mut-digest_len, in_default-via-in-None-1}

pub returns-in_ok-push-in-Some-clause-behind : goal.returns-in_ok-push-in-Some-clause-behind
returns-in_ok-push-in-Some-clause-behind c =
    let held = c.args.self.now.buckets in
    let some = c.in-Some.ensures.variant.0 refl in
    set_last (λ (b : Bucket). b.entries.items) held.items (vec_len held - 1) c.in-Some.last.now _ (c.args.entry.now ∷ [])
    (search rules) (slice_get_read held.items (vec_len held) (vec_len held - 1) c.in-Some.last.now (search rules) (omega arith) c.in-Some.ensures.value) c.in_ok-push-in-Some.ensures.items

abbrev HasRows : Bucket → Type 0
HasRows b = 0 < length b.entries.items

pub returns-in_ok-push-in-Some-clause-split : goal.returns-in_ok-push-in-Some-clause-split
returns-in_ok-push-in-Some-clause-split c = λ s.
    let held = c.args.self.now.buckets in
    let some = c.in-Some.ensures.variant.0 refl in
    let t = split_set (λ (b : Bucket). b.digest_len) HasRows held.items (vec_len held - 1) c.in-Some.last.now (record { digest_len = c.in-Some.last.now.digest_len; entries = c.push.new.self })
    (search rules) (slice_get_read held.items (vec_len held) (vec_len held - 1) c.in-Some.last.now (search rules) (omega arith) c.in-Some.ensures.value)
    refl (pushed_some c.push.new.self.items _ _ c.in_ok-push-in-Some.ensures.items) (s.apart, s.some) in
    record { apart = t.0; some = t.1 }

pub returns-in_ok-push-in_default-2-clause-split : goal.returns-in_ok-push-in_default-2-clause-split
returns-in_ok-push-in_default-2-clause-split c = λ s.
    let held = c.args.self.now.buckets in
    let made : Bucket = record { digest_len = length c.digest-digest.result.now; entries = c.push-in_default.new.self } in
    let rows : HasRows made = pushed_some c.push-in_default.new.self.items _ _ c.in_ok-push-in_default.ensures.items in
    elim c.in_default.branch [
      | in_default-via-in-Some+else-last_mut-digest_len w ↦
          let some = w.in-Some.ensures.variant.0 refl in
          let last = slice_get_read held.items (vec_len held) (vec_len held - 1) w.in-Some.last.now (search rules) (omega arith) w.in-Some.ensures.value in
          let same : c.in_default.self.buckets.items ≡ held.items =
          ap (λ (h : HashBuckets). h.buckets.items) w.self-is ∙ same_set held.items (vec_len held - 1) w.in-Some.last.now last in
          let all : c.push-in_default-2.new.self.items ≡ held.items ++ made ∷ [] =
          c.in_ok-push-in_default-2.ensures.items ∙ ap (λ (bs : List Bucket). bs ++ made ∷ []) same in
          let t = subst (Split (λ (b : Bucket). b.digest_len) HasRows) (sym all)
          (split_push (λ (b : Bucket). b.digest_len) HasRows held.items (vec_len held - 1) w.in-Some.last.now made (search rules) last w.if-last_mut-digest_len.false rows
          (s.apart, s.some)) in
          record { apart = t.0; some = t.1 }
      | in_default-via-in-None-1 w ↦
          let none : c.last_mut.result ≡ None = search rules in
          let empty : length held.items ≡ 0 = search rules in
          let all : c.push-in_default-2.new.self.items ≡ held.items ++ made ∷ [] =
          c.in_ok-push-in_default-2.ensures.items ∙ ap (λ (h : HashBuckets). h.buckets.items ++ made ∷ []) w.self-is in
          let t = subst (Split (λ (b : Bucket). b.digest_len) HasRows) (sym all) (split_first (λ (b : Bucket). b.digest_len) HasRows held.items made empty rows) in
          record { apart = t.0; some = t.1 }
    ]
