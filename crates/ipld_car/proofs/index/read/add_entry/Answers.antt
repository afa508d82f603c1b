use Rattle.std.proofs.Common.{sym, subst, ap, ◌∙◌, is_lt, ◌≡◌, ◌<◌, ◌-◌, length, slice_get, None, Some, false, get_or, arith}
use Rattle.std.proofs.lemmas.List.Kept.{IsSortedBy-push}
use Rattle.std.proofs.lemmas.Option.{get_or_from_slice_get, slice_get-get_or}
use Rattle.ipld_car.specs.IndexOrder.{AreSorted, entry_cmp}
use Rattle.ipld_car.specs.declared.index.entry.IndexEntry.{IndexEntry}
use Rattle.ipld_car.proofs.index.Only.{not_below}
use Rattle.ipld_car.proofs.index.read.add_entry.Goals as goal
use Rattle.ipld_car.proofs.index.read.add_entry.Goals.{in-Some+else-is_lt, in_default}

pub returns-clause-sorted : goal.returns-clause-sorted
returns-clause-sorted c =
    let xs = c.args.entries.now.items in
    let e = c.args.entry in
    let at = length xs - 1 in
    let last : (d : IndexEntry) → 0 < length xs → is_lt (entry_cmp e (get_or xs at d)) ≡ false =
    elim c.match-last.branch [
      | in-Some+else-is_lt w ↦ λ d some.
          let is : slice_get xs at ≡ Some w.in-Some.last.now = ap (λ l. slice_get l (length l - 1)) (sym c.deref.ensures.value) ∙ sym w.in-Some.ensures.value in
          ap (λ (x : IndexEntry). is_lt (entry_cmp e x)) (get_or_from_slice_get xs at w.in-Some.last.now d is) ∙ ap is_lt (sym w.cmp.ensures) ∙ sym w.if-is_lt.ensures
      | in_default w ↦ λ d some.
          let none : slice_get xs at ≡ None = ap (λ l. slice_get l (length l - 1)) (sym c.deref.ensures.value) ∙ sym w.in_default.ensures.value in
          let is = slice_get-get_or xs at d (omega arith) in
          absurd (let no = sym none ∙ is in cc)
    ] in
    λ s. subst AreSorted (sym c.in_ok-push.ensures.items) (IsSortedBy-push (λ (x y : IndexEntry). is_lt (entry_cmp x y)) xs e s last)

pub returns-then-is_lt-clause-fails : goal.returns-then-is_lt-clause-fails
returns-then-is_lt-clause-fails c =
    let xs = c.args.entries.now.items in
    not_below xs c.args.entry c.in-Some.last.now (ap (λ l. slice_get l (length l - 1)) (sym c.deref.ensures.value) ∙ sym c.in-Some.ensures.value)
    (ap is_lt (sym c.cmp.ensures) ∙ sym c.if-is_lt.ensures)
