use Rattle.std.proofs.Common.{◌≡◌, ℕ, suc, ◌++◌, Option, Some, None, List, length, map, refl, sym, ap, subst, ◌∙◌, arith, ◌-◌}
use Rattle.std.specs.Prelude.{reverse}
use Rattle.std.proofs.lemmas.List.{length-map}
use Rattle.std.proofs.lemmas.Option.{none-some}
use Rattle.ipld_block.specs.Digest.{digest_by}
use Rattle.ipld_cid.specs.LinkOf.{link_of}
use Rattle.dag_pb.specs.Views.{parts_of_link}
use Rattle.unixfs.specs.Files.{Child, slice, IsBlockOf, IsPart}
use Rattle.unixfs_files.specs.declared.state.WaitingPart.{WaitingPart}
use Rattle.unixfs_files.specs.Parts.{Part, part_of, IsPartIn, no_memory}
use Rattle.unixfs_files.specs.Walking.{child_of, range_of, excess, at_part, at_limit}
use Rattle.unixfs_files.proofs.Children.{count}
use Rattle.unixfs_files.proofs.Walks.{behind, is_next, same_next, nothing, none_over, fits, long_enough, slice_fits, slice_within, waits, levelled}
use Rattle.unixfs_files.proofs.state.FileWalk.take.Goals as goal

pub returns-in-Err-clause-only : goal.returns-in-Err-clause-only
returns-in-Err-clause-only c = λ next others part left is_block is_part fit none.
    let same = same_next c.args.self.now c.in-Some.next next others c.in-Some.is left in
    c.in-Err.ensures.only part (subst (λ (p : WaitingPart). IsBlockOf digest_by (link_of p.cid) c.args.block.now) same is_block)
    (subst (λ (p : WaitingPart). IsPartIn (link_of p.cid).codec c.args.block.now part) same is_part) fit

pub returns-in-Err-clause-fault : goal.returns-in-Err-clause-fault
returns-in-Err-clause-fault c = at_part c.in-Some.next (behind c.args.self.now) (is_next c.args.self.now c.in-Some.next c.in-Some.is) c.in-Err.ensures.exact

pub returns-in-Some-excess-clause-only : goal.returns-in-Some-excess-clause-only
returns-in-Some-excess-clause-only c = λ next others part left is_block is_part fit none.
    let same = same_next c.args.self.now c.in-Some.next next others c.in-Some.is left in
    let found = c.in-Ok.ensures.only part (subst (λ (p : WaitingPart). IsBlockOf digest_by (link_of p.cid) c.args.block.now) same is_block)
    (subst (λ (p : WaitingPart). IsPartIn (link_of p.cid).codec c.args.block.now part) same is_part) fit in
    let counted = count c.in-Ok.part.links.items c.in-Ok.part.sizes.items c.in-Ok.ensures.counted in
    absurd (none-some c.in-Some-excess.error (
    sym none ∙ ap (λ (p : WaitingPart). excess c.args.self.now p part.size (length part.children)) same
    ∙ ap (λ (p : Part). excess c.args.self.now c.in-Some.next p.size (length p.children)) (sym found)
    ∙ ap (λ (k : ℕ). excess c.args.self.now c.in-Some.next c.in-Ok.part.size k) (counted ∙ sym c.in-Ok.part.links.ok.0 ∙ sym c.len.ensures)
    ∙ sym c.excess.ensures.exact ∙ c.in-Some-excess.is))

pub returns-in-Some-excess-clause-fault : goal.returns-in-Some-excess-clause-fault
returns-in-Some-excess-clause-fault c =
    let counted = count c.in-Ok.part.links.items c.in-Ok.part.sizes.items c.in-Ok.ensures.counted in
    at_limit c.in-Some.next (behind c.args.self.now) (part_of c.in-Ok.part) (is_next c.args.self.now c.in-Some.next c.in-Some.is) c.in-Ok.ensures.exact.0 c.in-Ok.ensures.exact.1
    (ap (λ (k : ℕ). excess c.args.self.now c.in-Some.next c.in-Ok.part.size k) (counted ∙ sym c.in-Ok.part.links.ok.0 ∙ sym c.len.ensures) ∙ sym c.excess.ensures.exact ∙ c.in-Some-excess.is)

pub returns-in-Err-reversed_children-clause-fault : goal.returns-in-Err-reversed_children-clause-fault
returns-in-Err-reversed_children-clause-fault c = at_part c.in-Some.next (behind c.args.self.now) (is_next c.args.self.now c.in-Some.next c.in-Some.is) (no_memory refl)

pub returns-in-Err-extend_from_slice-clause-fault : goal.returns-in-Err-extend_from_slice-clause-fault
returns-in-Err-extend_from_slice-clause-fault c = at_part c.in-Some.next (behind c.args.self.now) (is_next c.args.self.now c.in-Some.next c.in-Some.is) (no_memory refl)

pub overflow_sub-self : goal.overflow_sub-self
overflow_sub-self c =
    let walk = c.args.self.now in
    let next = c.in-Some.next in
    let size = c.in-Ok.part.size in
    let none = none_over walk next size c.len.result c.excess.result c.excess.ensures.exact c.in_default-excess.not-Some in
    let fit = fits walk next size c.len.result none in
    let long = long_enough (link_of next.cid) c.in-Ok.part.head.now (part_of c.in-Ok.part).children size c.in-Ok.ensures.found in
    let within = slice_fits (range_of walk.range) c.in-Ok.part.head.now size long in
    omega (arith, fit.bytes, within, ap length c.slice-bytes.ensures)

pub overflow_sub-self-2 : goal.overflow_sub-self-2
overflow_sub-self-2 c =
    let walk = c.args.self.now in
    let next = c.in-Some.next in
    let size = c.in-Ok.part.size in
    let none = none_over walk next size c.len.result c.excess.result c.excess.ensures.exact c.in_default-excess.not-Some in
    let fit = fits walk next size c.len.result none in
    omega (arith, fit.blocks)

pub returns-clause-takes : goal.returns-clause-takes
returns-clause-takes c =
    let walk = c.args.self.now in
    let next = c.in-Some.next in
    let size = c.in-Ok.part.size in
    let none = none_over walk next size c.len.result c.excess.result c.excess.ensures.exact c.in_default-excess.not-Some in
    let children : List WaitingPart = reverse c.in-Ok-reversed_children.children.items in
    let are = c.in-Ok-reversed_children.ensures.children in
    let many : length children ≡ c.len.result =
    sym (length-map children child_of) ∙ ap length are ∙ count c.in-Ok.part.links.items c.in-Ok.part.sizes.items c.in-Ok.ensures.counted ∙ sym c.in-Ok.part.links.ok.0 ∙ sym c.len.ensures in
    let joined = c.in-Ok-extend_from_slice.ensures.items ∙ ap (λ (ps : List WaitingPart). walk.waiting.items ++ ps) c.deref.ensures.value in
    record {
      next = next;
      others = behind walk;
      head = c.in-Ok.part.head.now;
      children = children;
      size = size;
      was = is_next walk next c.in-Some.is;
      is_part = subst (λ (cs : List Child). IsPart digest_by (link_of next.cid) c.in-Ok.part.head.now cs size) (sym are) c.in-Ok.ensures.found;
      fits = ap (λ (k : ℕ). excess walk next size k) many ∙ none;
      levels = levelled c.saturating_add-level.result (suc next.level) children c.in-Ok-reversed_children.ensures.levels
          (λ some. omega (arith, c.excess.ensures.level (nothing c.excess.result c.in_default-excess.not-Some) (omega (arith, some, many)), c.saturating_add-level.ensures));
      are_bytes = c.slice-bytes.ensures;
      becomes = waits walk.waiting.items c.in-Ok-reversed_children.children.items c.extend_from_slice.new.self.items _ (range_of c.past-self.result) _ _ joined c.past-self.ensures c.next_part-self.ensures.skips;
    }

pub returns-clause-counts : goal.returns-clause-counts
returns-clause-counts c =
    let walk = c.args.self.now in
    let next = c.in-Some.next in
    let size = c.in-Ok.part.size in
    let none = none_over walk next size c.len.result c.excess.result c.excess.ensures.exact c.in_default-excess.not-Some in
    let fit = fits walk next size c.len.result none in
    let long = long_enough (link_of next.cid) c.in-Ok.part.head.now (part_of c.in-Ok.part).children size c.in-Ok.ensures.found in
    let within = slice_fits (range_of walk.range) c.in-Ok.part.head.now size long in
    record { limits = refl; bytes = omega (arith, fit.bytes, within, ap length c.slice-bytes.ensures); blocks = omega (arith, fit.blocks) }

pub returns-clause-within : goal.returns-clause-within
returns-clause-within c =
    omega (arith, slice_within (range_of c.args.self.now.range) c.in-Ok.part.head.now, ap length c.slice-bytes.ensures, c.in-Ok.ensures.within)

pub returns-clause-only : goal.returns-clause-only
returns-clause-only c = λ next others part left is_block is_part fit none.
    let same = same_next c.args.self.now c.in-Some.next next others c.in-Some.is left in
    let found = c.in-Ok.ensures.only part (subst (λ (p : WaitingPart). IsBlockOf digest_by (link_of p.cid) c.args.block.now) same is_block)
    (subst (λ (p : WaitingPart). IsPartIn (link_of p.cid).codec c.args.block.now part) same is_part) fit in
    c.slice-bytes.ensures ∙ ap (λ (p : Part). slice (range_of c.args.self.now.range) p.head) found
