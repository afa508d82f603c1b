use Rattle.std.proofs.Common.{◌≡◌, ℕ, ◌<◌, ◌==◌, true, List, ◌∷◌, length, Option, Some, None, is_some, refl, sym, ap, ◌∙◌, rules, arith}
use Rattle.std.specs.List.{position_or_len, before_first, after_first}
use Rattle.ipld_tree.specs.Path.{parts_of}
use Rattle.ipld_tree.proofs.Paths.{cut_at, not_cut}
use Rattle.unixfs_folders.specs.SymlinkTargets.{levels_after, if_left, stays_below}
use Rattle.unixfs_folders.proofs.symlink_target.stays_inside.Goals as goal

-- a path with a slash: its first segment, and then the path behind it
step : (path front back : List ℕ) (levels : ℕ) → (front ≡ before_first (λ b. b == 47) path) × (back ≡ after_first (λ b. b == 47) path) × (position_or_len (λ b. b == 47) path < length path)
    → stays_below (parts_of path) levels ≡ if_left (stays_below (parts_of back)) (levels_after levels front)
step path front back levels cut =
    let parts : parts_of path ≡ front ∷ parts_of back = rw (cut.0, cut.1) (cut_at path cut.2) in
    ap (λ (segments : List (List ℕ)). stays_below segments levels) parts

-- a path with none
last : (path : List ℕ) (levels : ℕ) → position_or_len (λ b. b == 47) path ≡ length path → stays_below (parts_of path) levels ≡ if_left (λ _. true) (levels_after levels path)
last path levels none = ap (λ (segments : List (List ℕ)). stays_below segments levels) (not_cut path none)

is_left : (levels : Option ℕ) → is_some levels ≡ if_left (λ _. true) levels
is_left None = refl
is_left (Some levels) = refl

pub loop-segment-init : goal.loop-segment-init
loop-segment-init c = (c.utf8.target, search rules)

pub returns-in-None : goal.returns-in-None
returns-in-None c =
    let cut = c.in-Some.ensures.byte (omega arith) (λ w o h. h) in
    sym (c.loop-segment.invariant.1 ∙ step c.loop-segment.rest.now c.in-Some.segment.now c.in-Some.more.now c.loop-segment.levels cut
    ∙ ap (if_left (stays_below (parts_of c.in-Some.more.now))) (sym c.levels_after.ensures ∙ c.in-None.is))

pub loop-segment-preserved : goal.loop-segment-preserved
loop-segment-preserved c =
    let cut = c.in-Some.ensures.byte (omega arith) (λ w o h. h) in (
      search rules,
      c.loop-segment.invariant.1 ∙ step c.loop-segment.rest.now c.in-Some.segment.now c.in-Some.more.now c.loop-segment.levels cut
          ∙ ap (if_left (stays_below (parts_of c.in-Some.more.now))) (sym c.levels_after.ensures ∙ c.in-Some-levels_after.is),
    )

pub returns : goal.returns
returns c =
    let none = (rw c.in_default.is at c.split_once.ensures.byte) (omega arith) (λ w o h. h) in
    c.is_some.ensures ∙ is_left c.levels_after-2.result
    ∙ ap (if_left (λ _. true)) c.levels_after-2.ensures ∙ sym (c.loop-segment.invariant.1 ∙ last c.loop-segment.rest.now c.loop-segment.levels none)
