use Rattle.std.proofs.Common.{◌≡◌, ℕ, List, length, vec_len}
use Rattle.ipld_show.specs.ExtentsToCome.{Pending}
use Rattle.ipld_show.specs.declared.containers.Extent.{Extent}
use Rattle.ipld_show.proofs.containers.end_finished.Given as goal

abbrev pub invariant-loop-innermost : goal.invariant-loop-innermost
invariant-loop-innermost l =
    (all : List Extent) (rest : List ℕ) → l.left ≡ length rest → Pending l.initial.opened.items rest l.initial.containers.items all → Pending l.opened.items rest l.containers.items all

abbrev pub decreases-loop-innermost : goal.decreases-loop-innermost
decreases-loop-innermost l = vec_len l.opened
