use Rattle.dag_json.specs.Cursors.{Goes, tokens_left, trees_left, load}
use Rattle.dag_json.proofs.encode.write_tree.Given as goal

abbrev pub invariant-loop-outer : goal.invariant-loop-outer
invariant-loop-outer l =
    Goes (tokens_left l.initial.innermost l.initial.outer.items) (trees_left l.initial.innermost l.initial.outer.items) l.initial.writer
    (tokens_left l.innermost l.outer.items) (trees_left l.innermost l.outer.items) l.writer

abbrev pub decreases-loop-outer : goal.decreases-loop-outer
decreases-loop-outer l = load l.innermost l.outer.items
