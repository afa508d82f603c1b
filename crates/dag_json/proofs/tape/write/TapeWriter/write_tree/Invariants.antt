use Rattle.std.proofs.Common.{◌≡◌}
use Rattle.ipld_tree.specs.TreeOf.{tree_of}
use Rattle.dag_json.specs.TapeOpen.{view, finish, load}
use Rattle.dag_json.specs.TapeWriting.{written}
use Rattle.dag_json.proofs.tape.write.TapeWriter.write_tree.Given as goal

abbrev pub invariant-loop : goal.invariant-loop
invariant-loop l = finish l.containers.items (view l.self) ≡ written (tree_of l.fn.tree) (view l.fn.self)

abbrev pub decreases-loop : goal.decreases-loop
decreases-loop l = load l.containers.items
