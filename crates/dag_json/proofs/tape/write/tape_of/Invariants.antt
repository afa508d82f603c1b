use Rattle.dag_json.proofs.tape.write.tape_of.Given as goal

abbrev pub invariant-loop-container : goal.invariant-loop-container
invariant-loop-container l = Unit {0}

abbrev pub decreases-loop-container : goal.decreases-loop-container
decreases-loop-container l = goal.left-loop-container l
