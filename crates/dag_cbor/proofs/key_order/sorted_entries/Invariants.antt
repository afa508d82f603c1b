use Rattle.std.proofs.Common.{◌≡◌, List, ◌++◌, String, Global}
use Rattle.ipld_tree.specs.declared.ipld.Ipld.{Ipld}
use Rattle.dag_cbor.specs.Writing.{after_key, lent}
use Rattle.dag_cbor.proofs.key_order.sorted_entries.Given as goal

abbrev pub invariant-loop-entry : goal.invariant-loop-entry
invariant-loop-entry l =
    record {
      done : List (String Global × Ipld);
      split : l.members.entries ≡ done ++ l.entry-iterator;
      same : lent l.entries.items ≡ after_key done;
    }
