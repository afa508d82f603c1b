use Rattle.std.proofs.Common.{◌≡◌}
use Rattle.ipld_tree.specs.TreeOf.{members_of}
use Rattle.ipld_tree.specs.Heads.{keys_eq}
use Rattle.ipld_tree.proofs.same_tree.same_keys.Given as goal

abbrev pub invariant-loop-key : goal.invariant-loop-key
invariant-loop-key l = keys_eq (members_of l.a.entries) (members_of l.b.entries) ≡ keys_eq (members_of l.key-iterator) (members_of l.others)
