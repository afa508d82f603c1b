use Rattle.std.proofs.Common.{◌∷◌, subst}
use Rattle.ipld_tree.specs.TreeOf.{items_of}
use Rattle.ipld_tokens.specs.ReadMachine.{in_list, open_at}
use Rattle.ipld_tokens.specs.OpenTree.{levels_of, state_of, Builds}
use Rattle.ipld_tokens.proofs.open_tree.OpenTree.begin_list.Goals as goal

pub returns : goal.returns
returns c =
    subst (λ xs. Builds (Unit {0}) (open_at (in_list (items_of xs) ∷ levels_of c.args.self.now)) (state_of c.enter.new.self) c.enter.result) c.in_ok-list.ensures.empty c.enter.ensures
