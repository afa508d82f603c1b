use Rattle.std.proofs.Common.{◌∷◌, subst}
use Rattle.ipld_tree.specs.TreeOf.{members_of}
use Rattle.ipld_tokens.specs.ReadMachine.{in_key, open_at}
use Rattle.ipld_tokens.specs.OpenTree.{levels_of, state_of, Builds}
use Rattle.ipld_tokens.proofs.open_tree.OpenTree.begin_map.Goals as goal

pub returns : goal.returns
returns c =
    subst (λ es. Builds (Unit {0}) (open_at (in_key (members_of es) ∷ levels_of c.args.self.now)) (state_of c.enter.new.self) c.enter.result) c.new.ensures.empty c.enter.ensures
