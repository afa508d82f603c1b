use Rattle.std.specs.Int.{w128}
use Rattle.std.proofs.lemmas.Int.{to_z-of_z}
use Rattle.ipld_tokens.specs.OpenTree.{levels_of, state_of}
use Rattle.ipld_tokens.proofs.OpenTrees.{as_integer}
use Rattle.ipld_tokens.proofs.open_tree.OpenTree.put_any_integer.Goals as goal

pub returns : goal.returns
returns c =
    as_integer c.args.number _ (to_z-of_z w128 c.args.number c.ranges.number) (levels_of c.args.self.now) (state_of c.put_any.new.self) c.put_any.result c.put_any.ensures
