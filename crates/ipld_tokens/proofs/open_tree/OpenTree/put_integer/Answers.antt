use Rattle.std.proofs.Common.{[]}
use Rattle.ipld_tokens.specs.OpenTree.{inside}
use Rattle.std.specs.Int.{w128}
use Rattle.std.proofs.lemmas.Int.{to_z-of_z}
use Rattle.ipld_tokens.proofs.OpenTrees.{integer_into_list}
use Rattle.ipld_tokens.proofs.open_tree.OpenTree.put_integer.Goals as goal

pub returns-in-List : goal.returns-in-List
returns-in-List c =
    let b = c.args.self.now in
    integer_into_list b.innermost c.in-List.list (inside b.outer.items []) c.args.number _ c.push_reserved.new.self.items c.in-List.is (to_z-of_z w128 c.args.number c.ranges.number) c.push_reserved.ensures.items
