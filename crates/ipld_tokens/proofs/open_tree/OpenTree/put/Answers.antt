use Rattle.std.proofs.Common.{[]}
use Rattle.ipld_tokens.specs.OpenTree.{inside}
use Rattle.ipld_tokens.proofs.OpenTrees.{into_list}
use Rattle.ipld_tokens.proofs.open_tree.OpenTree.put.Goals as goal

pub returns-in-List : goal.returns-in-List
returns-in-List c =
    let b = c.args.self.now in
    into_list b.innermost c.in-List.list (inside b.outer.items []) c.args.value c.push_value.new.items.items c.push_value.result c.in-List.is c.push_value.ensures
