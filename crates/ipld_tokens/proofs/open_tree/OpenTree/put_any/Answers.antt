use Rattle.std.proofs.Common.{[]}
use Rattle.ipld_tokens.specs.OpenTree.{inside}
use Rattle.ipld_tree.specs.TreeOf.{tree_of}
use Rattle.ipld_tokens.proofs.OpenTrees.{into_list, into_map}
use Rattle.ipld_tokens.proofs.open_tree.OpenTree.put_any.Goals as goal

pub returns-in-List : goal.returns-in-List
returns-in-List c =
    let b = c.args.self.now in
    into_list b.innermost c.in-List.list (inside b.outer.items []) c.args.value c.push_value.new.items.items c.push_value.result c.in-List.is c.push_value.ensures

pub returns-in-Map : goal.returns-in-Map
returns-in-Map c =
    let b = c.args.self.now in
    into_map b.innermost c.in-Map.map c.insert.new.self (inside b.outer.items []) (tree_of c.args.value) c.insert.result c.in-Map.is c.insert.ensures
