use Rattle.std.proofs.Common.{refl, inr}
use Rattle.ipld_tree.specs.TreeOf.{tree_of, items_of}
use Rattle.ipld_tree.specs.declared.ipld.Ipld.{List as Ipld-List}
use Rattle.ipld_tree.proofs.Trees.{tree_of-List}
use Rattle.dag_json.proofs.Building.{list_ends, no_list}
use Rattle.dag_json.proofs.tree.TreeBuilder.end_list.Goals as goal

pub returns-in-Ok : goal.returns-in-Ok
returns-in-Ok c =
    let old = c.args.self.now in
    let mid = record old { tree = c.end_list.new.self; depth = c.saturating_sub-self.result } in
    let items = c.in-Ok.items in
    list_ends old mid c.put.new.self c.put.result refl c.saturating_sub-self.ensures (items_of items.items) (tree_of (Ipld-List items)) c.in-Ok.ensures (tree_of-List items) c.put.ensures

pub returns-in-Err : goal.returns-in-Err
returns-in-Err c = inr (no_list c.args.self.now c.in-Err.ensures.1)
