use Rattle.std.proofs.Common.{refl, inr}
use Rattle.ipld_tree.specs.TreeOf.{members_of}
use Rattle.dag_json.proofs.Building.{map_ends, no_map}
use Rattle.dag_json.proofs.tree.TreeBuilder.end_map.Goals as goal

pub returns-in-Ok : goal.returns-in-Ok
returns-in-Ok c =
    let old = c.args.self.now in
    let mid = record old { tree = c.end_map.new.self; depth = c.saturating_sub-self.result } in
    map_ends old mid c.put_object.new.self c.put_object.result refl c.saturating_sub-self.ensures (members_of c.in-Ok.members.entries) c.in-Ok.ensures c.put_object.ensures

pub returns-in-Err : goal.returns-in-Err
returns-in-Err c = inr (no_map c.args.self.now c.in-Err.ensures.1)
