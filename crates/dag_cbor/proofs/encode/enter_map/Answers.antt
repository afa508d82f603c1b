use Rattle.std.proofs.Common.{arith}
use Rattle.ipld_tree.specs.Tree.{entries}
use Rattle.ipld_tree.specs.TreeOf.{members_of}
use Rattle.dag_cbor.proofs.Encoding.{map_begins}
use Rattle.dag_cbor.proofs.Joining.{opens}
use Rattle.dag_cbor.proofs.encode.enter_map.Goals as goal

pub returns : goal.returns
returns c =
    let es = c.args.members.now.entries in
    let cursor = c.in_ok-cursor.cursor in
    opens (entries (members_of es)) cursor c.enter.new.innermost c.args.innermost.now c.args.outer.now.items c.enter.new.outer.items c.args.out.now.items c.write_head.new.out.items
    (map_begins es c.len.result cursor c.args.out.now.items c.write_head.new.out.items c.len.ensures.ordered c.len.ensures.len (omega (arith, c.len.ensures.small)) c.in_ok-cursor.ensures c.in_ok-write_head.ensures.ok)
    c.in_ok-enter.ensures.0 c.in_ok-enter.ensures.1
