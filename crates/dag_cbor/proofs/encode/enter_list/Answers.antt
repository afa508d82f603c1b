use Rattle.std.proofs.Common.{map, length, refl, ap, arith}
use Rattle.ipld_tree.specs.Tree.{list}
use Rattle.ipld_tree.specs.TreeOf.{items_of}
use Rattle.dag_cbor.specs.declared.encode.EncodeCursor.TheVariants.{Items}
use Rattle.dag_cbor.specs.Cursors.{of_item}
use Rattle.dag_cbor.proofs.Encoding.{list_begins}
use Rattle.dag_cbor.proofs.Joining.{opens}
use Rattle.dag_cbor.proofs.encode.enter_list.Goals as goal

pub returns : goal.returns
returns c =
    let xs = c.args.items.now in
    opens (list (items_of xs)) (Items c.iter.result) c.enter.new.innermost c.args.innermost.now c.args.outer.now.items c.enter.new.outer.items c.args.out.now.items c.write_head.new.out.items
    (list_begins xs (length xs) (Items c.iter.result) c.args.out.now.items c.write_head.new.out.items refl (omega (arith, c.iter.ensures.bound)) (ap (map of_item) c.iter.ensures.rest) c.in_ok-write_head.ensures.ok)
    c.in_ok-enter.ensures.0 c.in_ok-enter.ensures.1
