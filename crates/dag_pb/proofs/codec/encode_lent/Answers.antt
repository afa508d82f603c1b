use Rattle.std.proofs.Common.{Ok, subst}
use Rattle.ipld_cid.specs.Multihash.{IsBytes}
use Rattle.dag_pb.specs.Lemmas.CodecLaws.{read_decoded, block_written}
use Rattle.dag_pb.specs.Views.{parts_of_node}
use Rattle.dag_pb.proofs.Blocks.{bytes_written, not_written, not_in_order}
use Rattle.dag_pb.proofs.codec.encode_lent.Goals as goal

pub returns-in-Ok-clause-ok : goal.returns-in-Ok-clause-ok
returns-in-Ok-clause-ok c =
    block_written (parts_of_node c.args.node.now) c.in-Ok.block.items c.in-Ok.ensures.exact
    (read_decoded c.in-Ok.block.items (Ok (parts_of_node c.args.node.now)) (subst IsBytes c.deref.ensures.value c.know_bytes.ensures) c.in-Ok.ensures.read_back)

pub returns-in-Ok-clause-exact : goal.returns-in-Ok-clause-exact
returns-in-Ok-clause-exact c = bytes_written (parts_of_node c.args.node.now) c.in-Ok.block.items c.in-Ok.ensures.exact

pub returns-in-Err-clause-err : goal.returns-in-Err-clause-err
returns-in-Err-clause-err c = not_written (parts_of_node c.args.node.now) c.in-Err.error c.from.result c.in-Err.ensures.exact c.from.ensures

pub returns-in-Err-clause-errors : goal.returns-in-Err-clause-errors
returns-in-Err-clause-errors c = not_in_order (parts_of_node c.args.node.now) c.in-Err.error c.from.result c.in-Err.ensures.exact c.from.ensures
