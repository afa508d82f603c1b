use Rattle.std.proofs.Common.{Ok, Some, sym, ap, ◌∙◌, arith}
use Rattle.dag_pb.specs.Lemmas.CodecLaws.{read_decoded}
use Rattle.dag_pb.specs.Views.{parts_of_node}
use Rattle.dag_pb.proofs.Blocks.{not_decoded}
use Rattle.dag_pb.proofs.codec.decode_block.Goals as goal

pub returns-in-Err-clause-err : goal.returns-in-Err-clause-err
returns-in-Err-clause-err c = not_decoded c.args.bytes.now c.in-Err.error c.from.result (λ i. omega (arith, c.type_inv.bytes i)) c.in-Err.ensures.exact c.from.ensures

pub returns-clause-ok : goal.returns-clause-ok
returns-clause-ok c =
    read_decoded c.args.bytes.now (Ok (parts_of_node c.in-Ok.node)) (λ i. omega (arith, c.type_inv.bytes i)) c.in-Ok.ensures.exact ∙ ap Some (sym c.in_ok-to_owned.ensures)
