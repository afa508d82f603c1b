use Rattle.std.proofs.Common.{rules, sym, subst}
use Rattle.std.proofs.lemmas.List.{take_rest}
use Rattle.ipld_codec.specs.WriteOut.{WritesFront}
use Rattle.ipld_car.proofs.Pieces.{piece_written}
use Rattle.ipld_car.proofs.write_all.write_all.Goals as goal

pub loop-preserved : goal.loop-preserved
loop-preserved g c =
    let grown = piece_written _ _ _ _ _ _ c.loop.invariant.0 c.in_ok-count.ensures.ok.1 in
    (subst (λ r. WritesFront (g.W.Write.contents c.args.writer.now) (g.W.Write.contents c.write_piece.new.writer) c.args.bytes.now r) (sym (take_rest c.loop.rest.now c.in_ok-count.count)) grown, search rules)
