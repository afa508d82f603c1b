use Rattle.std.proofs.Common.{Err}
use Rattle.ipld_show.specs.Blocks.{IsTreeAt, IsJsonAt}
use Rattle.ipld_show.proofs.BlockItems.{made_of, item_in, rejected_block, rejected_unwritten, of_block}
use Rattle.ipld_show.proofs.blocks.show.Goals as goal

pub returns-in-Ok : goal.returns-in-Ok
returns-in-Ok g c =
    let old = g.W.Write.contents c.args.writer.now in
    let new = g.W.Write.contents c.show_at.new.writer in
    let of = made_of (λ v. v.items) c.args.codec c.args.bytes.now c.cbor_or.result.now c.in-Ok.made c.in-Ok.ensures.made c.cbor_or.ensures in
    let i = item_in c.args.codec c.args.bytes.now c.cbor_or.result.now of in
    record {
      shown = λ plain.
          of_block c.args.codec c.args.bytes.now c.cbor_or.result.now c.args.path.now of (λ d r. IsTreeAt d c.args.path.now r old new) (λ d why at. at) (λ d at. at) c.show_at.result (λ d b. c.show_at.ensures.shown d b plain);
      shown_as_json = λ json.
          of_block c.args.codec c.args.bytes.now c.cbor_or.result.now c.args.path.now of (λ d r. IsJsonAt d c.args.path.now r old new) (λ d why at. at) (λ d at. at) c.show_at.result
          (λ d b. c.show_at.ensures.shown_as_json d b json);
      unwritten = c.show_at.ensures.unwritten i.0 i.1;
    }

pub returns-in-Err : goal.returns-in-Err
returns-in-Err g c =
    let old = g.W.Write.contents c.args.writer.now in
    record {
      shown = λ plain. rejected_block c.args.codec c.args.bytes.now (Unit {0}) (λ d. IsTreeAt d c.args.path.now (Err c.in-Err.error) old old) c.in-Err.error c.in-Err.ensures.rejected;
      shown_as_json = λ json. rejected_block c.args.codec c.args.bytes.now (Unit {0}) (λ d. IsJsonAt d c.args.path.now (Err c.in-Err.error) old old) c.in-Err.error c.in-Err.ensures.rejected;
      unwritten = rejected_unwritten c.in-Err.error old;
    }
