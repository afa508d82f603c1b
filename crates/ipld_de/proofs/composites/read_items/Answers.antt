use Rattle.std.proofs.Common.{◌≡◌, ◌++◌, [], ◌∷◌, map, Some, option_map, ap, ◌∙◌}
use Rattle.std.proofs.lemmas.List.{map-append}
use Rattle.std.proofs.lemmas.Result.{err_from_is_err_and}
use Rattle.ipld_de.specs.Cursors.{left, read_next}
use Rattle.ipld_de.proofs.Sequences.{list_more, error_more, item_rejected}
use Rattle.ipld_de.proofs.composites.read_items.Goals as goal

pub loop-all-preserved : goal.loop-all-preserved
loop-all-preserved g c =
    let reads = g.T.Deserialize.reads in
    let contents = g.T.Deserialize.contents in
    let all = left c.args.items in
    let rest = left c.loop-all.items in
    let next : read_next reads rest ≡ Some (Some (contents c.in-Some.item)) = c.in_ok-item.ensures.ok ∙ ap (λ o. Some (option_map contents o)) c.in-Some.is in
    let joined : map contents c.push.new.self.items.items ≡ map contents c.loop-all.all.items.items ++ contents c.in-Some.item ∷ [] =
    ap (map contents) c.in_ok-push.ensures ∙ map-append contents c.loop-all.all.items.items (c.in-Some.item ∷ []) in
    record {
      read = rw (c.next_element.ensures.gone, joined) (list_more reads all rest (map contents c.loop-all.all.items.items) (contents c.in-Some.item) c.loop-all.invariant.read next);
      why = rw c.next_element.ensures.gone (error_more reads g.T.Deserialize.read_error all rest (contents c.in-Some.item) c.loop-all.invariant.why next);
    }

pub returns-in_err-item-clause-err : goal.returns-in_err-item-clause-err
returns-in_err-item-clause-err g c =
    let p = err_from_is_err_and c.from_residual-in_err-item.result c.from_residual-in_err-item.ensures.1 in
    rw (p.1, p.2) (item_rejected g.T.Deserialize.reads g.T.Deserialize.read_error (left c.args.items) (left c.loop-all.items) (map g.T.Deserialize.contents c.loop-all.all.items.items) _
    c.loop-all.invariant.read c.loop-all.invariant.why c.in_err-item.ensures.err)
