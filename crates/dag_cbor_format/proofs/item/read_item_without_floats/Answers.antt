use Rattle.std.proofs.lemmas.Result.{err_from_is_err_and}
use Rattle.dag_cbor_format.proofs.ItemHeads.{no_head, item_begins, item_shorter, item_rejected}
use Rattle.dag_cbor_format.proofs.item.read_item_without_floats.Goals as goal

pub returns-in_err-major-clause-rejected : goal.returns-in_err-major-clause-rejected
returns-in_err-major-clause-rejected c =
    let bytes = c.args.bytes.now in
    let p = err_from_is_err_and c.from_residual.result c.from_residual.ensures.1 in
    rw (p.1, p.2, c.in_err-major.ensures.1) (no_head bytes c.requires c.in_err-major.ensures.0)

pub returns-clause-found : goal.returns-clause-found
returns-clause-found c = let h = c.in_ok-major in item_begins c.args.bytes.now c.requires h.major h.argument h.rest.now h.ensures c.read_content.result c.read_content.ensures

pub returns-clause-shorter : goal.returns-clause-shorter
returns-clause-shorter c = let h = c.in_ok-major in item_shorter c.args.bytes.now c.requires h.major h.argument h.rest.now h.ensures c.read_content.result c.read_content.ensures

pub returns-clause-rejected : goal.returns-clause-rejected
returns-clause-rejected c = let h = c.in_ok-major in item_rejected c.args.bytes.now c.requires h.major h.argument h.rest.now h.ensures c.read_content.result c.read_content.ensures
