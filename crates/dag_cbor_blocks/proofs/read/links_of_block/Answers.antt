use Rattle.std.proofs.lemmas.Result.{err_from_is_err_and}
use Rattle.dag_cbor_blocks.proofs.EventReads.{finder_links, links_encoded, links_only, only_memory}
use Rattle.dag_cbor_blocks.proofs.read.links_of_block.Goals as goal

pub returns-clause-exact : goal.returns-clause-exact
returns-clause-exact c =
    let r = c.in_ok-finder.ensures in
    (finder_links c.args.options.now.floats c.args.bytes.now r.0 c.new.result c.in_ok-finder.finder c.new.ensures r.1, r.2)

pub returns-clause-found : goal.returns-clause-found
returns-clause-found c =
    let r = c.in_ok-finder.ensures in
    links_encoded c.args.options.now.floats c.args.bytes.now _ (finder_links c.args.options.now.floats c.args.bytes.now r.0 c.new.result c.in_ok-finder.finder c.new.ensures r.1)

pub returns-clause-only : goal.returns-clause-only
returns-clause-only c = λ i t encodes is within.
    let r = c.in_ok-finder.ensures in
    links_only c.args.options.now.floats c.args.bytes.now _ (finder_links c.args.options.now.floats c.args.bytes.now r.0 c.new.result c.in_ok-finder.finder c.new.ensures r.1) i t encodes is

pub returns-in_err-finder-clause-only : goal.returns-in_err-finder-clause-only
returns-in_err-finder-clause-only c = λ i t encodes is within.
    let p = err_from_is_err_and c.from_residual.result c.from_residual.ensures.1 in
    let error = c.in_err-finder.field-0.0 in
    rw (p.1, p.2) (only_memory c.args.options.now.floats c.args.options.now.limits c.args.bytes.now error.kind error.offset c.in_err-finder.ensures t (i, encodes, is) within)
