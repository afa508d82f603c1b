use Rattle.std.proofs.Common.{false, Some, map, sym, ap, ◌∙◌}
use Rattle.std.proofs.lemmas.Result.{err_from_is_err_and}
use Rattle.ipld_cid.specs.LinkOf.{link_of}
use Rattle.dag_cbor_format.proofs.FoundLinks.{read_without}
use Rattle.dag_cbor.proofs.BlockTrees.{failed_in_bytes, failed_memory, failed_first}
use Rattle.dag_cbor_blocks.proofs.EventReads.{finder_links}
use Rattle.dag_cbor.proofs.Found.{reported}
use Rattle.dag_cbor_blocks.proofs.Visits.{error_taken}
use Rattle.dag_cbor_format.proofs.CidLaws.{cid_laws}
use Rattle.dag_cbor.proofs.codec.DagCborCodecLinks.links.Goals as goal

pub returns-clause-ok : goal.returns-clause-ok
returns-clause-ok c =
    let r = c.in_ok-read_events.ensures in
    sym (read_without c.args.bytes.now) ∙ finder_links false c.args.bytes.now r.0 c.new-finder.result c.read_events.new.visitor c.new-finder.ensures r.1 ∙ ap (λ cids. Some (map link_of cids)) (sym c.new.ensures)

pub returns-in_err-read_events-clause-err : goal.returns-in_err-read_events-clause-err
returns-in_err-read_events-clause-err c =
    let p = err_from_is_err_and c.from_residual.result c.from_residual.ensures.1 in
    let error = c.in_err-read_events.field-0.0 in
    let taken = error_taken c.args.bytes.now error c.in_err-read_events.ensures in
    rw (p.1, p.2) (reported cid_laws c.args.bytes.now error (λ i t encodes is. failed_memory c.args.bytes.now error taken t (i, encodes, is)) (failed_in_bytes c.args.bytes.now error taken))

pub returns-in_err-read_events-clause-errors : goal.returns-in_err-read_events-clause-errors
returns-in_err-read_events-clause-errors c =
    let p = err_from_is_err_and c.from_residual.result c.from_residual.ensures.1 in
    rw (p.1, p.2) (failed_in_bytes c.args.bytes.now c.in_err-read_events.field-0.0 (error_taken c.args.bytes.now c.in_err-read_events.field-0.0 c.in_err-read_events.ensures))

pub returns-in_err-read_events-clause-first : goal.returns-in_err-read_events-clause-first
returns-in_err-read_events-clause-first c =
    let p = err_from_is_err_and c.from_residual.result c.from_residual.ensures.1 in
    rw (p.1, p.2) (failed_first c.args.bytes.now c.in_err-read_events.field-0.0 (error_taken c.args.bytes.now c.in_err-read_events.field-0.0 c.in_err-read_events.ensures))
