use Rattle.std.proofs.Common.{sym}
use Rattle.std.proofs.lemmas.Result.{err_from_is_err_and}
use Rattle.ipld_cid.specs.LinkOf.{link_of}
use Rattle.dag_cbor_format.proofs.CidLaws.{cid_laws}
use Rattle.dag_cbor_format.proofs.ItemHeaderLaws.{read_link-complete}
use Rattle.dag_cbor_format.proofs.LinkBytes.{no_link_bytes, link_found, link_missing}
use Rattle.dag_cbor_blocks.proofs.link.read_link_cid.Goals as goal

pub returns-in_err-encoded-clause-encoded : goal.returns-in_err-encoded-clause-encoded
returns-in_err-encoded-clause-encoded c =
    let error = err_from_is_err_and c.from_residual.result c.from_residual.ensures.1 in
    rw (error.1, error.2) (no_link_bytes c.args.bytes.now c.in_err-encoded.ensures.0, c.in_err-encoded.ensures.1)

pub returns-in-Ok : goal.returns-in-Ok
returns-in-Ok c =
    let read = c.in_ok-encoded in
    let found = c.in-Ok.ensures.found in
    record {
      encoded = link_found cid_laws c.args.bytes.now read.encoded.now read.rest.now (link_of c.in-Ok.cid) read.ensures found;
      cid = read_link-complete cid_laws read.encoded.now (link_of c.in-Ok.cid) found;
    }

pub returns-in-Err-clause-encoded : goal.returns-in-Err-clause-encoded
returns-in-Err-clause-encoded c =
    let missing = link_missing c.args.bytes.now c.in_ok-encoded.encoded.now c.in_ok-encoded.rest.now c.in-Err.error c.in_ok-encoded.ensures c.in-Err.ensures.exact in
    (missing.0, sym missing.1)
