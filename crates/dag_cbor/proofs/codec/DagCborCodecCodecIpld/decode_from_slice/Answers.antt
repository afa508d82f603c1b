use Rattle.dag_cbor.proofs.Returning.{slice_decoded, slice_rejected}
use Rattle.dag_cbor.proofs.codec.DagCborCodecCodecIpld.decode_from_slice.Goals as goal

pub returns-clause-ok : goal.returns-clause-ok
returns-clause-ok c = slice_decoded c.decode_slice.result c.args.bytes.now c.decode_slice.ensures.found

pub returns-clause-err : goal.returns-clause-err
returns-clause-err c = slice_rejected c.decode_slice.result c.args.bytes.now c.decode_slice.ensures.errors c.decode_slice.ensures.only
