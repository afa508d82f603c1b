use Rattle.ipld_show.proofs.Nodes.{no_node}
use Rattle.ipld_show.proofs.as_cbor.node_as_cbor.Goals as goal

pub returns-in-Err-clause-rejected : goal.returns-in-Err-clause-rejected
returns-in-Err-clause-rejected c = no_node c.args.bytes.now c.in-Err.error c.from.result c.from-in-Err.result c.in-Err.ensures.exact c.from.ensures c.from-in-Err.ensures
