use Rattle.ipld_tree.specs.TreeOf.{tree_of}
use Rattle.ipld_de.proofs.RoundTrips.{reads_same_image, reads_same, reads_or_memory}
use Rattle.ipld_de.proofs.lawful.read_written.Goals as goal

pub returns-clause-same_image : goal.returns-clause-same_image
returns-clause-same_image g c = λ v is.
    reads_same_image g.met.T.Lawful.round_trip v (tree_of c.args.tree) is c.from_ipld.result c.from_ipld.ensures.ok

pub returns-clause-same : goal.returns-clause-same
returns-clause-same g c = λ v is plain.
    reads_same g.met.T.Lawful.round_trip v (tree_of c.args.tree) is plain c.from_ipld.result c.from_ipld.ensures.ok

pub returns-clause-memory_alone : goal.returns-clause-memory_alone
returns-clause-memory_alone g c = λ v is.
    reads_or_memory g.met.T.Lawful.round_trip (g.T.Deserialize.read_error (tree_of c.args.tree)) v (tree_of c.args.tree) is c.from_ipld.result c.from_ipld.ensures.err
