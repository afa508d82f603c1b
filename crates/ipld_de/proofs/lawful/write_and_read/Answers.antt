use Rattle.ipld_tree.specs.TreeOf.{tree_of}
use Rattle.ipld_de.proofs.RoundTrips.{written_same_image, reads_same, written_or_memory}
use Rattle.ipld_de.proofs.lawful.write_and_read.Goals as goal

pub returns-clause-same_image : goal.returns-clause-same_image
returns-clause-same_image g c =
    written_same_image g.met.T.Lawful.round_trip c.args.value.now (tree_of c.in_ok-image.image) c.in_ok-image.ensures.ok c.from_ipld.result c.from_ipld.ensures.ok

pub returns-clause-same : goal.returns-clause-same
returns-clause-same g c = λ plain.
    reads_same g.met.T.Lawful.round_trip c.args.value.now (tree_of c.in_ok-image.image) c.in_ok-image.ensures.ok plain c.from_ipld.result c.from_ipld.ensures.ok

pub returns-clause-err : goal.returns-clause-err
returns-clause-err g c =
    written_or_memory g.met.T.Lawful.round_trip (g.T.Deserialize.read_error (tree_of c.in_ok-image.image)) (g.T.Serialize.write_error c.args.value.now) c.args.value.now (tree_of c.in_ok-image.image) c.in_ok-image.ensures.ok c.from_ipld.result c.from_ipld.ensures.err
