use Rattle.dag_cbor_serde.proofs.RoundTrips.{written_reads, same_image_back, same_back}
use Rattle.dag_cbor_serde.proofs.laws.round_trip_law.Goals as goal

pub returns-clause-reads : goal.returns-clause-reads
returns-clause-reads g c = written_reads _ _ _ _ g.met.T.Lawful.round_trip

pub returns-clause-same_image : goal.returns-clause-same_image
returns-clause-same_image g c = same_image_back _ _ _ _ g.met.T.Lawful.round_trip

pub returns-clause-same : goal.returns-clause-same
returns-clause-same g c = same_back _ _ _ _ g.met.T.Lawful.round_trip
