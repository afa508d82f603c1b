use Rattle.dag_json.specs.Lemmas.Reading.{encoded_once}
use Rattle.dag_json.proofs.RoundTrip.{written_encodes}
use Rattle.dag_json.proofs.laws.read_law.Goals as goal

pub returns-clause-once : goal.returns-clause-once
returns-clause-once c = encoded_once

pub returns-clause-round_trip : goal.returns-clause-round_trip
returns-clause-round_trip c = written_encodes
