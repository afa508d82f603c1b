use Rattle.ipld_de.proofs.Faithfully.{read_equal, written_equal}
use Rattle.ipld_de.proofs.laws.equal_values_law.Goals as goal

pub returns-clause-equal : goal.returns-clause-equal
returns-clause-equal g c = λ v w same. (g.met.T.Faithful.equal_by_contents.decides v w).1 same

pub returns-clause-same_contents : goal.returns-clause-same_contents
returns-clause-same_contents g c = λ v w equal. (g.met.T.Faithful.equal_by_contents.decides v w).0 equal

pub returns-clause-round_trip : goal.returns-clause-round_trip
returns-clause-round_trip g c = read_equal g.met.T.Lawful.round_trip g.met.T.Faithful.equal_by_contents

pub returns-clause-one_image : goal.returns-clause-one_image
returns-clause-one_image g c = written_equal g.met.T.Lawful.round_trip g.met.T.Faithful.equal_by_contents
