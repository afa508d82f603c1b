use Rattle.car_files.proofs.Finding.{finds_all, fault_of_adding}
use Rattle.car_files.proofs.missing.find_missing.Goals as goal

pub returns-in-Err-clause-fault : goal.returns-in-Err-clause-fault
returns-in-Err-clause-fault g c =
    fault_of_adding _ _ _ _ c.args.label.now (g.E.Write.contents c.args.errors.now) (g.E.Write.contents c.add_car.new.errors) c.new-index.result c.add_car.new.index
    c.in-Err.error c.in-Err.ensures.fault

pub returns-in-Ok-missing-clause-found : goal.returns-in-Ok-missing-clause-found
returns-in-Ok-missing-clause-found g c =
    finds_all _ _ _ _ c.args.label.now (g.E.Write.contents c.args.errors.now) (g.E.Write.contents c.add_car.new.errors) c.new-index.result c.add_car.new.index
    c.in-Ok.seen c.in-Ok-missing.missing c.new-index.ensures c.in-Ok.ensures.added
    c.in-Ok-missing.ensures.once c.in-Ok-missing.ensures.exactly
