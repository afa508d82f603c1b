use Rattle.std.proofs.Common.{refl, rules}
use Rattle.car_files.proofs.Placing.{adds_one, adds_nothing}
use Rattle.car_files.proofs.places.SectionPlaces.add.Goals as goal

pub returns-then-not-self : goal.returns-then-not-self
returns-then-not-self c = adds_nothing c.args.self.now _ (search rules)

pub returns-in-Ok : goal.returns-in-Ok
returns-in-Ok c =
    adds_one c.args.self.now (record { is_kept = c.args.self.now.is_kept; places = c.push.new.self }) (record { cid = c.args.cid.now; offset = c.args.offset })
    (search rules) refl (search rules)
