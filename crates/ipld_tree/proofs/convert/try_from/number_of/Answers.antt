use Rattle.std.proofs.Common.{rules, refl}
use Rattle.ipld_tree.proofs.Converting.{tried}
use Rattle.ipld_tree.proofs.convert.try_from.number_of.Goals as goal

pub returns-in-Ok : goal.returns-in-Ok
returns-in-Ok g c =
    tried g.N.TryFrom.try_from_gives c.args.target c.args.ipld c.in-Integer.number c.try_from.result _ c.in-Integer.is (search rules) c.try_from.ensures (rw c.in-Ok.is refl)

pub returns-in-Err : goal.returns-in-Err
returns-in-Err g c =
    tried g.N.TryFrom.try_from_gives c.args.target c.args.ipld c.in-Integer.number c.try_from.result _ c.in-Integer.is (search rules) c.try_from.ensures (rw c.in-Err.is refl)
