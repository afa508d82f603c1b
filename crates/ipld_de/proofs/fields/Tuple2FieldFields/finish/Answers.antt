use Rattle.std.proofs.Common.{[], ◌∷◌, refl}
use Rattle.std.proofs.lemmas.Result.{err_from_is_err_and}
use Rattle.ipld_de.specs.Fields.{found_or_named}
use Rattle.ipld_de.proofs.Naming.{first_missing, each_finished}
use Rattle.ipld_de.proofs.fields.Tuple2FieldFields.finish.Goals as goal

pub returns-in_err-finish-clause-err : goal.returns-in_err-finish-clause-err
returns-in_err-finish-clause-err g c = λ names.
    let p = err_from_is_err_and c.from_residual.result c.from_residual.ensures.1 in
    rw p.1 (first_missing (found_or_named g.T.Deserialize.contents g.T.Deserialize.reads g.M.IfMissing.missing c.args.self.0.value) (g.F.Fields.reads c.args.self.1) names (λ name. c.in_err-finish.ensures.err (name ∷ [])))

pub returns-clause-ok : goal.returns-clause-ok
returns-clause-ok g c = λ names long.
    rw (c.into_value.ensures, c.new-first.ensures) (each_finished (found_or_named g.T.Deserialize.contents g.T.Deserialize.reads g.M.IfMissing.missing c.args.self.0.value) (g.F.Fields.reads c.args.self.1) names g.F.Fields.count
    (g.T.Deserialize.contents c.in_ok-finish.field-0) (g.F.Fields.contents c.in_ok-others.others) long
    (λ name. c.in_ok-finish.ensures.ok (name ∷ []) refl) c.in_ok-others.ensures.ok)
