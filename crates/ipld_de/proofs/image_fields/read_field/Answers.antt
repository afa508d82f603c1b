use Rattle.ipld_de.specs.Fields.{strings}
use Rattle.ipld_de.proofs.ImageReading.{field_under, none_under}
use Rattle.ipld_de.proofs.image_fields.read_field.Goals as goal

pub returns-in-Some-clause-ok : goal.returns-in-Some-clause-ok
returns-in-Some-clause-ok g c =
    let names = strings c.args.names.now in
    field_under (g.R.ImageReader.Begins c.args.levels) g.F.Fields.parts names c.in-Some.index c.args.name.now _ _ (g.F.Fields.reads c.args.fields.now names) _ c.read_value.result
    c.requires.distinct c.in-Some.ensures.found (c.read_value.ensures.ok names c.args.name.now c.requires.distinct c.in-Some.ensures.found)

pub returns-in-None-clause-ok : goal.returns-in-None-clause-ok
returns-in-None-clause-ok g c =
    let names = strings c.args.names.now in
    none_under (g.R.ImageReader.Begins c.args.levels) g.F.Fields.parts names c.args.name.now _ _ (g.F.Fields.reads c.args.fields.now names) c.skip_tree.result
    c.in-None.ensures.none (λ t ms. g.met.F.Fields.skips c.args.fields.now names c.args.name.now t ms c.in-None.ensures.none) c.skip_tree.ensures.ok
