use Rattle.std.proofs.Common.{[], ◌∷◌, refl}
use Rattle.ipld_de.specs.Fields.{found_or_named, part}
use Rattle.ipld_de.specs.Lemmas.Skipping.{found_skips}
use Rattle.ipld_de.proofs.ImageReading.{first_value, others_value}
use Rattle.ipld_de.proofs.fields.Tuple2FieldFields.read_value.Goals as goal

pub returns-then-index-eq0-clause-ok : goal.returns-then-index-eq0-clause-ok
returns-then-index-eq0-clause-ok g c = λ names k distinct at.
    first_value (g.R.ImageReader.Begins c.args.levels) (part g.T.Deserialize.reads g.T.Deserialize.read_error) g.F.Fields.parts names c.args.index k (g.R.ImageReader.contents c.args.reader.now) (g.R.ImageReader.contents c.read_value.new.reader) c.read_value.result
    (found_or_named g.T.Deserialize.contents g.T.Deserialize.reads g.M.IfMissing.missing c.args.self.now.0.value) (found_or_named g.T.Deserialize.contents g.T.Deserialize.reads g.M.IfMissing.missing c.read_value.new.self.value)
    (g.F.Fields.reads c.args.self.now.1) c.if-index-eq0.true distinct at
    (c.read_value.ensures.ok (k ∷ []) k (refl, tt) refl) (λ t more ms none. g.met.F.Fields.skips c.args.self.now.1 more k t ms none)

pub returns-else-index-eq0-clause-ok : goal.returns-else-index-eq0-clause-ok
returns-else-index-eq0-clause-ok g c = λ names k distinct at.
    others_value (g.R.ImageReader.Begins c.args.levels) (part g.T.Deserialize.reads g.T.Deserialize.read_error) g.F.Fields.parts
    (found_or_named g.T.Deserialize.contents g.T.Deserialize.reads g.M.IfMissing.missing c.args.self.now.0.value) (g.F.Fields.reads c.args.self.now.1)
    (g.F.Fields.reads c.read_value-else-index-eq0.new.self) k (g.R.ImageReader.contents c.args.reader.now) (g.R.ImageReader.contents c.read_value-else-index-eq0.new.reader) names c.args.index
    c.read_value-else-index-eq0.result c.if-index-eq0.false distinct at
    (λ t name ms. found_skips g.T.Deserialize.contents g.T.Deserialize.reads g.M.IfMissing.missing c.args.self.now.0.value k t ms name)
    (λ more apart here. c.read_value-else-index-eq0.ensures.ok more k apart here)
